-- `tree::joins::join_pixels` meets its contract.
use Rattle.tree_laws.proofs.Walks.{ready-end}
use Rattle.std.proofs.Common.{arith}
use Rattle.tree.proofs.joins.join_pixels.Goals as goal

pub returns : goal.returns
returns c =
    let i = c.loop-x.invariant in
    (ready-end _ _ _ _ _ i.0 (omega (arith, c.loop-x-test.false, i.0.classes.size)), i.1)
