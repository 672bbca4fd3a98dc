-- `union_find::link` meets its contract.
use Rattle.std.proofs.Common.{arith}
use Rattle.tree_laws.proofs.Forests.{linked-below, linked-above}
use Rattle.union_find.proofs.link.Goals as goal

pub returns-then-q-r : goal.returns-then-q-r
returns-then-q-r c = linked-below _ _ _ _ c.if-q-r.true

pub returns-else-q-r : goal.returns-else-q-r
returns-else-q-r c = linked-above _ _ _ _ (omega (arith, c.if-q-r.false, c.requires.0))
