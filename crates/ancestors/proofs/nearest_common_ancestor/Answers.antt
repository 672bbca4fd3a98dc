-- `ancestors::nearest_common_ancestor` meets its contract. The invariant is Climbed: a climb from the two nodes is on its way.
use Rattle.std.proofs.Common.{◌<◌, arith}
use Rattle.ancestors.proofs.Ancestors.{climb-left, climb-right, climb-end}
use Rattle.ancestors.proofs.nearest_common_ancestor.Goals as goal

pub loop-c-preserved-then-c-d : goal.loop-c-preserved-then-c-d
loop-c-preserved-then-c-d c = rw c.from-c.ensures (climb-left _ _ _ _ _ c.loop-c.invariant c.if-c-d.true)

pub loop-c-preserved : goal.loop-c-preserved
loop-c-preserved c =
    let h : c.loop-c.d < c.loop-c.c = omega arith in
    rw c.from-d.ensures (climb-right _ _ _ _ _ c.loop-c.invariant h)

pub returns : goal.returns
returns c = climb-end _ _ _ _ _ c.loop-c.invariant c.loop-c-test.false
