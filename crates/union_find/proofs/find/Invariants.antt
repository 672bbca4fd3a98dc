-- `union_find::find` meets its contract.
use Rattle.tree_laws.proofs.Forests.{Walked}
use Rattle.union_find.proofs.find.Given as goal

abbrev pub invariant-loop-cells : goal.invariant-loop-cells
invariant-loop-cells l = Walked l.initial.cells l.x l.i l.cells

abbrev pub decreases-loop-cells : goal.decreases-loop-cells
decreases-loop-cells l = l.i
