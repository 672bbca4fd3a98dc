-- `union_find::find` meets its contract.
use Rattle.tree_laws.proofs.Forests.{walk_turn}
use Rattle.union_find.proofs.find.Goals as goal

pub loop-cells-preserved : goal.loop-cells-preserved
loop-cells-preserved c = walk_turn _ _ _ _ _ _ c.loop-cells.invariant c.split-i.ensures.walked
