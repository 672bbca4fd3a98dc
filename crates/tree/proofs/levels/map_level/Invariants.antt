-- `tree::levels::map_level` meets its contract.
use Rattle.tree_laws.proofs.Mapped.{MapWalk}
use Rattle.std.proofs.Common.{length, ◌-◌}
use Rattle.tree.proofs.levels.map_level.Given as goal

abbrev pub invariant-loop-x : goal.invariant-loop-x
invariant-loop-x l = MapWalk l.head l.initial.cells l.initial.work l.x l.cells l.work

abbrev pub decreases-loop-x : goal.decreases-loop-x
decreases-loop-x l = length l.initial.cells - l.x
