-- `verify_nodes::check_map` meets its contract.
use Rattle.verify_nodes.proofs.NodeChecks.{MapCheckedTo}
use Rattle.verify_nodes.proofs.check_map.Given as goal

abbrev pub invariant-loop-x : goal.invariant-loop-x
invariant-loop-x l = MapCheckedTo l.pixels l.k l.x l.initial.cells l.map l.cells
