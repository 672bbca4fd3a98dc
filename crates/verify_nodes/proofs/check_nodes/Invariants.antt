-- `verify_nodes::check_nodes` meets its contract.
use Rattle.verify_nodes.proofs.NodeChecks.{NodesNumbered}
use Rattle.verify_nodes.proofs.check_nodes.Given as goal

abbrev pub invariant-loop-i : goal.invariant-loop-i
invariant-loop-i l = NodesNumbered l.pixels l.k l.c l.i l.initial.cells l.firsts l.cells
