-- `verify_nodes::run_end` meets its contract.
use Rattle.verify_nodes.proofs.NodeChecks.{RunTo}
use Rattle.verify_nodes.proofs.run_end.Given as goal

abbrev pub invariant-loop-i : goal.invariant-loop-i
invariant-loop-i l = RunTo l.k l.c l.i l.heights
