-- `climbs::label_nodes` meets its contract. The invariant: the first i nodes have their numbers.
use Rattle.climbs.specs.Climbs.{NodesLabelled}
use Rattle.climbs.proofs.label_nodes.Given as goal

abbrev pub invariant-loop-i : goal.invariant-loop-i
invariant-loop-i l = NodesLabelled l.n l.i l.initial.work l.work
