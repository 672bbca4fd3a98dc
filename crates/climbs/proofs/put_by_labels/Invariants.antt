-- `climbs::put_by_labels` meets its contract. The invariant: the climbs and labels after the first i nodes.
use Rattle.climbs.specs.Climbs.{ClimbsBefore}
use Rattle.climbs.proofs.put_by_labels.Given as goal

abbrev pub invariant-loop-i : goal.invariant-loop-i
invariant-loop-i l = ClimbsBefore l.n l.count l.most l.i l.initial.work l.work
