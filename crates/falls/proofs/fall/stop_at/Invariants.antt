-- `falls::fall::stop_at` meets its contract. The invariant is Stopped among the neighbours passed.
use Rattle.watershed_laws.proofs.Stopping.{Stopped}
use Rattle.falls.proofs.fall.stop_at.Given as goal

abbrev pub invariant-loop-y : goal.invariant-loop-y
invariant-loop-y l = Stopped l.n l.pixels l.tree l.low l.k l.near l.y-index l.stop
