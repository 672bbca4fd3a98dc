-- `falls::fall::lowest` meets its contract. The invariant is Lowest among the neighbours passed.
use Rattle.std.proofs.Common.{length}
use Rattle.watershed_laws.proofs.Stopping.{Lowest}
use Rattle.falls.proofs.fall.lowest.Given as goal

abbrev pub invariant-loop-y : goal.invariant-loop-y
invariant-loop-y l = Lowest (length l.pixels) l.pixels l.x l.near l.y-index l.low
