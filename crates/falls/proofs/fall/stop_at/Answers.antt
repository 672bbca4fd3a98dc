-- `falls::fall::stop_at` meets its contract. The invariant is Stopped among the neighbours passed.
use Rattle.watershed_laws.proofs.Stopping.{stop-turn}
use Rattle.falls.proofs.fall.stop_at.Goals as goal

pub loop-y-preserved : goal.loop-y-preserved
loop-y-preserved c = stop-turn _ _ _ _ _ _ _ _ _ c.loop-y.invariant (rw c.from.ensures at c.raise-stop.ensures)
