-- `falls::fall::lowest` meets its contract. The invariant is Lowest among the neighbours passed.
use Rattle.watershed_laws.proofs.Stopping.{lowest-turn}
use Rattle.falls.proofs.fall.lowest.Goals as goal

pub loop-y-preserved : goal.loop-y-preserved
loop-y-preserved c =
    lowest-turn _ _ _ _ _ _ _ (c.requires.0.each _ c.loop-y-test.true) c.loop-y.invariant (rw c.from.ensures at c.lower-low.ensures)
