-- `winner::replay` meets its contract. The invariant is Replaying: one cell may be wrong, the next to play.
use Rattle.watershed_laws.proofs.WinnerSteps.{replay-turn}
use Rattle.winner.proofs.replay.Goals as goal

pub loop-j-preserved : goal.loop-j-preserved
loop-j-preserved c = replay-turn _ _ _ _ _ _ _ c.loop-j.invariant c.loop-j-test.true c.if-play.ensures

pub returns-else-play : goal.returns-else-play
returns-else-play c = replay-turn _ _ _ _ _ _ _ c.loop-j.invariant c.loop-j-test.true c.if-play.ensures
