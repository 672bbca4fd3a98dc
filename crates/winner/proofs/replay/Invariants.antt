-- `winner::replay` meets its contract. The invariant is Replaying: one cell may be wrong, the next to play.
use Rattle.watershed_laws.proofs.WinnerSteps.{Replaying}
use Rattle.winner.proofs.replay.Given as goal

abbrev pub invariant-loop-j : goal.invariant-loop-j
invariant-loop-j l = Replaying l.n l.pixels l.initial.cells l.cells l.j

abbrev pub decreases-loop-j : goal.decreases-loop-j
decreases-loop-j l = l.j
