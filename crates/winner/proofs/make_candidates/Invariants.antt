-- `winner::make_candidates` meets its contract. The invariant is MakingCandidates among the neighbours passed.
use Rattle.watershed_laws.proofs.WinnerSteps.{MakingCandidates}
use Rattle.winner.proofs.make_candidates.Given as goal

abbrev pub invariant-loop-y : goal.invariant-loop-y
invariant-loop-y l = MakingCandidates l.n l.pixels l.initial.cells l.stop l.k l.near l.cells l.y-index
