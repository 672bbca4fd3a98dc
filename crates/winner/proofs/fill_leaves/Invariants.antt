-- `winner::fill_leaves` meets its contract. The invariant is Filling: the leaves passed are set.
use Rattle.watershed_laws.proofs.WinnerSteps.{Filling}
use Rattle.winner.proofs.fill_leaves.Given as goal

abbrev pub invariant-loop-x : goal.invariant-loop-x
invariant-loop-x l = Filling l.n l.cells l.x
