-- `winner::build_winners` meets its contract. The invariant is Building: the tree is in order from a cell on.
use Rattle.std.proofs.Common.{◌≤◌}
use Rattle.watershed_laws.proofs.WinnerSteps.{Building}
use Rattle.winner.proofs.build_winners.Given as goal

abbrev pub invariant-loop-i : goal.invariant-loop-i
invariant-loop-i l = Building l.n l.pixels l.cells l.i × (1 ≤ l.i)
