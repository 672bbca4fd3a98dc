-- `tree::levels::number_level` meets its contract.
use Rattle.tree_laws.proofs.Mapped.{NameWalk}
use Rattle.tree.proofs.levels.number_level.Given as goal

abbrev pub invariant-loop-i : goal.invariant-loop-i
invariant-loop-i l = NameWalk l.k l.c l.d l.i l.initial.cells l.initial.work l.cells l.work
