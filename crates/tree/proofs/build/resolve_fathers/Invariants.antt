-- `tree::build::resolve_fathers` meets its contract.
use Rattle.tree_laws.proofs.Resolving.{ResolveWalk}
use Rattle.tree.proofs.build.resolve_fathers.Given as goal

abbrev pub invariant-loop-i : goal.invariant-loop-i
invariant-loop-i l = ResolveWalk l.n l.c l.i l.initial.work l.work
