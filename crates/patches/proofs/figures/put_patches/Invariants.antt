-- `patches::figures::put_patches` meets its contract. The invariant is Patched.
use Rattle.patches.specs.Figures.{Patched}
use Rattle.patches.proofs.figures.put_patches.Given as goal

abbrev pub invariant-loop-x : goal.invariant-loop-x
invariant-loop-x l = Patched l.n l.pixels l.numbers l.x l.initial.work l.r l.work
