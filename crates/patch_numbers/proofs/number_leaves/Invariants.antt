-- `patch_numbers::number_leaves` meets its contract. The invariant is Numbers.
use Rattle.patch_numbers.specs.Numbers.{Numbers}
use Rattle.patch_numbers.proofs.number_leaves.Given as goal

abbrev pub invariant-loop-x : goal.invariant-loop-x
invariant-loop-x l = Numbers l.n l.initial.work l.marks l.x l.r l.work
