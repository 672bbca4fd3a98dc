-- `patch_numbers::mark_fathers` meets its contract. The invariant: the fathers of the first nodes are marked.
use Rattle.patch_numbers.specs.Numbers.{Marks}
use Rattle.patch_numbers.proofs.mark_fathers.Given as goal

abbrev pub invariant-loop-father : goal.invariant-loop-father
invariant-loop-father l = Marks l.n l.father-index l.work l.cells
