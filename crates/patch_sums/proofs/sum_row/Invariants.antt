-- `patch_sums::sum_row` meets its contract. The invariant is RowSummed.
use Rattle.patch_sums.specs.Sums.{RowSummed}
use Rattle.patch_sums.proofs.sum_row.Given as goal

abbrev pub invariant-loop-column : goal.invariant-loop-column
invariant-loop-column l = RowSummed l.w l.n l.row l.column l.numbers l.initial.work l.run l.work
