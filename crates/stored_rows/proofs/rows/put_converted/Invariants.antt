-- `stored_rows::rows::put_converted` meets its contract. The invariant is RowBegun: the first i entries are written, and `left` is the last pixel
-- passed.
use Rattle.stored_rows.specs.Steps.{converted_from, row_pixels}
use Rattle.stored_rows.proofs.RowLoops.{RowBegun}
use Rattle.stored_rows.proofs.rows.put_converted.Given as goal

abbrev pub invariant-loop-i : goal.invariant-loop-i
invariant-loop-i g l =
    RowBegun (converted_from g.D.Direction.back l.row) (row_pixels g.D.Direction.back l.row) l.at l.initial.out l.left l.i l.out
