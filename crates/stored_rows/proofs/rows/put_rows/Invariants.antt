-- `stored_rows::rows::put_rows` meets its contract. The invariant is RowsBegun: the first i rows are written.
use Rattle.stored_rows.specs.Steps.{converted_row}
use Rattle.stored_rows.proofs.RowWrites.{RowsBegun}
use Rattle.stored_rows.proofs.rows.put_rows.Given as goal

abbrev pub invariant-loop-i : goal.invariant-loop-i
invariant-loop-i g l = RowsBegun (converted_row g.D.Direction.back l.w l.h l.bytes) l.w l.h l.initial.out l.i l.out
