-- `stored_rows::rows_refusal` meets its contract: the fault of sides and count, then that of the output's length.
use Rattle.std.proofs.Common.{sym, ◌∙◌}
use Rattle.std.proofs.lemmas.Result.{err_from_is_err_and}
use Rattle.stored_rows.proofs.RowCalls.{sides-refused, room-left}
use Rattle.stored_rows.proofs.rows_refusal.Goals as goal

pub returns-in_err-sides : goal.returns-in_err-sides
returns-in_err-sides c =
    let p = err_from_is_err_and c.from_residual.result c.from_residual.ensures.1 in
    rw (p.1, p.2) (sides-refused _ _ _ _ _ c.in_err-sides.ensures)

pub returns : goal.returns
returns c = c.room.ensures ∙ sym (room-left _ _ _ _ c.in_ok-sides.ensures)
