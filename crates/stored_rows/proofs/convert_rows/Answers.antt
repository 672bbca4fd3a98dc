-- `stored_rows::convert_rows` meets its contract: a refusal leaves the output as it was.
use Rattle.std.proofs.Common.{sym}
use Rattle.stored_rows.proofs.RowCalls.{fits}
use Rattle.stored_rows.proofs.convert_rows.Goals as goal

pub put_rows-requires : goal.put_rows-requires
put_rows-requires g c = fits (sym c.in_ok-rows_refusal.ensures)
