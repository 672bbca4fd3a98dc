-- `board_c::read_bytes` meets its contract: the file's refusal, the output's, else the header in the output.
use Rattle.std.proofs.Common.{arith}
use Rattle.std.proofs.lemmas.Result.{err_from_is_err_and}
use Rattle.lists.proofs.Writings.{written_then}
use Rattle.board_c.proofs.ForC.{read-refused-file, read-refused-output, read_done}
use Rattle.board_c.proofs.read_bytes.Goals as goal

pub returns-in_err-header : goal.returns-in_err-header
returns-in_err-header c =
    let p = err_from_is_err_and c.from_residual.result c.from_residual.ensures.1 in
    rw (p.1, p.2) (read-refused-file _ _ _ c.in_err-header.ensures)

pub returns-in_err-room : goal.returns-in_err-room
returns-in_err-room c =
    let p = err_from_is_err_and c.from_residual-in_err-room.result c.from_residual-in_err-room.ensures.1 in
    rw (p.1, p.2) (read-refused-output _ _ _ c.in_ok-header.ensures _ c.in_err-room.ensures)

pub returns : goal.returns
returns c =
    let first = rw (c.from.ensures, c.from-2.ensures) at c.put_pair-next.ensures in
    let second = rw c.from-3.ensures at c.put_pair.ensures in
    read_done _ _ _ c.in_ok-header.ensures _ c.in_ok-room.ensures (written_then (omega arith) first second)
