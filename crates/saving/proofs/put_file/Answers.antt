-- `saving::put_file` meets its contract.
use native.Mathlib.Omega.{arith}
use Rattle.lists.proofs.Writings.{written_then, written-front}
use Rattle.saving.proofs.put_file.Goals as goal

pub returns : goal.returns
returns c =
    written-front
    (written_then (omega arith) c.put_bytes-next.ensures c.put_bytes.ensures)
