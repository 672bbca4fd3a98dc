-- `text::put_word` meets its contract.
use Rattle.std.proofs.Common.{arith}
use Rattle.lists.proofs.Writings.{written_then}
use Rattle.text.proofs.put_word.Goals as goal

pub returns : goal.returns
returns c = written_then (omega (arith, c.requires.1)) c.put_bytes-next.ensures c.put_fields.ensures
