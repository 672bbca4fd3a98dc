-- `edges::files::put_headed` meets its contract.
use Rattle.std.proofs.Common.{arith}
use Rattle.lists.proofs.Writings.{written_then}
use Rattle.edges.proofs.files.put_headed.Goals as goal

pub returns : goal.returns
returns c = written_then (omega (arith, c.requires.1)) c.put_bytes-next.ensures c.put_pixels.ensures
