-- `text::put_field` meets its contract.
use Rattle.std.proofs.Common.{arith}
use Rattle.lists.proofs.Writings.{written_then}
use Rattle.text.proofs.put_field.Goals as goal

pub returns : goal.returns
returns c =
    let n = c.put_number-next in
    written_then (omega (arith, c.requires)) n.ensures c.put.ensures
