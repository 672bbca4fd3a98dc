-- `hold_lines::put_count` meets its contract: the word, and behind it a number of at most five digits.
use Rattle.std.proofs.Common.{arith}
use Rattle.lists.proofs.Writings.{written_then}
use Rattle.text.proofs.Decimals.{decimal-length}
use Rattle.hold_lines.proofs.put_count.Goals as goal

pub put_number-requires : goal.put_number-requires
put_number-requires c = omega (arith, c.put_bytes-next.ensures.end, decimal-length 4 c.args.count c.requires.0)

pub returns : goal.returns
returns c =
    let word = c.put_bytes-next.ensures in
    let number = c.put_number.ensures in
    (written_then (omega arith) word number, omega (arith, decimal-length 4 c.args.count c.requires.0))
