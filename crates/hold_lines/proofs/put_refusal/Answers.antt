-- `hold_lines::put_refusal` meets its contract: the word, and behind it a number of at most five digits.
use Rattle.std.proofs.Common.{arith}
use Rattle.text.proofs.Decimals.{one-length}
use Rattle.hold_lines.proofs.put_refusal.Goals as goal

pub put_word-requires : goal.put_word-requires
put_word-requires c = (omega arith, omega (arith, one-length 4 c.args.number c.requires.0))

pub returns : goal.returns
returns c =
    let line = c.put_word.ensures in
    (line, omega (arith, one-length 4 c.args.number c.requires.0))
