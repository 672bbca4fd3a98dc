-- `hold_lines::put_head` meets its contract: the words and numbers one behind the other, each number with at most five digits.
use Rattle.std.proofs.Common.{[], ◌∷◌, arith}
use Rattle.text.specs.Decimal.{decimal, fields}
use Rattle.lists.proofs.Writings.{written_then}
use Rattle.hold_lines.specs.Lines.{picture_word, patches_word, line_word}
use Rattle.hold_lines.proofs.Lengths.{head-is}
use Rattle.text.proofs.Decimals.{one-length, two-length}
use Rattle.hold_lines.proofs.put_head.Goals as goal

pub put_word-second-requires : goal.put_word-second-requires
put_word-second-requires c = (omega arith, omega (arith, two-length 4 c.args.w c.args.h c.requires.0 c.requires.1))

pub put_count-third-requires : goal.put_count-third-requires
put_count-third-requires c =
    let sides = c.put_word-second.ensures in
    (c.requires.2, omega (arith, two-length 4 c.args.w c.args.h c.requires.0 c.requires.1))

pub put_word-requires : goal.put_word-requires
put_word-requires c =
    let sides = c.put_word-second.ensures in
    let l = two-length 4 c.args.w c.args.h c.requires.0 c.requires.1 in
    (omega arith, omega (arith, one-length 4 c.args.line c.requires.3))

pub returns : goal.returns
returns c =
    let sides = c.put_word-second.ensures in
    let count = c.put_count-third.ensures in
    let line = c.put_word.ensures in
    let l = two-length 4 c.args.w c.args.h c.requires.0 c.requires.1 in
    let head = head-is picture_word (fields (c.args.w ∷ c.args.h ∷ [])) patches_word (decimal c.args.count) line_word (fields (c.args.line ∷ [])) in (
      rw head at (written_then (omega arith) (written_then (omega arith) sides count.0) line),
      omega (arith, one-length 4 c.args.line c.requires.3),
    )
