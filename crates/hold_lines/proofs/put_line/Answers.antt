-- `hold_lines::put_line` meets its contract: the six numbers are those of the line, and take at most 37 bytes.
use Rattle.std.proofs.Common.{◌≡◌, [], ◌∷◌, ℕ, ◌≤◌, length, ap₂, ◌∙◌, arith}
use Rattle.centres.specs.Centres.{centre}
use Rattle.text.specs.Decimal.{fields}
use Rattle.hold_lines.proofs.Lengths.{line-length, centre-digits, line-is}
use Rattle.hold_lines.proofs.put_line.Goals as goal

-- the numbers, as they are computed, take at most 37 bytes
short :
    (n s h d c r e g : ℕ) → n ≤ 1600 → s ≤ 65535 → h ≤ 255 → d ≤ 255 → c ≤ 65535 → r ≤ 65535 → e ≡ centre c s → g ≡ centre r s →
    length (fields (n ∷ s ∷ h ∷ d ∷ e ∷ g ∷ [])) ≤ 37
short n s h d c r e g hn hs hh hd hc hr pe pg =
    line-length n s h d e g (omega arith) (omega arith) (omega arith) (omega arith) (omega (arith, pe, centre-digits c s hc))
    (omega (arith, pg, centre-digits r s hr))

pub put_fields-requires : goal.put_fields-requires
put_fields-requires c =
    let l =
    short c.from-number.result c.from-size.result c.from-height.result c.from-depth.result c.from.result c.from-2.result c.centre-column.result
    c.centre-row.result (omega arith) (omega arith) (omega arith) (omega arith) (omega arith) (omega arith) c.centre-column.ensures
    c.centre-row.ensures
    in
    (omega arith, omega arith)

pub returns : goal.returns
returns c =
    let size = c.from-size.ensures in
    let numbers =
    line-is c.args.patch.columns c.args.patch.rows c.from-number.ensures size c.from-height.ensures c.from-depth.ensures (c.centre-column.ensures ∙ ap₂ centre c.from.ensures size)
    (c.centre-row.ensures ∙ ap₂ centre c.from-2.ensures size)
    in
    let l =
    short c.from-number.result c.from-size.result c.from-height.result c.from-depth.result c.from.result c.from-2.result c.centre-column.result
    c.centre-row.result (omega arith) (omega arith) (omega arith) (omega arith) (omega arith) (omega arith) c.centre-column.ensures
    c.centre-row.ensures
    in
    (rw numbers at c.put_fields.ensures, omega (arith, c.put_fields.ensures.end))
