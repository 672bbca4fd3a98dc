-- `p5::field::gap_end` meets its contract.
use Rattle.std.proofs.Common.{ap, sym, ◌+◌, ◌∙◌, ◌<◌, length, false, arith, length-drop}
use Rattle.p5.specs.Headers.{blank_length}
use Rattle.p5.proofs.Blanks.{blank-le}
use Rattle.p5.proofs.Gap.{gap-none, gap-white}
use Rattle.p5.proofs.Walking.{white-within}
use Rattle.p5.proofs.field.gap_end.Goals as goal

pub overflow_add-result : goal.overflow_add-result
overflow_add-result c =
    let f = c.args.file.now in
    let at = c.args.at in
    let within : at < length f = white-within f at (sym c.white_at.ensures ∙ c.if-white_at.true) in
    omega (arith, ap length c.bytes_from.ensures, length-drop at f, blank-le false c.bytes_from.result.now)

pub returns-then-white_at : goal.returns-then-white_at
returns-then-white_at c =
    let f = c.args.file.now in
    ap (λ n. c.args.at + n) (c.blank_length.ensures ∙ ap (blank_length false) c.bytes_from.ensures)
    ∙ gap-white f c.args.at (sym c.white_at.ensures ∙ c.if-white_at.true)

pub returns-else-white_at : goal.returns-else-white_at
returns-else-white_at c = gap-none _ _ (sym c.white_at.ensures ∙ c.if-white_at.false)
