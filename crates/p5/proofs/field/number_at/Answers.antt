-- `p5::field::number_at` meets its contract.
use Rattle.std.proofs.Common.{sym, ◌∙◌}
use Rattle.p5.proofs.Gap.{number-none, number-some}
use Rattle.p5.proofs.field.number_at.Goals as goal

pub returns-then-start-at : goal.returns-then-start-at
returns-then-start-at c = number-none _ _ (sym c.gap_end-start.ensures ∙ c.if-start-at.true)

pub returns-else-start-at : goal.returns-else-start-at
returns-else-start-at c =
    let e = c.gap_end-start.ensures in
    c.digits_at.ensures ∙ rw e (number-some _ _ (λ same. c.if-start-at.false (e ∙ same)))
