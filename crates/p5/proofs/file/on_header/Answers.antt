-- `p5::file::on_header` meets its contract.
use Rattle.std.proofs.Common.{sym, ◌∙◌}
use Rattle.p5.proofs.Answers.{sides-outside, largest-outside, count-differs, count_same}
use Rattle.p5.proofs.file.on_header.Goals as goal

pub returns-then-not-sides_fit : goal.returns-then-not-sides_fit
returns-then-not-sides_fit c = sides-outside _ _ (sym c.sides_fit.ensures ∙ c.if-not-sides_fit.true)

pub returns-then-not-largest_fits : goal.returns-then-not-largest_fits
returns-then-not-largest_fits c =
    largest-outside _ _ (sym c.sides_fit.ensures ∙ c.if-not-sides_fit.false) (sym c.largest_fits.ensures ∙ c.if-not-largest_fits.true)

pub returns-then-not-count_fits : goal.returns-then-not-count_fits
returns-then-not-count_fits c =
    count-differs _ _ (sym c.sides_fit.ensures ∙ c.if-not-sides_fit.false) (sym c.largest_fits.ensures ∙ c.if-not-largest_fits.false)
    (sym c.count_fits.ensures ∙ c.if-not-count_fits.true)

pub returns : goal.returns
returns c =
    c.on_pixels.ensures
    ∙ count_same _ _ (sym c.sides_fit.ensures ∙ c.if-not-sides_fit.false) (sym c.largest_fits.ensures ∙ c.if-not-largest_fits.false)
    (sym c.count_fits.ensures ∙ c.if-not-count_fits.false)
