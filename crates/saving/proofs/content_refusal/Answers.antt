-- `saving::content_refusal` meets its contract: each return is one law of the fault.
use Rattle.std.proofs.Common.{sym, refl, ◌∙◌, arith}
use borrow.Author.Tests.{eq-eqb, ne_eqb}
use Rattle.p5.proofs.Answers.{above_none, above-some}
use Rattle.saving.proofs.Contents.{fault-sides, fault-largest, fault-count, fault-above, fault-none, content-number, content-above}
use Rattle.saving.proofs.content_refusal.Goals as goal

pub returns-then-not-sides_fit : goal.returns-then-not-sides_fit
returns-then-not-sides_fit c =
    let unfit = sym c.sides_fit.ensures ∙ c.if-not-sides_fit.true in
    content-number _ _ _ _ (fault-sides _ _ _ _ unfit) (λ z. omega arith) refl

pub returns-then-not-largest_fits : goal.returns-then-not-largest_fits
returns-then-not-largest_fits c =
    let sides = sym c.sides_fit.ensures ∙ c.if-not-sides_fit.false in
    let unfit = sym c.largest_fits.ensures ∙ c.if-not-largest_fits.true in
    content-number _ _ _ _ (fault-largest _ _ _ _ sides unfit) (λ z. omega arith) refl

pub returns-then-not-count_fits : goal.returns-then-not-count_fits
returns-then-not-count_fits c =
    let sides = sym c.sides_fit.ensures ∙ c.if-not-sides_fit.false in
    let largest = sym c.largest_fits.ensures ∙ c.if-not-largest_fits.false in
    let unfit = sym c.count_fits.ensures ∙ c.if-not-count_fits.true in
    content-number _ _ _ _ (fault-count _ _ _ _ sides largest unfit) (λ z. omega arith) refl

pub returns-in-None : goal.returns-in-None
returns-in-None c =
    let sides = sym c.sides_fit.ensures ∙ c.if-not-sides_fit.false in
    let largest = sym c.largest_fits.ensures ∙ c.if-not-largest_fits.false in
    let count = sym c.count_fits.ensures ∙ c.if-not-count_fits.false in
    let none = eq-eqb _ _ (above_none c.args.largest c.args.pixels.now (sym c.first_above.ensures ∙ c.in-None.is)) in
    content-number _ _ _ _ (fault-none _ _ _ _ sides largest count none) (λ z. omega arith) refl

pub returns-in-Some : goal.returns-in-Some
returns-in-Some c =
    let sides = sym c.sides_fit.ensures ∙ c.if-not-sides_fit.false in
    let largest = sym c.largest_fits.ensures ∙ c.if-not-largest_fits.false in
    let count = sym c.count_fits.ensures ∙ c.if-not-count_fits.false in
    let above = above-some c.args.largest c.args.pixels.now (sym c.first_above.ensures ∙ c.in-Some.is) in
    content-above _ _ _ _ (fault-above _ _ _ _ sides largest count (ne_eqb _ _ above.0)) (sym above.1) refl
