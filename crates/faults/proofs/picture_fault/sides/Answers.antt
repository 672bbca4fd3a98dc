-- `faults::sides` meets its contract: each return is one law of the fault.
use Rattle.std.proofs.Common.{sym, ◌∙◌, eq-eqb}
use borrow.Author.Tests.{ne_eqb}
use Rattle.faults.proofs.Accepted.{sides-outside, sides-length, sides-none}
use Rattle.faults.proofs.picture_fault.sides.Goals as goal

pub returns-then-not-sides_fit : goal.returns-then-not-sides_fit
returns-then-not-sides_fit c = sym (sides-outside _ _ _ (sym c.sides_fit.ensures ∙ c.if-not-sides_fit.true))

pub returns-then-length-w : goal.returns-then-length-w
returns-then-length-w c = sym (sides-length _ _ _ (sym c.sides_fit.ensures ∙ c.if-not-sides_fit.false) (ne_eqb _ _ c.if-length-w.true))

pub returns : goal.returns
returns c = sym (sides-none _ _ _ (sym c.sides_fit.ensures ∙ c.if-not-sides_fit.false) (eq-eqb _ _ c.if-length-w.false))
