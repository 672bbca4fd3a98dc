-- `p5::header::header_end` meets its contract.
use mathlib.Core.Path.{◌∙◌}
use mathlib.Core.Path.{sym}
use Rattle.p5.proofs.Walking.{end-stop, end-white}
use Rattle.p5.proofs.header.header_end.Goals as goal

pub returns-then-not-white_at : goal.returns-then-not-white_at
returns-then-not-white_at c = end-stop _ _ _ _ _ (sym c.white_at.ensures ∙ c.if-not-white_at.true)

pub returns : goal.returns
returns c = end-white _ _ _ _ _ (sym c.white_at.ensures ∙ c.if-not-white_at.false)
