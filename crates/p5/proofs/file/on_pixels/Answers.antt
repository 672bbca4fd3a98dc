-- `p5::file::on_pixels` meets its contract.
use Rattle.std.proofs.Common.{sym, ◌∙◌}
use Rattle.p5.proofs.Answers.{pixels-none, pixels-some}
use Rattle.p5.proofs.file.on_pixels.Goals as goal

pub returns-in-None : goal.returns-in-None
returns-in-None c = pixels-none _ _ (sym c.first_above.ensures ∙ c.in-None.is)

pub returns-in-Some : goal.returns-in-Some
returns-in-Some c = pixels-some _ _ (sym c.first_above.ensures ∙ c.in-Some.is)
