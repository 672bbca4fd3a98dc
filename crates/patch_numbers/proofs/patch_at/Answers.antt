-- `patch_numbers::patch_at` meets its contract.
use Rattle.std.proofs.Common.{◌∙◌}
use Rattle.patch_numbers.proofs.Numbering.{patch-is}
use Rattle.patch_numbers.proofs.patch_at.Goals as goal

pub returns : goal.returns
returns c = c.number_if.ensures ∙ patch-is _ _ _ _ _ c.from-m.ensures
