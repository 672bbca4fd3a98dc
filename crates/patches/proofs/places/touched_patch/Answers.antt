-- `patches::places::touched_patch` meets its contract: the number touches like the handbook whose rule it follows.
use Rattle.std.proofs.Common.{◌∙◌}
use Rattle.patches.proofs.Touches.{touched-alike}
use Rattle.patches.proofs.places.touched_patch.Goals as goal

pub returns : goal.returns
returns c = c.touched_by.ensures ∙ touched-alike _ _ _ _ c.rule_of.ensures
