-- `patches::cores::touch_core` meets its contract: the number touches like the handbook whose rule it follows.
use Rattle.std.proofs.Common.{◌∙◌}
use Rattle.patches.proofs.Touches.{touched-alike}
use Rattle.patches.proofs.cores.touch_core.Goals as goal

pub returns : goal.returns
returns c = c.touch_by.ensures ∙ touched-alike _ _ _ _ c.rule_of.ensures
