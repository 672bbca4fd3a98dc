-- `least_labels::least_label` meets its contract. The invariant: the labels of the first i nodes are handed up.
use Rattle.least_labels.proofs.Labels.{handed-more, handed-least}
use Rattle.least_labels.proofs.least_label.Goals as goal

pub loop-i-preserved : goal.loop-i-preserved
loop-i-preserved c = handed-more c.requires.1 c.loop-i-test.true c.loop-i.invariant c.hand_up.ensures

pub returns : goal.returns
returns c = handed-least c.loop-i-test.false c.loop-i.invariant
