-- `climbs::put_climbs` meets its contract: the labels, then the climbs node by node.
use Rattle.climbs.proofs.Climbs.{climbs-all}
use Rattle.climbs.proofs.put_climbs.Goals as goal

pub returns : goal.returns
returns c = climbs-all c.requires.2 c.requires.3 c.label_nodes.ensures c.put_by_labels.ensures
