-- `verify_nodes::check_map_one` meets its contract.
use Rattle.std.proofs.Common.{le-ltb}
use Rattle.verify_nodes.proofs.NodeChecks.{map_other, map-free, map-tested}
use Rattle.verify_nodes.proofs.check_map_one.Goals as goal

pub returns-then-from-k : goal.returns-then-from-k
returns-then-from-k c = map_other _ _ _ _ _ _ c.requires.1 c.from.ensures c.if-from-k.true

pub returns-then-state-lt-SEVERAL : goal.returns-then-state-lt-SEVERAL
returns-then-state-lt-SEVERAL c =
    map-tested _ _ _ _ _ _ c.requires.1 c.from.ensures _ _ c.find-r.ensures c.if-from-k.false c.if-state-lt-SEVERAL.true

pub returns-else-state-lt-SEVERAL : goal.returns-else-state-lt-SEVERAL
returns-else-state-lt-SEVERAL c =
    rw (le-ltb _ _ c.if-state-lt-SEVERAL.false)
    (map-free _ _ _ _ _ _ c.requires.1 c.from.ensures _ _ c.find-r.ensures c.if-from-k.false c.if-state-lt-SEVERAL.false)
