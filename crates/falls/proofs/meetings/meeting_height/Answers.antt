-- `falls::meetings::meeting_height` meets its contract: the climb from the nodes of two places, and the height where it meets.
use Rattle.std.proofs.Common.{arith}
use Rattle.falls.proofs.Fathers.{climb-meets}
use Rattle.falls.proofs.meetings.meeting_height.Goals as goal

pub offset_bounds-tree-top : goal.offset_bounds-tree-top
offset_bounds-tree-top c =
    let p = c.requires in
    let met = climb-meets _ _ p.0 _ _ p.2 p.3 _ _ _ c.from-a.ensures c.from-b.ensures c.nearest_common_ancestor-top.ensures in
    omega (arith, met.0, p.1)

pub bounds-tree-top : goal.bounds-tree-top
bounds-tree-top c =
    let p = c.requires in
    let met = climb-meets _ _ p.0 _ _ p.2 p.3 _ _ _ c.from-a.ensures c.from-b.ensures c.nearest_common_ancestor-top.ensures in
    omega (arith, met.0, p.0.size)

pub returns : goal.returns
returns c =
    let p = c.requires in
    let met = climb-meets _ _ p.0 _ _ p.2 p.3 _ _ _ c.from-a.ensures c.from-b.ensures c.nearest_common_ancestor-top.ensures in
    rw c.from.ensures met.1
