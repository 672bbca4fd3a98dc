-- `verify_nodes::check_map` meets its contract.
use Rattle.std.proofs.Common.{arith}
use Rattle.verify_nodes.proofs.NodeChecks.{map-ready, map-turn, map-fails, map-end}
use Rattle.verify_nodes.proofs.check_map.Goals as goal

pub check_map_one-requires : goal.check_map_one-requires
check_map_one-requires c =
    let s = c.requires in
    let i = c.loop-x.invariant in
    (map-ready _ _ _ _ _ _ s.lent_map_ready i, omega arith, omega (arith, s.cells_in_bounds.1), omega (arith, s.cells_in_bounds.0))

pub returns-then-not-check_map_one : goal.returns-then-not-check_map_one
returns-then-not-check_map_one c =
    map-fails _ _ _ _ _ _ _ _ c.loop-x.invariant c.check_map_one.ensures c.if-not-check_map_one.true

pub loop-x-preserved : goal.loop-x-preserved
loop-x-preserved c =
    let t = c.check_map_one in
    map-turn _ _ _ _ _ _ _ _ c.loop-x.invariant (omega arith) t.ensures c.if-not-check_map_one.false t.auto.cells

pub returns : goal.returns
returns c = map-end _ _ _ _ _ _ c.loop-x.invariant (omega arith)
