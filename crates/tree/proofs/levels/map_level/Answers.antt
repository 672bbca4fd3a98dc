-- `tree::levels::map_level` meets its contract.
use Rattle.tree_laws.proofs.Mapped.{map-ready, map-parents, map-bounds, map_more, map-less, map_whole}
use Rattle.std.proofs.Common.{arith}
use Rattle.tree.proofs.levels.map_level.Goals as goal

pub map_one-x-requires : goal.map_one-x-requires
map_one-x-requires c =
    let r = map-ready _ _ _ _ _ _ c.requires c.loop-x.invariant in
    (map-parents _ _ _ r, c.loop-x-test.true, map-bounds _ _ _ r)

pub loop-x-smaller : goal.loop-x-smaller
loop-x-smaller c =
    let i = c.loop-x.invariant in
    let b = c.loop-x-test.true in
    omega (arith, i.size, map-less _ _ _ _ _ _ (map-ready _ _ _ _ _ _ c.requires i) b c.map_one-x.ensures)

pub loop-x-preserved : goal.loop-x-preserved
loop-x-preserved c = map_more _ _ _ _ _ _ _ _ _ c.loop-x.invariant c.loop-x-test.true c.map_one-x.ensures

pub returns : goal.returns
returns c = map_whole _ _ _ _ _ _ c.loop-x.invariant c.loop-x-test.false
