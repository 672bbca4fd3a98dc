-- `Stack::spread` meets its contract. The invariant: the edges to the neighbours from the index on are left to follow.
use Rattle.std.proofs.Common.{arith, ap, length}
use Rattle.picture.proofs.Neighbours.{neighbour-at}
use Rattle.geometry.specs.Rasters.{picture}
use Rattle.geometry.proofs.Listed.{listed-front, raster-size}
use Rattle.minima.proofs.Floods.{zone-moved-room, spread-next, spread-turn}
use Rattle.minima.proofs.Stack.spread.Goals as goal

pub bounds-cells-x : goal.bounds-cells-x
bounds-cells-x c =
    let raster = c.args.raster.now in
    omega (arith, raster-size raster, c.requires.1.sizes.size, c.requires.0.inside)

pub visit-stack-requires : goal.visit-stack-requires
visit-stack-requires c =
    let raster = c.args.raster.now in
    let front = listed-front _ _ _ _ c.neighbours-count.ensures in
    let below = rw front at c.loop-y-test.true in
    let at = rw front at c.from.ensures in (
      zone-moved-room _ _ _ _ _ _ c.requires.1 c.loop-y.invariant.moved,
      omega (arith, raster-size raster, (neighbour-at (picture raster) c.from-x.result c.loop-y.y-index below).0),
    )

pub loop-y-preserved : goal.loop-y-preserved
loop-y-preserved c =
    let front = listed-front _ _ _ _ c.neighbours-count.ensures in
    spread-next (picture c.args.raster.now) _ _ _ _ _ _ _ _ _ _ (rw front at c.loop-y-test.true) (rw front at c.from.ensures) c.loop-y.invariant
    c.visit-stack.ensures

pub returns : goal.returns
returns c =
    let front = ap length (listed-front _ _ _ _ c.neighbours-count.ensures) in
    spread-turn (picture c.args.raster.now) _ _ _ c.args.self _ _ _ c.requires.0.some c.from-x.ensures c.requires.2 (omega arith) c.loop-y.invariant
