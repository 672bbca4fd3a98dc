-- `minima::flood` meets its contract. The invariant is ZoneRunning; twice the unvisited places with the stack's height fall.
use Rattle.std.proofs.Common.{arith}
use Rattle.picture.proofs.Neighbours.{placed-other}
use Rattle.geometry.specs.Rasters.{picture}
use Rattle.geometry.proofs.Listed.{raster-size}
use Rattle.minima.proofs.Floods.{running-start, running-top, running-turn, running-end}
use Rattle.minima.proofs.flood.Goals as goal

pub bounds-raster-x : goal.bounds-raster-x
bounds-raster-x c =
    let raster = c.args.raster.now in
    omega (arith, raster-size raster, c.requires.0.inside)

pub bounds-cells-x : goal.bounds-cells-x
bounds-cells-x c =
    let raster = c.args.raster.now in
    omega (arith, raster-size raster, c.requires.0.inside, c.requires.1.size)

pub loop-stack-init : goal.loop-stack-init
loop-stack-init c =
    let raster = c.args.raster.now in
    running-start (picture raster) _ _ c.requires.1 (raster-size raster) c.requires.0.inside c.requires.2

pub spread-stack-requires : goal.spread-stack-requires
spread-stack-requires c =
    let i = c.loop-stack.invariant in
    let top = running-top (picture c.args.raster.now) _ _ _ _ _ i c.loop-stack-test.true in
    (placed-other c.requires.0 top.0, i.room, c.loop-stack-test.true, top.1)

pub loop-stack-preserved : goal.loop-stack-preserved
loop-stack-preserved c =
    running-turn (picture c.args.raster.now) _ _ _ _ _ c.loop-stack.invariant _ _ c.loop-stack-test.true c.spread-stack.ensures

pub returns : goal.returns
returns c =
    running-end (picture c.args.raster.now) _ _ _ _ c.requires.2 c.requires.0.inside (omega arith) c.loop-stack.invariant
