-- `minima::count_minima` meets its contract. The invariant is Counting.
use Rattle.std.proofs.Common.{arith}
use Rattle.geometry.specs.Rasters.{picture}
use Rattle.geometry.proofs.Listed.{raster-size}
use Rattle.minima.proofs.Floods.{counting-end}
use Rattle.minima.proofs.count_minima.Goals as goal

pub count_zone-r-requires : goal.count_zone-r-requires
count_zone-r-requires c =
    let raster = c.args.raster.now in
    (c.loop-x.invariant, omega (arith, raster-size raster))

pub returns : goal.returns
returns c =
    let raster = c.args.raster.now in
    counting-end (picture raster) _ _ _ raster.accepted (omega (arith, raster-size raster)) c.loop-x.invariant
