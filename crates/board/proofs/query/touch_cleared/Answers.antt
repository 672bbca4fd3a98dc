-- `board::touch_cleared` meets its contract: a raster has at most 1,600 pixels, for which there are cells.
use Rattle.std.proofs.Common.{rules, arith}
use Rattle.geometry.specs.Rasters.{picture}
use Rattle.geometry.proofs.Listed.{raster-size}
use Rattle.topology.proofs.Accepted.{pixels-few}
use Rattle.board.proofs.query.touch_cleared.Goals as goal

pub slice_bounds-cells-end : goal.slice_bounds-cells-end
slice_bounds-cells-end c = let r = c.args.raster.now in pixels-few (picture r) r.accepted

pub slice_bounds-touch_by-end-3 : goal.slice_bounds-touch_by-end-3
slice_bounds-touch_by-end-3 c = let few = pixels-few (picture c.args.raster.now) c.args.raster.now.accepted in search rules

pub touch_by-number-requires : goal.touch_by-number-requires
touch_by-number-requires c =
    let few = pixels-few (picture c.args.raster.now) c.args.raster.now.accepted in
    let size = raster-size c.args.raster.now in
    (record { few = omega (arith, few, size); blocks = search rules; beside = search rules }, c.requires.1)

pub clear_work-requires : goal.clear_work-requires
clear_work-requires c = let few = pixels-few (picture c.args.raster.now) c.args.raster.now.accepted in search rules
