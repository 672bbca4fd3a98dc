-- `tree::build::build` meets its contract.
use Rattle.std.proofs.Common.{sym, arith, length-take-le}
use Rattle.picture.proofs.Sides.{sides-area}
use Rattle.geometry.proofs.Listed.{raster-size}
use Rattle.tree.proofs.Trees.{built-front}
use Rattle.tree.proofs.build.build.Goals as goal

pub overflow_mul-n : goal.overflow_mul-n
overflow_mul-n c =
    let r = c.args.raster.now in
    omega (arith, raster-size r, sides-area r.grid.width r.grid.height r.grid.sides)

pub slice_bounds-build_exactly-end : goal.slice_bounds-build_exactly-end
slice_bounds-build_exactly-end c = rw (raster-size c.args.raster.now) c.requires.0

pub slice_bounds-build_exactly-end-2 : goal.slice_bounds-build_exactly-end-2
slice_bounds-build_exactly-end-2 c = rw (raster-size c.args.raster.now) (sym (length-take-le _ _ c.requires.0))

pub slice_bounds-build_exactly-end-3 : goal.slice_bounds-build_exactly-end-3
slice_bounds-build_exactly-end-3 c = rw (raster-size c.args.raster.now) c.requires.1

pub slice_bounds-build_exactly-end-4 : goal.slice_bounds-build_exactly-end-4
slice_bounds-build_exactly-end-4 c = rw (raster-size c.args.raster.now) (sym (length-take-le _ _ c.requires.1))

pub build_exactly-requires : goal.build_exactly-requires
build_exactly-requires c =
    rw (raster-size c.args.raster.now) (length-take-le _ _ c.requires.0, length-take-le _ _ c.requires.1)

pub returns : goal.returns
returns c =
    let b = c.build_exactly in
    let e = raster-size c.args.raster.now in
    rw e (built-front _ _ _ b.new.work _ b.new.cells b.ensures (rw e at b.auto.work) (rw e at b.auto.cells) c.requires.0 c.requires.1)
