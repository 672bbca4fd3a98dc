-- `filling::whole::fill_core` meets its contract: a picture has room in the local cells.
use Rattle.std.proofs.Common.{ℕ, ◌*◌, replicate, length, sym, arith, length-take-le}
use Rattle.geometry.specs.Rasters.{picture}
use Rattle.geometry.proofs.Listed.{raster-size}
use Rattle.topology.proofs.Accepted.{accepted-is, places-bound}
use Rattle.filling.proofs.whole.fill_core.Goals as goal

pub overflow_mul-room : goal.overflow_mul-room
overflow_mul-room c =
    let raster = c.args.raster.now in
    omega (arith, raster-size raster, places-bound (picture raster) (accepted-is (picture raster) raster.accepted))

pub slice_bounds-fill_exactly-end : goal.slice_bounds-fill_exactly-end
slice_bounds-fill_exactly-end c = omega (arith, raster-size c.args.raster.now, c.requires.out_len.1)

pub slice_bounds-fill_exactly-end-2 : goal.slice_bounds-fill_exactly-end-2
slice_bounds-fill_exactly-end-2 c =
    sym (length-take-le _ c.args.work.now (omega (arith, raster-size c.args.raster.now, c.requires.out_len.1)))

pub slice_bounds-cells-end : goal.slice_bounds-cells-end
slice_bounds-cells-end c =
    let raster = c.args.raster.now in
    omega (arith, raster-size raster, places-bound (picture raster) (accepted-is (picture raster) raster.accepted))

pub slice_bounds-fill_exactly-end-3 : goal.slice_bounds-fill_exactly-end-3
slice_bounds-fill_exactly-end-3 c =
    let raster = c.args.raster.now in
    sym
    (length-take-le (length raster.pixels.now) (replicate {A = ℕ} 1600 0)
    (omega (arith, raster-size raster, places-bound (picture raster) (accepted-is (picture raster) raster.accepted))))

pub fill_exactly-requires-clause-out_len : goal.fill_exactly-requires-clause-out_len
fill_exactly-requires-clause-out_len c =
    let raster = c.args.raster.now in
    let size = raster-size raster in
    let bound = places-bound (picture raster) (accepted-is (picture raster) raster.accepted) in (
      c.requires.out_len.0,
      omega (arith, length-take-le (4 * length raster.pixels.now) c.args.work.now (omega (arith, size, c.requires.out_len.1))),
      omega (arith, length-take-le (length raster.pixels.now) (replicate {A = ℕ} 1600 0) (omega (arith, size, bound))),
    )
