-- `hold_list::put_holds` meets its contract: a picture has room in the local arrays.
use Rattle.std.proofs.Common.{sym, ◌∙◌, arith}
use Rattle.geometry.proofs.Listed.{raster-size}
use Rattle.hold_list.proofs.Rooms.{raster-few, one_lent, five-lent}
use Rattle.hold_list.proofs.put_holds.Goals as goal

pub overflow_mul-whole : goal.overflow_mul-whole
overflow_mul-whole c = omega (arith, raster-few c.args.raster.now)

pub slice_bounds-water-end : goal.slice_bounds-water-end
slice_bounds-water-end c = raster-few c.args.raster.now

pub slice_bounds-put_holds_with-end : goal.slice_bounds-put_holds_with-end
slice_bounds-put_holds_with-end c = one_lent c.args.raster.now

pub slice_bounds-work-end : goal.slice_bounds-work-end
slice_bounds-work-end c = omega (arith, raster-few c.args.raster.now)

pub slice_bounds-put_holds_with-end-2 : goal.slice_bounds-put_holds_with-end-2
slice_bounds-put_holds_with-end-2 c = five-lent c.args.raster.now

pub slice_bounds-cells-end : goal.slice_bounds-cells-end
slice_bounds-cells-end c = raster-few c.args.raster.now

pub slice_bounds-put_holds_with-end-3 : goal.slice_bounds-put_holds_with-end-3
slice_bounds-put_holds_with-end-3 c = one_lent c.args.raster.now

pub put_holds_with-requires : goal.put_holds_with-requires
put_holds_with-requires c =
    let raster = c.args.raster.now in
    let size = raster-size raster in
    let one = sym (one_lent raster) ∙ size in (
      one,
      record { few = omega (arith, size, raster-few raster); blocks = omega (arith, size, five-lent raster); beside = one },
      c.requires,
    )
