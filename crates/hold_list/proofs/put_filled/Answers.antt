-- `hold_list::put_filled` meets its contract: a refused size, or the list of what is left.
use Rattle.std.proofs.Common.{◌∙◌, arith}
use Rattle.geometry.proofs.Listed.{raster-size}
use Rattle.answers.proofs.Calls.{lent_length}
use Rattle.hold_list.proofs.Rooms.{raster-few, one_lent, five-lent}
use Rattle.hold_list.proofs.FilledTexts.{size-refused, size_fits, raster-holds, filled-room, filled-front, front-picture}
use Rattle.hold_list.proofs.put_filled.Goals as goal

pub returns-in-Err : goal.returns-in-Err
returns-in-Err c =
    rw (← size-refused c.args.raster.now c.args.s c.in-Err.refusal _ c.in-Err.ensures (c.from.ensures ∙ c.number.ensures)) c.put_refusal.ensures.0

pub overflow_mul-whole : goal.overflow_mul-whole
overflow_mul-whole c = omega (arith, raster-few c.args.raster.now)

pub slice_bounds-bytes-end : goal.slice_bounds-bytes-end
slice_bounds-bytes-end c = raster-few c.args.raster.now

pub slice_bounds-fill_core-end : goal.slice_bounds-fill_core-end
slice_bounds-fill_core-end c = one_lent c.args.raster.now

pub slice_bounds-work-end : goal.slice_bounds-work-end
slice_bounds-work-end c = omega (arith, raster-few c.args.raster.now)

pub slice_bounds-fill_core-end-2 : goal.slice_bounds-fill_core-end-2
slice_bounds-fill_core-end-2 c = five-lent c.args.raster.now

pub fill_core-requires-clause-size : goal.fill_core-requires-clause-size
fill_core-requires-clause-size c = size_fits c.args.raster.now c.args.s c.in_default.ensures

pub fill_core-requires-clause-out_len : goal.fill_core-requires-clause-out_len
fill_core-requires-clause-out_len c =
    let raster = c.args.raster.now in
    let size = raster-size raster in
    (omega (arith, size, one_lent raster), omega (arith, size, five-lent raster))

pub slice_bounds-bytes-end-2 : goal.slice_bounds-bytes-end-2
slice_bounds-bytes-end-2 c = filled-room c.args.raster.now c.args.s _ c.fill_core.auto.out

pub slice_bounds-filled-end : goal.slice_bounds-filled-end
slice_bounds-filled-end c = lent_length _ _ (filled-room c.args.raster.now c.args.s _ c.fill_core.auto.out)

pub invariant_of-filled : goal.invariant_of-filled
invariant_of-filled c =
    let raster = c.args.raster.now in
    let fill = c.fill_core in
    record { accepted = front-picture raster c.args.s _ fill.auto.out fill.ensures (size_fits raster c.args.s c.in_default.ensures).1 }

pub returns : goal.returns
returns c =
    let raster = c.args.raster.now in
    let fill = c.fill_core in
    rw (← raster-holds raster c.args.s c.in_default.ensures, ← filled-front raster c.args.s _ fill.auto.out fill.ensures) c.put_holds.ensures
