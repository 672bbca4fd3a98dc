-- `stored_rows::rows::put_row` meets its contract: the row that is read lies within the bytes, and is written as the row i.
use Rattle.std.proofs.Common.{◌<◌, arith}
use Rattle.stored_rows.proofs.Conversions.{source-below}
use Rattle.stored_rows.proofs.RowWrites.{inside}
use Rattle.stored_rows.proofs.rows.put_row.Goals as goal

pub slice_bounds-put_converted-end : goal.slice_bounds-put_converted-end
slice_bounds-put_converted-end g c =
    let below : c.source_row.result < c.args.h = omega (arith, source-below g.D.Direction.back c.args.h c.args.i c.requires.below) in
    let source = inside c.requires.lent c.source_row.result below in
    omega (arith, source.within)
