-- `stored_rows::rows::put_converted` meets its contract. The invariant is RowBegun: the first i entries are written, and `left` is the last pixel
-- passed.
use Rattle.std.proofs.Common.{◌<◌, length, get_or, ap, ◌∙◌, ℕ, arith}
use Rattle.lists.specs.Lists.{pick}
use Rattle.topology.proofs.Accepted.{at_byte}
use Rattle.stored_rows.specs.Steps.{written_byte}
use Rattle.stored_rows.proofs.Conversions.{from-length, from-at, from-pixel, from-zero}
use Rattle.stored_rows.proofs.RowLoops.{row-turn, row-end}
use Rattle.stored_rows.proofs.rows.put_converted.Goals as goal

pub loop-i-preserved : goal.loop-i-preserved
loop-i-preserved g c =
    let back = g.D.Direction.back in
    let row = c.args.row.now in
    let i = c.loop-i.i in
    let below : i < length row = omega arith in
    let entry =
    c.written-written.ensures ∙ ap (λ (left : ℕ). written_byte back left (get_or row i 0)) c.loop-i.invariant.last ∙ from-at back row i below
    in
    let pixel = c.pixel-left.ensures ∙ ap (λ (b : ℕ). pick back b (get_or row i 0)) entry ∙ from-pixel back row i in
    row-turn (from-length back row) c.requires.within c.loop-i.invariant below entry pixel

pub returns : goal.returns
returns g c =
    let back = g.D.Direction.back in
    let row = c.args.row.now in
    let bytes = at_byte row (λ i. let q = c.type_inv.row i in omega arith) in
    rw (from-zero back row bytes) (row-end (from-length back row) c.requires.within c.loop-i.invariant (omega arith))
