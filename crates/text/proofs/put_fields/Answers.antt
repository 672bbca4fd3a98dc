-- `text::put_fields` meets its contract. The loop's invariant: the numbers before the index are written, each with a space.
use Rattle.std.proofs.Common.{◌≡◌, ◌-◌, length, refl, get_or-take, length-take, arith}
use Rattle.text.proofs.NumbersWritten.{spaced-more, fields-done, field_room}
use Rattle.text.proofs.put_fields.Goals as goal

pub put_field-to-requires : goal.put_field-to-requires
put_field-to-requires c =
    let l = c.loop-n in
    let ns = c.args.ns.now in
    let size = length-take (length ns - 1) ns in
    rw (get_or-take (length ns - 1) ns l.n-index 0 (omega arith))
    (field_room ns c.args.out.now l.out c.args.at l.to l.n-index (omega arith) c.requires.1 l.invariant)

pub loop-n-preserved : goal.loop-n-preserved
loop-n-preserved c =
    let l = c.loop-n in
    let ns = c.args.ns.now in
    let size = length-take (length ns - 1) ns in
    let r = c.requires.1 in
    spaced-more ns c.args.out.now l.out c.put_field-to.new.out c.args.at l.to c.put_field-to.result l.n-index (omega arith) (omega arith) l.invariant
    (rw (get_or-take (length ns - 1) ns l.n-index 0 (omega arith)) at c.put_field-to.ensures)

pub put_field-requires : goal.put_field-requires
put_field-requires c =
    let l = c.loop-n in
    let ns = c.args.ns.now in
    let size = length-take (length ns - 1) ns in
    let e : l.n-index ≡ length ns - 1 = omega arith in
    field_room ns c.args.out.now l.out c.args.at l.to (length ns - 1) (omega arith) c.requires.1 (rw e at l.invariant)

pub returns : goal.returns
returns c =
    let l = c.loop-n in
    let ns = c.args.ns.now in
    let size = length-take (length ns - 1) ns in
    let r = c.requires.1 in
    let e : l.n-index ≡ length ns - 1 = omega arith in
    fields-done ns c.args.out.now l.out c.put_field.new.out c.args.at l.to c.put_field.result (length ns - 1) (omega arith) (omega arith)
    (rw e at l.invariant) c.put_field.ensures refl
