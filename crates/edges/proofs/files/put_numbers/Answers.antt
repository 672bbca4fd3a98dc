-- `edges::files::put_numbers` meets its contract.
use Rattle.std.proofs.Common.{arith}
use Rattle.lists.proofs.Writings.{written_then, written-length}
use Rattle.text.proofs.Decimals.{one-length, two-length}
use Rattle.edges.proofs.files.put_numbers.Goals as goal

pub put_fields-next-requires : goal.put_fields-next-requires
put_fields-next-requires c =
    (omega arith, omega (arith, two-length 1 c.args.w c.args.h c.requires.0 c.requires.1, c.requires.3))

pub put_fields-requires : goal.put_fields-requires
put_fields-requires c =
    let l = two-length 1 c.args.w c.args.h c.requires.0 c.requires.1 in
    let m = one-length 2 c.args.largest c.requires.2 in
    let w = c.put_fields-next.ensures in
    let e = w.end in
    let k = written-length (omega (arith, c.requires.3)) w in
    (omega arith, omega (arith, c.requires.3))

pub returns : goal.returns
returns c =
    let l = two-length 1 c.args.w c.args.h c.requires.0 c.requires.1 in
    let m = one-length 2 c.args.largest c.requires.2 in
    let w = c.put_fields-next.ensures in
    let v = c.put_fields.ensures in
    (written_then (omega (arith, c.requires.3)) w v, omega (arith, w.end, v.end))
