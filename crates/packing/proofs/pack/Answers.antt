-- `packing::pack` meets its contract. The invariant: the first i cells are written.
use Rattle.std.proofs.Common.{◌≡◌, ◌∙◌, ◌*◌, ◌+◌, get_or-take, length-take, arith}
use Rattle.packing.proofs.Packed.{packed-next}
use Rattle.packing.proofs.pack.Goals as goal

pub loop-i-preserved : goal.loop-i-preserved
loop-i-preserved c =
    let cells = c.args.cells.now in
    let l = c.loop-i in
    let p = c.put_little in
    let size = length-take c.args.m cells in
    let entry = c.from.ensures ∙ get_or-take c.args.m cells l.i 0 (omega arith) in
    let end : p.result ≡ 2 * (l.i + 1) = omega (arith, p.ensures.end) in
    rw end at (packed-next cells c.args.bytes.now l.bytes p.new.out (2 * l.i) p.result l.i (omega arith) l.invariant (rw entry at p.ensures))
