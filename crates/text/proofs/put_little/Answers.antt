-- `text::put_little` meets its contract. The loop's invariant: writing the bytes left of the rest finishes the whole.
use Rattle.std.proofs.Common.{suc, arith}
use Rattle.lists.proofs.Writings.{written_none, written_then}
use Rattle.text.proofs.put_little.Goals as goal

pub loop-preserved : goal.loop-preserved
loop-preserved c =
    let l = c.loop in
    let p = c.put-to.ensures in
    let e = p.end in
    (omega arith, λ left end exit h w. l.invariant.1 (suc left) end exit (omega arith) (written_then (omega arith) p w))

pub returns : goal.returns
returns c =
    let l = c.loop in
    l.invariant.1 0 l.to l.out (omega arith) (written_none l.out l.to)
