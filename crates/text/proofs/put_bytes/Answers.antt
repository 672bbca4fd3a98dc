-- `text::put_bytes` meets its contract. The loop's invariant: the first i bytes are written.
use Rattle.std.proofs.Common.{arith}
use Rattle.lists.proofs.Writings.{written_next}
use Rattle.text.proofs.put_bytes.Goals as goal

pub loop-i-preserved : goal.loop-i-preserved
loop-i-preserved c =
    written_next c.args.bytes.now c.args.out.now c.loop-i.out c.args.at c.loop-i.i (omega arith) c.requires c.loop-i.invariant
