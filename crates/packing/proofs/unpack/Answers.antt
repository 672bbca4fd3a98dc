-- `packing::unpack` meets its contract. The invariant: the first i cells are entries and the others as they were.
use Rattle.std.proofs.Common.{arith}
use Rattle.packing.proofs.Packed.{unpacked-next}
use Rattle.packing.proofs.unpack.Goals as goal

pub loop-i-preserved : goal.loop-i-preserved
loop-i-preserved c =
    unpacked-next c.args.bytes.now c.args.cells.now c.loop-i.cells c.loop-i.i c.from_le_bytes.result (omega arith) c.loop-i.invariant
    (omega (arith, c.from_le_bytes.ensures))
