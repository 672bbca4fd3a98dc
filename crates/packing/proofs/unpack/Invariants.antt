-- `packing::unpack` meets its contract. The invariant: the first i cells are entries and the others as they were.
use Rattle.std.proofs.Common.{◌≡◌, ◌++◌, drop}
use Rattle.packing.specs.Packing.{entries}
use Rattle.packing.proofs.unpack.Given as goal

abbrev pub invariant-loop-i : goal.invariant-loop-i
invariant-loop-i l = l.cells ≡ entries l.i l.bytes ++ drop l.i l.initial.cells
