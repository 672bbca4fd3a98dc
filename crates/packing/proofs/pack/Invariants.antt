-- `packing::pack` meets its contract. The invariant: the first i cells are written.
use Rattle.std.proofs.Common.{◌*◌, take}
use Rattle.lists.specs.Writing.{Written}
use Rattle.packing.specs.Packing.{packed}
use Rattle.packing.proofs.pack.Given as goal

abbrev pub invariant-loop-i : goal.invariant-loop-i
invariant-loop-i l = Written 0 (packed (take l.i l.cells)) l.initial.bytes (2 * l.i) l.bytes
