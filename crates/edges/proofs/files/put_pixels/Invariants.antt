-- `edges::files::put_pixels` meets its contract. The loop's invariant: the pixels before i are written.
use Rattle.std.proofs.Common.{◌≡◌, ◌+◌}
use Rattle.lists.specs.Writing.{Written}
use Rattle.edges.specs.EdgeFiles.{edge_pixels}
use Rattle.edges.proofs.files.put_pixels.Given as goal

abbrev pub invariant-loop-i : goal.invariant-loop-i
invariant-loop-i l = (l.to ≡ l.at + l.i) × Written l.at (edge_pixels l.values l.i) l.initial.out l.to l.out
