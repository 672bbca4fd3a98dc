-- `hold_lines::put_lines` meets its contract. The loop's invariant: the lines before i are written, 37 bytes each at most.
use mathlib.Core.List.{flat_map}
use Rattle.std.proofs.Common.{◌+◌, ◌*◌, ◌≤◌}
use Rattle.lists.specs.Lists.{range}
use Rattle.lists.specs.Writing.{Written}
use Rattle.hold_lines.specs.Figures.{line_at}
use Rattle.hold_lines.proofs.put_lines.Given as goal

abbrev pub invariant-loop-i : goal.invariant-loop-i
invariant-loop-i l = (l.to ≤ l.at + 37 * l.i) × Written l.at (flat_map (line_at l.figures.n l.figures.entries.now) (range 0 l.i)) l.initial.out l.to l.out
