-- The first i entries are copied.
use Rattle.lists.specs.Blocks.{Copied}
use Rattle.cells.proofs.copy.Given as goal

abbrev pub invariant-loop-i : goal.invariant-loop-i
invariant-loop-i l = Copied l.from l.b l.i l.initial.to l.to
