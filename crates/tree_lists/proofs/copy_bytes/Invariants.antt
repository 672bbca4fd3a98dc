-- `tree_lists::copy_bytes` meets its contract. The loop's invariant: the first i entries are copied.
use Rattle.lists.specs.Blocks.{Copied}
use Rattle.tree_lists.proofs.copy_bytes.Given as goal

abbrev pub invariant-loop-i : goal.invariant-loop-i
invariant-loop-i l = Copied l.from 0 l.i l.initial.to l.to
