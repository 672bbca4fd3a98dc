-- `watershed::whole::copy` meets its contract. The invariant is Copied: the bytes passed are equal.
use Rattle.lists.specs.Blocks.{Copied}
use Rattle.watershed.proofs.whole.copy.Given as goal

abbrev pub invariant-loop-i : goal.invariant-loop-i
invariant-loop-i l = Copied l.from 0 l.i l.initial.to l.to
