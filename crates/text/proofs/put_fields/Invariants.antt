-- `text::put_fields` meets its contract. The loop's invariant: the numbers before the index are written, each with a space.
use Rattle.std.proofs.Common.{take}
use Rattle.text.proofs.Decimals.{spaced}
use Rattle.lists.specs.Writing.{Written}
use Rattle.text.proofs.put_fields.Given as goal

abbrev pub invariant-loop-n : goal.invariant-loop-n
invariant-loop-n l = Written l.at (spaced (take l.n-index l.ns)) l.initial.out l.to l.out
