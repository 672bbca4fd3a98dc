-- `text::put_bytes` meets its contract. The loop's invariant: the first i bytes are written.
use Rattle.std.proofs.Common.{◌+◌, take}
use Rattle.lists.specs.Writing.{Written}
use Rattle.text.proofs.put_bytes.Given as goal

abbrev pub invariant-loop-i : goal.invariant-loop-i
invariant-loop-i l = Written l.at (take l.i l.bytes) l.initial.out (l.at + l.i) l.out
