-- `text::put_little` meets its contract. The loop's invariant: writing the bytes left of the rest finishes the whole.
use Rattle.std.proofs.Common.{◌≡◌, List, ℕ, ◌+◌}
use Rattle.text.specs.Little.{little_endian}
use Rattle.lists.specs.Writing.{Written}
use Rattle.text.proofs.put_little.Given as goal

abbrev pub invariant-loop : goal.invariant-loop
invariant-loop l =
    (l.to ≡ l.at + l.counter) ×
    ((left end : ℕ) (exit : List ℕ) → left + l.counter ≡ l.l → Written l.to (little_endian left l.rest) l.out end exit → Written l.at (little_endian l.l l.n) l.initial.out end exit)
