-- `p5::field::blank_length` meets its contract.
use Rattle.std.proofs.Common.{◌≡◌, ◌+◌, false, drop}
use Rattle.p5.specs.Headers.{blank_length}
use Rattle.p5.proofs.field.blank_length.Given as goal

abbrev pub invariant-loop-i : goal.invariant-loop-i
invariant-loop-i l = l.i + blank_length l.comment (drop l.i l.bytes) ≡ blank_length false l.bytes
