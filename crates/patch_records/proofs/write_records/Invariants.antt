-- `patch_records::write_records` meets its contract. The invariant: the first i records are written, and the rest of the list is as it was.
use Rattle.std.proofs.Common.{◌≡◌}
use Rattle.lists.proofs.Filling.{written}
use Rattle.patch_records.specs.Records.{record_at}
use Rattle.patch_records.proofs.write_records.Given as goal

abbrev pub invariant-loop-i : goal.invariant-loop-i
invariant-loop-i l = l.out ≡ written (record_at l.n l.figures) l.i l.initial.out
