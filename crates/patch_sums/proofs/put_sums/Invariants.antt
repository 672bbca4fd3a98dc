-- `patch_sums::put_sums` meets its contract. The invariant is Sums over the rows so far.
use Rattle.std.proofs.Common.{◌*◌}
use Rattle.patch_sums.specs.Sums.{Sums}
use Rattle.patch_sums.proofs.put_sums.Given as goal

abbrev pub invariant-loop-row : goal.invariant-loop-row
invariant-loop-row l = Sums l.w l.n (l.row * l.w) l.numbers l.initial.work l.work
