-- `patch_sums::put_sums` meets its contract. The invariant is Sums over the rows so far.
use Rattle.std.proofs.Common.{sym}
use Rattle.std.proofs.Math.Nat.{zero-mul}
use Rattle.patch_sums.proofs.Summing.{sums-start, sums-to}
use Rattle.patch_sums.proofs.put_sums.Goals as goal

pub loop-row-init : goal.loop-row-init
loop-row-init c = sums-to _ _ _ _ _ _ (sums-start _ _ _ _ _ c.requires.2 c.fill.ensures) _ (sym (zero-mul c.args.w))
