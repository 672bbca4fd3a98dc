-- `patch_numbers::map_patches` meets its contract. The invariant: the cells before x hold their patches.
use Rattle.std.proofs.Common.{◌≡◌, ℕ, ◌<◌, length, get_or}
use Rattle.patch_numbers.specs.Numbers.{patch_in}
use Rattle.patch_numbers.proofs.map_patches.Given as goal

abbrev pub invariant-loop-x : goal.invariant-loop-x
invariant-loop-x l = (length l.cells ≡ l.n) × ((z : ℕ) → z < l.x → get_or l.cells z 0 ≡ patch_in l.n l.pixels l.work z)
