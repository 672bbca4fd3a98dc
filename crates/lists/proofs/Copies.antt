-- A copy from the front: the entries passed are those of the source from b on, the others as they were.
use mathlib.Core.Path.{◌≡◌, ap, ◌∙◌}
use mathlib.Core.List.{List}
use Prim.Native.Nat.{ℕ, ◌≤◌}
use native.Mathlib.Omega.{arith}
use lib.ListN.{length, get_or}
use lib.Seq.{ext_get_or}
use Rattle.lists.specs.Blocks.{Copied}
use Rattle.lists.proofs.Blocks.{overwritten-entry}

-- a whole list copied
pub copy-all : (from old new : List ℕ) (m : ℕ) → length old ≡ length from → length from ≤ m → Copied from 0 m old new → new ≡ from
copy-all from old new m e h c =
    let s = c.kept.size in
    ext_get_or 0 new from (s ∙ e)
    (λ i l. overwritten-entry c i (omega arith) ∙ ap (λ (j : ℕ). get_or from j 0) {y = i} (omega arith))
