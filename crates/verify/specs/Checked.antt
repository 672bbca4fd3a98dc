-- The answer of the check of a lent tree.
-- p the picture, hs fs ss m the lent heights, fathers, first places and map.
use Rattle.std.specs.Prelude.{Bool, List, ℕ}
use Rattle.picture.specs.Pictures.{Picture}
use Rattle.tree_laws.proofs.Decided.{Decided}
pub use Rattle.tree_laws.proofs.Decided.{decided-yes, decided-never}
use Rattle.lent_tree.specs.Lent.{HoldsTree}

-- the answer is true exactly for the tree
abbrev pub IsTreeAnswer : Picture → ℕ → List ℕ → List ℕ → List ℕ → List ℕ → Bool → Type 0
IsTreeAnswer p count hs fs ss m = Decided (HoldsTree p count hs fs ss m) (HoldsTree p count hs fs ss m → ⊥)
