-- What the heights of the check ask and leave.
-- p the picture, hs fs ss m the lent heights, fathers, first places and map; l the cells.
use Rattle.std.specs.Prelude.{◌≡◌, List, ℕ, ◌+◌, ◌≤◌, ◌<◌, length, get_or, Option, MatchOption}
use Rattle.picture.specs.Pictures.{Picture, places, value_at}
use Rattle.picture.specs.Trees.{node_at, map_of}
use Rattle.lent_tree.specs.Lent.{HoldsTree}
use Rattle.tree_laws.proofs.Counts.{so_far}
use Rattle.tree_laws.proofs.Checks.{Checking}

-- the lists are long enough for the cells, and the count is no greater
pub record ListsLong (n : ℕ) (xs hs fs ss m l : List ℕ) : Type 0 where
  pub count : n ≤ length l
  pub few : length l ≤ 1600
  pub pixels : length l ≤ length xs
  pub heights : length l ≤ length hs
  pub fathers : length l ≤ length fs
  pub firsts : length l ≤ length ss
  pub map : length l ≤ length m

-- the heights below k are checked: c nodes
pub record Verified (p : Picture) (k c count : ℕ) (l hs fs ss m : List ℕ) : Type 0 where
  pub checking : Checking p k 0 l fs m
  pub number : c ≡ so_far p k
  pub most : c ≤ count
  pub heights : (i : ℕ) → i < c → get_or hs i 0 ≡ (node_at p i).height
  pub firsts : (i : ℕ) → i < c → get_or ss i 0 ≡ (node_at p i).first
  pub map : (x : ℕ) → x < places p → value_at p x < k → get_or m x 0 ≡ map_of p x

-- after the height k: the number of nodes, or none if the lists are not the tree
abbrev pub LevelChecked : Picture → ℕ → ℕ → List ℕ → List ℕ → List ℕ → List ℕ → List ℕ → Option ℕ → Type 0
LevelChecked p k count l hs fs ss m answer =
    MatchOption answer (HoldsTree p count hs fs ss m → ⊥) (λ d. Verified p (k + 1) d count l hs fs ss m)
