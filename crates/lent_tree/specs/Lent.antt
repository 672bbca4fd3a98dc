-- A lent tree.
-- p the picture, hs fs ss m the lent heights, fathers, first places and map.
use Rattle.std.specs.Prelude.{◌≡◌, List, ℕ, ◌<◌, length, get_or}
use Rattle.picture.specs.Pictures.{Picture, places}
use Rattle.picture.specs.Trees.{nodes, node_at, father_of, map_of}

-- the count is the tree's, the lists begin with the tree's entries, and the map with its map
pub record HoldsTree (p : Picture) (count : ℕ) (hs fs ss m : List ℕ) : Type 0 where
  pub total : count ≡ length (nodes p)
  pub heights : (i : ℕ) → i < length (nodes p) → get_or hs i 0 ≡ (node_at p i).height
  pub fathers : (i : ℕ) → i < length (nodes p) → get_or fs i 0 ≡ father_of p (node_at p i)
  pub firsts : (i : ℕ) → i < length (nodes p) → get_or ss i 0 ≡ (node_at p i).first
  pub map : (x : ℕ) → x < places p → get_or m x 0 ≡ map_of p x
