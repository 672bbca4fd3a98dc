-- The component tree in one slice of cells, as blocks of n: heights, fathers, map, first places.
use Rattle.std.specs.Prelude.{◌≡◌, List, ℕ, ◌*◌, ◌<◌, length}
use Rattle.picture.specs.Pictures.{Picture, places}
use Rattle.lists.specs.Blocks.{block_entry}
use Rattle.picture.specs.Trees.{nodes, node_at, father_of, map_of}

-- the cells hold the tree of p: heights at 0, fathers at n, the map at 2 n, first places at 3 n
pub record TreeIn (p : Picture) (cells : List ℕ) : Type 0 where
  pub heights : (i : ℕ) → i < length (nodes p) → block_entry cells 0 i ≡ (node_at p i).height
  pub fathers : (i : ℕ) → i < length (nodes p) → block_entry cells (places p) i ≡ father_of p (node_at p i)
  pub map : (x : ℕ) → x < places p → block_entry cells (2 * places p) x ≡ map_of p x
  pub firsts : (i : ℕ) → i < length (nodes p) → block_entry cells (3 * places p) i ≡ (node_at p i).first
