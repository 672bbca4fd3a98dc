-- What the builder of the tree promises.
use Rattle.std.specs.Prelude.{◌≡◌, List, ℕ, ◌*◌, length, drop}
use Rattle.picture.specs.Pictures.{Picture, places}
use Rattle.picture.specs.Trees.{nodes}
use Rattle.tree.specs.Arrays.{TreeIn}

-- r is the number of nodes and `after` holds the tree; beyond 4 n cells of work and n of the other slice all is as it was
pub record Built (p : Picture) (r : ℕ) (work after cells left : List ℕ) : Type 0 where
  pub count : r ≡ length (nodes p)
  pub tree : TreeIn p after
  pub room : length after ≡ length work
  pub size : length left ≡ length cells
  pub beyond : drop (4 * places p) after ≡ drop (4 * places p) work
  pub rest : drop (places p) left ≡ drop (places p) cells
