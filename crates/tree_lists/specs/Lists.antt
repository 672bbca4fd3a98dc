-- The tree handed over as lists.
use Rattle.std.specs.Prelude.{◌≡◌, List, ℕ, ◌*◌, ◌≤◌, ◌<◌, length, get_or, drop}
use Rattle.picture.specs.Pictures.{Picture, places}
use Rattle.picture.specs.Trees.{nodes}

-- the first m entries are bytes
pub record Bytes (m : ℕ) (l : List ℕ) : Type 0 where
  pub byte : (i : ℕ) → i < m → get_or l i 0 ≤ 255

-- four lists with an entry a place at least, and work of 4 n cells at least
pub record ListsRoom (n : ℕ) (hs fs ss m w : List ℕ) : Type 0 where
  pub heights : n ≤ length hs
  pub fathers : n ≤ length fs
  pub firsts : n ≤ length ss
  pub map : n ≤ length m
  pub work : 4 * n ≤ length w

-- r is the number of nodes; beyond 4 n cells work is as it was
pub record TreeHanded (p : Picture) (r : ℕ) (work after : List ℕ) : Type 0 where
  pub count : r ≡ length (nodes p)
  pub room : length after ≡ length work
  pub beyond : drop (4 * places p) after ≡ drop (4 * places p) work
