-- The numbers of leaves and of patches in the cells, by the arrays of a tree.
use Rattle.std.specs.Prelude.{◌≡◌, Bool, true, false, ◌&&◌, ◌≢◌, List, ℕ, suc, ◌+◌, ◌*◌, ◌≤◌, ◌<◌, eqb, length, get_or, set}
use Rattle.lists.specs.Lists.{pick, tally, range}
use Rattle.lists.specs.Blocks.{block_entry, UntouchedOutside, Filled}

-- five blocks of n cells, and n cells or pixels beside them
pub record FiveBlocks (n : ℕ) (work cells : List ℕ) : Type 0 where
  pub few : n ≤ 1600
  pub blocks : length work ≡ 5 * n
  pub beside : length cells ≡ n

-- the map holds indices
pub record Mapped (n : ℕ) (work : List ℕ) : Type 0 where
  pub map : (x : ℕ) → x < n → block_entry work (2 * n) x < n

-- the entry f is 1, if there is one
pub data Mark (f : ℕ) (cells after : List ℕ) : Type 0 where
  beyond : length cells ≤ f → after ≡ cells → Mark f cells after
  marked : f < length cells → after ≡ set cells f 1 → Mark f cells after

-- one of the first count nodes, whose father is i
pub record Son (n count : ℕ) (work : List ℕ) (i : ℕ) : Type 0 where
  pub son : ℕ
  pub within : son < count
  pub father : block_entry work n son ≡ i

-- an entry is 0 exactly if none of the first count nodes has that father
pub record Marks (n count : ℕ) (work marks : List ℕ) : Type 0 where
  pub size : length marks ≡ n
  pub free : (i : ℕ) → i < n → get_or marks i 0 ≡ 0 → (j : ℕ) → j < count → block_entry work n j ≢ i
  pub taken : (i : ℕ) → i < n → get_or marks i 0 ≢ 0 → Son n count work i

-- the place x is the first of its node, and the node has no mark
unfoldable pub starts : ℕ → List ℕ → List ℕ → ℕ → Bool
starts n work marks x = eqb (block_entry work (3 * n) (block_entry work (2 * n) x)) x && eqb (get_or marks (block_entry work (2 * n) x) 0) 0

-- the node of x gets the next number if x starts it
pub data Number (n x : ℕ) (work marks : List ℕ) (r : ℕ) (after : List ℕ) (q : ℕ) : Type 0 where
  passed : starts n work marks x ≡ false → after ≡ work → q ≡ r → Number n x work marks r after q
  given :
      starts n work marks x ≡ true → after ≡ set work (4 * n + block_entry work (2 * n) x) (r + 1) → q ≡ r + 1 →
      Number n x work marks r after q

-- the nodes that start before x have their numbers in the fifth block, r of them, and the others there what they had
pub record Numbers (n : ℕ) (work marks : List ℕ) (x r : ℕ) (after : List ℕ) : Type 0 where
  pub kept : UntouchedOutside (4 * n) n work after
  pub count : r ≡ tally (starts n work marks) (range 0 x)
  pub number :
      (z : ℕ) → z < x → starts n work marks z ≡ true →
      block_entry after (4 * n) (block_entry work (2 * n) z) ≡ suc (tally (starts n work marks) (range 0 z))
  pub other :
      (m : ℕ) → m < n → ((z : ℕ) → z < x → starts n work marks z ≡ true → block_entry work (2 * n) z ≢ m) →
      block_entry after (4 * n) m ≡ block_entry work (4 * n) m

-- the fifth block holds the numbers of the nodes that are the father of no node, and one number for all others; the other blocks are as they were
pub record Leaves (n count others : ℕ) (work : List ℕ) (r : ℕ) (after : List ℕ) : Type 0 where
  pub marks : List ℕ
  pub filled : List ℕ
  pub fill : Filled (4 * n) n others work filled
  pub mark : Marks n count work marks
  pub numbers : Numbers n filled marks n r after

-- the number of the node of x if x has its height, else 0
unfoldable pub patch_in : ℕ → List ℕ → List ℕ → ℕ → ℕ
patch_in n pixels work x =
    let m = block_entry work (2 * n) x in
    pick (eqb (get_or pixels x 0) (get_or work m 0)) (block_entry work (4 * n) m) 0
