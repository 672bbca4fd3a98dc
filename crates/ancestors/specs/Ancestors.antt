-- Two nodes from which a climb along fathers meets.
use Rattle.std.specs.Prelude.{List, ℕ, suc, ◌≤◌, ◌<◌, length, get_or}

-- a and b are nodes of a tree whose fathers are the first entries of fs: every node but the last has a father of a greater number
pub record Climbing (fs : List ℕ) (a b : ℕ) : Type 0 where
  pub count : ℕ
  pub few : count ≤ length fs
  pub rises : (i : ℕ) → suc i < count → (i < get_or fs i 0) × (get_or fs i 0 < count)
  pub first : a < count
  pub second : b < count
