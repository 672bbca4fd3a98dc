-- Entries written into memory behind what is there.
use Rattle.std.specs.Prelude.{◌≡◌, List, ◌++◌, ℕ, ◌+◌, length, take, drop}

-- the entries xs stand in the memory from one position up to another, and every other entry is as it was
pub record Written (from : ℕ) (xs entry : List ℕ) (to : ℕ) (exit : List ℕ) : Type 0 where
  pub end : to ≡ from + length xs
  pub whole : exit ≡ take from entry ++ (xs ++ drop to entry)
