-- Blocks of cells.
use Rattle.std.specs.Prelude.{◌≡◌, ◌⊎◌, List, ℕ, ◌+◌, ◌≤◌, ◌<◌, length, get_or}

-- the entry i of the block that begins at b
abbrev pub block_entry : List ℕ → ℕ → ℕ → ℕ
block_entry l b i = get_or l (b + i) 0

-- nothing but the n entries from b on has changed
pub record UntouchedOutside (b n : ℕ) (cells after : List ℕ) : Type 0 where
  pub size : length after ≡ length cells
  pub outside : (j : ℕ) → (j < b) ⊎ (b + n ≤ j) → get_or after j 0 ≡ get_or cells j 0

-- the n entries from b on are the values of f from 0 on, and the others as they were
pub record Overwritten (f : ℕ → ℕ) (b n : ℕ) (cells after : List ℕ) : Type 0 where
  pub kept : UntouchedOutside b n cells after
  pub inside : (i : ℕ) → i < n → get_or after (b + i) 0 ≡ f i

-- the n entries from b on are v, and the others as they were
abbrev pub Filled : ℕ → ℕ → ℕ → List ℕ → List ℕ → Type 0
Filled b n v cells after = Overwritten (λ _. v) b n cells after

-- the first m entries are those of the source from b on, and the others as they were
abbrev pub Copied : List ℕ → ℕ → ℕ → List ℕ → List ℕ → Type 0
Copied from b m cells after = Overwritten (λ i. block_entry from b i) 0 m cells after
