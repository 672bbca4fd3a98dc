-- What the functions behind the neighbours say of one step.
use Rattle.std.specs.Prelude.{◌≡◌, Bool, true, ◌&&◌, List, ℕ, ◌+◌, ◌*◌, ◌<◌, eqb, leb, ltb, ℤ, pos, negsuc, length, get_or}
use Rattle.picture.specs.declared.Step.{Step}
use Rattle.lists.specs.Lists.{pick}
use Rattle.picture.specs.Geometry.{step, steps, offset}
use Rattle.picture.proofs.Neighbours.{Placed}

-- a step in one direction is −1, 0 or 1
abbrev pub is_unit : ℤ → Bool
is_unit (pos n) = leb n 1
is_unit (negsuc n) = leb n 0

-- the distance in the table from a step that an adjacency uses to the next
abbrev pub stride_of : ℕ → ℕ
stride_of a = pick (eqb a 4) 2 1

-- the step at an index of the table
abbrev pub step_at : ℕ → Step
step_at i = get_or steps i (step (pos 0) (pos 0))

-- a step by −1, 0 or 1 column and row
pub record Unit (s : Step) : Type 0 where
  pub column : is_unit s.column ≡ true
  pub row : is_unit s.row ≡ true

-- a column or a row plus and minus one lies inside the edge
abbrev pub off_edge : ℕ → ℕ → Bool
off_edge side c = leb 1 c && ltb (c + 1) side

-- neither the column nor the row lies at the edge
abbrev pub is_inner : ℕ → ℕ → ℕ → ℕ → Bool
is_inner w h column row = off_edge w column && off_edge h row

-- a step from a place by its column and row, and a cell for what it leads to
pub record Stepping (w h column row : ℕ) (s : Step) (m : ℕ) (cells : List ℕ) : Type 0 where
  pub placed : Placed w h (row * w + column)
  pub in_row : column < w
  pub unit : Unit s
  pub room : m < length cells

-- the column and the row that a step leads to from another column and row, each plus one
pub record StepsTo (column₀ row₀ : ℕ) (s : Step) (c r : ℕ) : Type 0 where
  pub column : c ≡ column₀ + (offset s).column
  pub row : r ≡ row₀ + (offset s).row
