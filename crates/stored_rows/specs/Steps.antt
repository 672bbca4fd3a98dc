-- What the functions inside say: where a row stands in the store, rows in either direction, and what they are lent.
-- `back` is false for storing, true for the way back; bytes are the pixels or their stored form.
use Rattle.std.specs.Prelude.{◌≡◌, Bool, List, ℕ, ◌+◌, ◌-◌, ◌*◌, ◌/◌, ◌≤◌, ◌<◌, ltb, length}
use Rattle.lists.specs.Lists.{pick}
use Rattle.answers.specs.Answers.{Answer}
use Rattle.stored_rows.specs.Rows.{is_even, row_at, difference, pixel_after, differences_from, differences, sums_from, sums, stored_rows, restored_rows}
use Rattle.stored_rows.specs.Calls.{rows_fault, RowsSay}

-- how many of h rows are even
abbrev pub even_rows : ℕ → ℕ
even_rows h = (h + 1) / 2

-- the position of a row in the store
abbrev pub position_of : ℕ → ℕ → ℕ
position_of h r = pick (is_even r) (r / 2) (even_rows h + r / 2)

-- the row at a position of the store
abbrev pub row_at_position : ℕ → ℕ → ℕ
row_at_position h i = pick (ltb i (even_rows h)) (2 * i) (2 * (i - even_rows h) + 1)

-- the row that is read for row i of what is written
abbrev pub source_row : Bool → ℕ → ℕ → ℕ
source_row back h i = pick back (position_of h i) (row_at_position h i)

-- what is written for a byte, by the pixel left of it
abbrev pub written_byte : Bool → ℕ → ℕ → ℕ
written_byte back l b = pick back (pixel_after l b) (difference l b)

-- a row as it is written
abbrev pub converted : Bool → List ℕ → List ℕ
converted back row = pick back (sums row) (differences row)

-- a row as it is written, where the first byte stands behind a pixel 0
abbrev pub converted_from : Bool → List ℕ → List ℕ
converted_from back row = pick back (sums_from 0 row) (differences_from 0 row)

-- the pixels of a row that is read
abbrev pub row_pixels : Bool → List ℕ → List ℕ
row_pixels back row = pick back (sums_from 0 row) row

-- row i of what is written
abbrev pub converted_row : Bool → ℕ → ℕ → List ℕ → ℕ → List ℕ
converted_row back w h bytes i = converted back (row_at w bytes (source_row back h i))

-- all rows as they are written
abbrev pub converted_rows : Bool → ℕ → ℕ → List ℕ → List ℕ
converted_rows back w h bytes = pick back (restored_rows w h bytes) (stored_rows w h bytes)

-- the promise of either call
abbrev pub ConvertSays : Bool → ℕ → ℕ → List ℕ → List ℕ → List ℕ → Answer → Type 0
ConvertSays back w h bytes out out' result =
    RowsSay (rows_fault w h (length bytes) (length out)) (converted_rows back w h bytes) out out' result

-- a row of at most 40
pub record IsRow (h r : ℕ) : Type 0 where
  pub high : h ≤ 40
  pub below : r < h

-- a row of w entries fits from a position on in an output of that length, and lies within the 1,600 places
pub record RowFits (w at room : ℕ) : Type 0 where
  pub within : at + w ≤ room
  pub few : at + w ≤ 1600

-- sides up to 40, w h bytes, and an output with room for as many
pub record Fits (w h : ℕ) (bytes out : List ℕ) : Type 0 where
  pub wide : w ≤ 40
  pub high : h ≤ 40
  pub count : length bytes ≡ w * h
  pub room : w * h ≤ length out

-- the same, and a row
pub record RowLent (w h : ℕ) (bytes out : List ℕ) (r : ℕ) : Type 0 where
  pub lent : Fits w h bytes out
  pub below : r < h
