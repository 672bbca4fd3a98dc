-- Rows as they are stored: the even rows first, then the odd ones, each pixel but the first of a row by its difference from its left neighbour.
use Rattle.std.specs.Prelude.{Bool, not, ℕ, ◌+◌, ◌-◌, ◌*◌, ◌%◌, eqb, take, drop}
use mathlib.Core.List.{List, [], ◌∷◌, ◌++◌, flat_map}
use Rattle.lists.specs.Lists.{select, range, index_from}

-- a number is even
abbrev pub is_even : ℕ → Bool
is_even r = eqb (r % 2) 0

-- a number is odd
abbrev pub is_odd : ℕ → Bool
is_odd r = not (is_even r)

-- the order of the rows in the store: 0, 2, 4 and so on, then the odd rows
unfoldable pub row_order : ℕ → List ℕ
row_order h = select is_even (range 0 h) ++ select is_odd (range 0 h)

-- the row r of entries in rows of w
abbrev pub row_at : ℕ → List ℕ → ℕ → List ℕ
row_at w xs r = take w (drop (r * w) xs)

-- the difference of a pixel b from its left neighbour l modulo 256
abbrev pub difference : ℕ → ℕ → ℕ
difference l b = (b + 256 - l) % 256

-- the pixel whose difference from its left neighbour l is d
abbrev pub pixel_after : ℕ → ℕ → ℕ
pixel_after l d = (l + d) % 256

-- pixels that follow a pixel l, each by its difference from its left neighbour in the picture, not from what is stored for that
abbrev pub differences_from : ℕ → List ℕ → List ℕ
differences_from l [] = []
differences_from l (b ∷ s) = difference l b ∷ differences_from b s

-- a row as it is stored: the first pixel as it is, the others by their differences (standard term: delta encoding)
abbrev pub differences : List ℕ → List ℕ
differences [] = []
differences (b ∷ s) = b ∷ differences_from b s

-- the pixels with these differences that follow a pixel l
abbrev pub sums_from : ℕ → List ℕ → List ℕ
sums_from l [] = []
sums_from l (d ∷ s) = pixel_after l d ∷ sums_from (pixel_after l d) s

-- the pixels of a stored row (standard term: prefix sums, here modulo 256)
abbrev pub sums : List ℕ → List ℕ
sums [] = []
sums (b ∷ s) = b ∷ sums_from b s

-- the stored form of the pixels of a picture with sides w and h
unfoldable pub stored_rows : ℕ → ℕ → List ℕ → List ℕ
stored_rows w h xs = flat_map (λ r. differences (row_at w xs r)) (row_order h)

-- the way back: row r stands in the store where r stands in the order of the rows
unfoldable pub restored_rows : ℕ → ℕ → List ℕ → List ℕ
restored_rows w h s = flat_map (λ r. sums (row_at w s (index_from h 0 (eqb r) (row_order h)))) (range 0 h)
