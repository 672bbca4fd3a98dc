-- Rows and faults by computation.
use mathlib.Core.Path.{◌≡◌, refl}
use mathlib.Core.List.{List, [], ◌∷◌, flat_map}
use Prim.Native.Nat.{ℕ}
use lib.ListN.{replicate}
use Rattle.lists.specs.Lists.{over}
use Rattle.faults.specs.PictureFault.{sides_fault}
use Rattle.stored_rows.specs.Rows.{row_order, stored_rows, restored_rows}
use Rattle.stored_rows.specs.Calls.{rows_fault}

-- the order of 1, 2, 5 and 6 rows
pub order-worked :
    (row_order 1 ≡ 0 ∷ []) ×
    (row_order 2 ≡ 0 ∷ 1 ∷ []) ×
    (row_order 5 ≡ 0 ∷ 2 ∷ 4 ∷ 1 ∷ 3 ∷ []) ×
    (row_order 6 ≡ 0 ∷ 2 ∷ 4 ∷ 1 ∷ 3 ∷ 5 ∷ [])
unfolding row_order
order-worked = (refl, refl, refl, refl)

-- a picture of 3 by 3, row by row: 10 20 5, 255 0 1, 7 7 9
abbrev picture33 : List ℕ
picture33 = 10 ∷ 20 ∷ 5 ∷ 255 ∷ 0 ∷ 1 ∷ 7 ∷ 7 ∷ 9 ∷ []

-- its stored form: 10 10 241, 7 0 2, then 255 1 1
abbrev stored33 : List ℕ
stored33 = 10 ∷ 10 ∷ 241 ∷ 7 ∷ 0 ∷ 2 ∷ 255 ∷ 1 ∷ 1 ∷ []

pub rows-worked : (stored_rows 3 3 picture33 ≡ stored33) × (restored_rows 3 3 stored33 ≡ picture33)
unfolding flat_map row_order stored_rows restored_rows
rows-worked = (refl, refl)

-- 2 by 5, where the order is not its own inverse: 10 12, 1 0, 20 25, 255 3, 7 7 as 10 2, 20 5, 7 0, then 1 255, 255 4
abbrev picture25 : List ℕ
picture25 = 10 ∷ 12 ∷ 1 ∷ 0 ∷ 20 ∷ 25 ∷ 255 ∷ 3 ∷ 7 ∷ 7 ∷ []

abbrev stored25 : List ℕ
stored25 = 10 ∷ 2 ∷ 20 ∷ 5 ∷ 7 ∷ 0 ∷ 1 ∷ 255 ∷ 255 ∷ 4 ∷ []

pub rows-five : (stored_rows 2 5 picture25 ≡ stored25) × (restored_rows 2 5 stored25 ≡ picture25)
unfolding flat_map row_order stored_rows restored_rows
rows-five = (refl, refl)

-- rows of one pixel have no difference, and a single row stays in its place
pub rows-narrow :
    (stored_rows 1 4 (1 ∷ 2 ∷ 3 ∷ 4 ∷ []) ≡ 1 ∷ 3 ∷ 2 ∷ 4 ∷ []) ×
    (restored_rows 1 4 (1 ∷ 3 ∷ 2 ∷ 4 ∷ []) ≡ 1 ∷ 2 ∷ 3 ∷ 4 ∷ []) ×
    (stored_rows 4 1 (9 ∷ 8 ∷ 8 ∷ 255 ∷ []) ≡ 9 ∷ 255 ∷ 0 ∷ 247 ∷ []) ×
    (restored_rows 4 1 (9 ∷ 255 ∷ 0 ∷ 247 ∷ []) ≡ 9 ∷ 8 ∷ 8 ∷ 255 ∷ [])
unfolding flat_map row_order stored_rows restored_rows
rows-narrow = (refl, refl, refl, refl)

-- each fault comes before those behind it: a side, the count of bytes, the output
pub faults-ordered :
    (rows_fault 0 1 2 0 ≡ 3) ×
    (rows_fault 41 1 2 0 ≡ 3) ×
    (rows_fault 1 0 2 0 ≡ 3) ×
    (rows_fault 1 41 2 0 ≡ 3) ×
    (rows_fault 1 1 2 0 ≡ 8) ×
    (rows_fault 1 1 0 0 ≡ 8) ×
    (rows_fault 1 1 1 0 ≡ 9) ×
    (rows_fault 1 1 1 1 ≡ 0) ×
    (rows_fault 40 40 1600 1599 ≡ 9) ×
    (rows_fault 40 40 1600 1600 ≡ 0)
unfolding sides_fault rows_fault
faults-ordered = (refl, refl, refl, refl, refl, refl, refl, refl, refl, refl)

-- the output after two pixels: their stored form, then two bytes that were there
pub output-worked : over (stored_rows 2 1 (5 ∷ 3 ∷ [])) (replicate 4 7) ≡ 5 ∷ 254 ∷ 7 ∷ 7 ∷ []
unfolding flat_map row_order stored_rows
output-worked = refl
