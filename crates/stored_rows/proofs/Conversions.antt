-- Rows in either direction: which row is read, and that one way undoes the other.
use mathlib.Core.Path.{◌≡◌, refl, sym, ap, ◌∙◌}
use mathlib.Core.Bool.{Bool, true, false, not}
use mathlib.Core.List.{List, ◌∷◌, flat_map}
use Prim.Native.Nat.{ℕ, ◌*◌, ◌<◌}
use native.Mathlib.Omega.{arith}
use lib.Dec.{eqb, ltb}
use lib.ListN.{length, get_or}
use Rattle.lists.specs.Lists.{pick, range, index_from}
use Rattle.picture.specs.Pictures.{all_bytes}
use Rattle.lists.proofs.Lists.{range-mem, all-flat_map, flat_map-same, flat_map-map}
use Rattle.stored_rows.specs.Rows.{row_order, row_at, differences, sums, stored_rows, restored_rows}
use Rattle.stored_rows.specs.Steps.{position_of, row_at_position, source_row, written_byte, converted, converted_from, row_pixels, converted_row, converted_rows}
use Rattle.stored_rows.specs.Restoring.{Bytes}
use Rattle.stored_rows.proofs.Differences.{length-differences-from, length-differences, length-sums-from, length-sums, differences-zero, sums-zero, difference-at, sum-at, sums-differences, differences-sums, bytes-differences, bytes-sums}
use Rattle.stored_rows.proofs.Orders.{position-below, row_below, position-row, row-position, order-rows, index-order}
use Rattle.stored_rows.proofs.EqualRows.{rows-length, rows_at, rows_all, row-length, row-bytes}

-- the row that is read is a row, and the other way reads it back
pub source-below : (back : Bool) (h i : ℕ) → i < h → source_row back h i < h
source-below true h i l = position-below h i l
source-below false h i l = row_below h i l

source-back : (back : Bool) (h i : ℕ) → i < h → source_row back h (source_row (not back) h i) ≡ i
source-back true h i l = position-row h i l
source-back false h i l = row-position h i l

-- a row converted keeps its length and is bytes, and the other way restores it
converted-length : (back : Bool) (row : List ℕ) → length (converted back row) ≡ length row
converted-length true row = length-sums row
converted-length false row = length-differences row

converted-back : (back : Bool) (row : List ℕ) → all_bytes row ≡ true → converted (not back) (converted back row) ≡ row
converted-back true row e = differences-sums row e
converted-back false row e = sums-differences row e

converted-bytes : (back : Bool) (row : List ℕ) → all_bytes row ≡ true → all_bytes (converted back row) ≡ true
converted-bytes true row e = bytes-sums row e
converted-bytes false row e = bytes-differences row e

-- a row converted from a pixel 0: its length, its entries, the pixels passed, and the row converted
pub from-length : (back : Bool) (row : List ℕ) → length (converted_from back row) ≡ length row
from-length true row = length-sums-from 0 row
from-length false row = length-differences-from 0 row

pub from-at : (back : Bool) (row : List ℕ) (i : ℕ) → i < length row
    → written_byte back (get_or (0 ∷ row_pixels back row) i 0) (get_or row i 0) ≡ get_or (converted_from back row) i 0
from-at true row i h = sym (sum-at 0 row i h)
from-at false row i h = sym (difference-at 0 row i h)

pub from-pixel : (back : Bool) (row : List ℕ) (i : ℕ) → pick back (get_or (converted_from back row) i 0) (get_or row i 0) ≡ get_or (row_pixels back row) i 0
from-pixel true row i = refl
from-pixel false row i = refl

pub from-zero : (back : Bool) (row : List ℕ) → all_bytes row ≡ true → converted back row ≡ converted_from back row
from-zero true row e = sums-zero row e
from-zero false row e = differences-zero row e

-- all rows by their numbers
pub converted-rows : (back : Bool) (w h : ℕ) (xs : List ℕ) → flat_map (converted_row back w h xs) (range 0 h) ≡ converted_rows back w h xs
unfolding stored_rows restored_rows
converted-rows true w h xs =
    sym
    (flat_map-same (λ r. sums (row_at w xs (index_from h 0 (eqb r) (row_order h)))) (λ r. sums (row_at w xs (position_of h r))) (range 0 h)
    (λ r m. let b = range-mem 0 h m in ap (λ (i : ℕ). sums (row_at w xs i)) (index-order h r (omega arith))))
converted-rows false w h xs =
    sym (flat_map-map (λ r. differences (row_at w xs r)) (row_at_position h) (range 0 h))
    ∙ ap (flat_map (λ r. differences (row_at w xs r))) (sym (order-rows h))

module _ (back : Bool) (w h : ℕ) (xs : List ℕ) (count : length xs ≡ w * h) where
  converted-row-length : (i : ℕ) → i < h → length (converted_row back w h xs i) ≡ w
  converted-row-length i l =
      converted-length back (row_at w xs (source_row back h i)) ∙ row-length w h xs count (source_row back h i) (source-below back h i l)

  pub converted-count : length (converted_rows back w h xs) ≡ w * h
  converted-count = ap length (sym (converted-rows back w h xs)) ∙ rows-length w (converted_row back w h xs) h converted-row-length

  converted-row : (i : ℕ) → i < h → row_at w (converted_rows back w h xs) i ≡ converted_row back w h xs i
  converted-row i l =
      ap (λ (s : List ℕ). row_at w s i) (sym (converted-rows back w h xs))
      ∙ rows_at w (converted_row back w h xs) h converted-row-length i l

-- n bytes are converted to n bytes
pub rows-bytes : (back : Bool) (w h : ℕ) (xs : List ℕ) → Bytes w h xs → Bytes w h (converted_rows back w h xs)
rows-bytes back w h xs b =
    record {
      count = converted-count back w h xs b.count;
      each =
          ap all_bytes (sym (converted-rows back w h xs))
          ∙ all-flat_map (λ b. ltb b 256) (converted_row back w h xs) (range 0 h)
          (λ i m. converted-bytes back (row_at w xs (source_row back h i)) (row-bytes w xs (source_row back h i) b.each));
    }

-- the other way undoes a conversion
pub conversion-undone : (back : Bool) (w h : ℕ) (xs : List ℕ) → Bytes w h xs → converted_rows (not back) w h (converted_rows back w h xs) ≡ xs
conversion-undone back w h xs b =
    let s = converted_rows back w h xs in
    sym (converted-rows (not back) w h s)
    ∙ flat_map-same (converted_row (not back) w h s) (row_at w xs) (range 0 h)
    (λ i m.
    let l : i < h = let r = range-mem 0 h m in omega arith in
    ap (converted (not back))
    (converted-row back w h xs b.count (source_row (not back) h i) (source-below (not back) h i l)
    ∙ ap (λ (r : ℕ). converted back (row_at w xs r)) (source-back back h i l))
    ∙ converted-back back (row_at w xs i) (row-bytes w xs i b.each))
    ∙ rows_all w h xs b.count
