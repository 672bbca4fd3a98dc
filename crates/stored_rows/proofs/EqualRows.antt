-- Rows of equal length behind one another.
use mathlib.Core.Path.{◌≡◌, refl, sym, ap, ap₂, ◌∙◌}
use mathlib.Core.Bool.{true}
use mathlib.Core.List.{List, [], ◌∷◌, ◌++◌, flat_map, Memᴰ}
use Prim.Native.Nat.{ℕ, zero, suc, ◌+◌, ◌*◌, ◌≤◌, ◌<◌}
use native.Mathlib.Nat.{zero-mul, zero-add, mul-le-mul_right}
use native.Mathlib.Omega.{arith}
use lib.Dec.{ltb}
use lib.ListN.{length, get_or, take, drop, length-append, length-drop}
use lib.Seq.{take_at, take_all, take-add, drop-append-add, length-take-le}
use Rattle.lists.specs.Lists.{range}
use Rattle.picture.specs.Pictures.{all_bytes}
use Rattle.lists.proofs.Lists.{length-range, get_or-range, range-mem, flat_map-next}
use Rattle.lists.proofs.Members.{all_take, all_drop}
use Rattle.stored_rows.specs.Rows.{row_at}

module _ (w : ℕ) (g : ℕ → List ℕ) where
  -- the rows of a list of row numbers: their length together, and each of them
  flat-length : (l : List ℕ) → ((x : ℕ) → Memᴰ x l → length (g x) ≡ w) → length (flat_map g l) ≡ w * length l
  unfolding flat_map
  flat-length [] f = omega arith
  flat-length (x ∷ xs) f =
      let e = f x (Memᴰ.head refl) in
      let r = flat-length xs (λ y m. f y (Memᴰ.tail m)) in
      length-append (g x) (flat_map g xs) ∙ omega arith

  flat-row : (l : List ℕ) → ((x : ℕ) → Memᴰ x l → length (g x) ≡ w) → (i : ℕ) → i < length l →
      row_at w (flat_map g l) i ≡ g (get_or l i 0)
  unfolding flat_map
  flat-row [] f i h = absurd (omega arith)
  flat-row (x ∷ xs) f zero h =
      ap (λ (n : ℕ). take w (drop n (g x ++ flat_map g xs))) (zero-mul w)
      ∙ take_at (g x) (flat_map g xs) w (f x (Memᴰ.head refl))
  flat-row (x ∷ xs) f (suc i) h =
      let e = f x (Memᴰ.head refl) in
      let n : suc i * w ≡ length (g x) + i * w = omega arith in
      ap (λ (m : ℕ). take w (drop m (g x ++ flat_map g xs))) n
      ∙ ap (take w) (drop-append-add (g x) (flat_map g xs) (i * w))
      ∙ flat-row xs (λ y m. f y (Memᴰ.tail m)) i (omega arith)

  -- the same of all h rows
  module _ (h : ℕ) (long : (i : ℕ) → i < h → length (g i) ≡ w) where
    member-long : (i : ℕ) → Memᴰ i (range 0 h) → length (g i) ≡ w
    member-long i m = let b = range-mem 0 h m in long i (omega arith)

    pub rows-length : length (flat_map g (range 0 h)) ≡ w * h
    rows-length = flat-length (range 0 h) member-long ∙ ap (λ (n : ℕ). w * n) (length-range 0 h)

    pub rows_at : (i : ℕ) → i < h → row_at w (flat_map g (range 0 h)) i ≡ g i
    rows_at i l =
        flat-row (range 0 h) member-long i (omega (arith, length-range 0 h)) ∙ ap g (get_or-range 0 h i l ∙ zero-add i)

-- the rows of a list, one after the other
rows-front : (w : ℕ) (xs : List ℕ) (i : ℕ) → flat_map (row_at w xs) (range 0 i) ≡ take (i * w) xs
unfolding flat_map
rows-front w xs zero = sym (ap (λ (n : ℕ). take n xs) (zero-mul w))
rows-front w xs (suc i) =
    let n : suc i * w ≡ i * w + w = omega arith in
    flat_map-next (row_at w xs) 0 i
    ∙ ap₂ (λ (a b : List ℕ). a ++ b) (rows-front w xs i) (ap (row_at w xs) (zero-add i))
    ∙ sym (take-add (i * w) w xs)
    ∙ ap (λ (m : ℕ). take m xs) (sym n)

module _ (w h : ℕ) (xs : List ℕ) (count : length xs ≡ w * h) where
  pub rows_all : flat_map (row_at w xs) (range 0 h) ≡ xs
  rows_all = rows-front w xs h ∙ take_all (h * w) xs (omega arith)

  -- a row has w entries
  pub row-length : (r : ℕ) → r < h → length (row_at w xs r) ≡ w
  row-length r l =
      let m : suc r * w ≤ h * w = mul-le-mul_right w l in
      length-take-le w (drop (r * w) xs) (omega (arith, length-drop (r * w) xs))

-- a row of bytes
pub row-bytes : (w : ℕ) (xs : List ℕ) (r : ℕ) → all_bytes xs ≡ true → all_bytes (row_at w xs r) ≡ true
row-bytes w xs r e = all_take (λ b. ltb b 256) w (drop (r * w) xs) (all_drop (λ b. ltb b 256) (r * w) xs e)
