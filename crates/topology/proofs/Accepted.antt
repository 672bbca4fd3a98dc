-- What an accepted picture is, entry by entry.
use mathlib.Core.Path.{◌≡◌, refl, ap}
use mathlib.Core.Bool.{true, ◌||◌}
use mathlib.Core.Logic.{◌⊎◌, inl, inr, ⊎_elim}
use mathlib.Core.List.{List, [], ◌∷◌}
use Prim.Native.Nat.{ℕ, zero, suc, ◌≤◌, ◌<◌}
use native.Mathlib.Nat.{mul-pos}
use native.Mathlib.Omega.{arith}
use lib.Dec.{eqb, ltb, leb}
use lib.ListN.{length, get_or}
use borrow.Author.Tests.{eqb-true, leb-true, ltb-true, eq-eqb, le-leb, lt-ltb}
use Rattle.picture.proofs.Sides.{within-some, within-most, is_within, area-most}
use Rattle.picture.specs.Pictures.{Picture, places, value_at, with_pixels, side_fits, all_bytes, is_picture}
use Rattle.picture.proofs.Neighbours.{Placed}
use Rattle.picture.specs.Kept.{nowhere_above}
use Rattle.lists.proofs.Tests.{and_left, and_right, and_both, or_cases, or_left, or_right, clash}
use Rattle.lists.proofs.Members.{all-at}

-- what the test of an accepted picture says
pub record Accepted (p : Picture) : Type 0 where
  pub adjacency : (p.adjacency ≡ 4) ⊎ (p.adjacency ≡ 8)
  pub some : 1 ≤ p.width
  pub wide : p.width ≤ 40
  pub tall : 1 ≤ p.height
  pub high : p.height ≤ 40
  pub size : length p.pixels ≡ places p
  pub bytes : all_bytes p.pixels ≡ true

pub accepted-is : (p : Picture) → is_picture p ≡ true → Accepted p
unfolding is_picture
accepted-is p h =
    let a = and_left (eqb p.adjacency 4 || eqb p.adjacency 8) _ h in
    let h₁ = and_right (eqb p.adjacency 4 || eqb p.adjacency 8) _ h in
    let w = and_left (side_fits p.width) _ h₁ in
    let h₂ = and_right (side_fits p.width) _ h₁ in
    let t = and_left (side_fits p.height) _ h₂ in
    let h₃ = and_right (side_fits p.height) _ h₂ in
    record {
      adjacency =
          ⊎_elim (λ e. inl (eqb-true p.adjacency 4 e)) (λ e. inr (eqb-true p.adjacency 8 e))
          (or_cases (eqb p.adjacency 4) (eqb p.adjacency 8) a);
      some = within-some 40 p.width w;
      wide = within-most 40 p.width w;
      tall = within-some 40 p.height t;
      high = within-most 40 p.height t;
      size = eqb-true (length p.pixels) (places p) (and_left (eqb (length p.pixels) (places p)) _ h₃);
      bytes = and_right (eqb (length p.pixels) (places p)) (all_bytes p.pixels) h₃;
    }

pub is-accepted : (p : Picture) → Accepted p → is_picture p ≡ true
unfolding is_picture
is-accepted p a =
    and_both
    (⊎_elim
    (λ e. or_left (eqb p.adjacency 8) (eq-eqb p.adjacency 4 e))
    (λ e. or_right (eqb p.adjacency 4) (eq-eqb p.adjacency 8 e))
    a.adjacency)
    (and_both
    (is_within 40 p.width a.some a.wide)
    (and_both
    (is_within 40 p.height a.tall a.high)
    (and_both
    (eq-eqb (length p.pixels) (places p) a.size)
    a.bytes)))

-- from 1 to 1600 places
pub places-some : (p : Picture) → Accepted p → 1 ≤ places p
places-some p a = mul-pos a.some a.tall

pub places-bound : (p : Picture) → Accepted p → places p ≤ 1600
places-bound p a = area-most p.width p.height a.wide a.high

pub picture-few : (p : Picture) → is_picture p ≡ true → places p ≤ 1600
picture-few p h = places-bound p (accepted-is p h)

pub pixels-few : (p : Picture) → is_picture p ≡ true → length p.pixels ≤ 1600
pixels-few p h = let a = picture-few p h in let e = (accepted-is p h).size in omega arith

-- a place of it
pub placed : (p : Picture) → Accepted p → (x : ℕ) → x < places p → Placed p.width p.height x
placed p a x h = record { some = a.some; wide = a.wide; high = a.high; inside = h }

-- other pixels in the same frame
pub accepted-with : (p : Picture) (xs : List ℕ) → Accepted p → length xs ≡ places p → all_bytes xs ≡ true → Accepted (with_pixels p xs)
accepted-with p xs a e b =
    record {
      adjacency = a.adjacency;
      some = a.some;
      wide = a.wide;
      tall = a.tall;
      high = a.high;
      size = e;
      bytes = b;
    }

pub byte_at : (xs : List ℕ) → all_bytes xs ≡ true → (i : ℕ) → get_or xs i 0 ≤ 255
byte_at xs h i = let q = ltb-true (get_or xs i 0) 256 (all-at (λ b. ltb b 256) xs 0 refl h i) in omega arith

-- the values of the pixels are bytes, and are known from the list of them
pub value-byte : (p : Picture) → Accepted p → (x : ℕ) → value_at p x ≤ 255
value-byte p a x = byte_at p.pixels a.bytes x

pub value_in : (p : Picture) (pixels : List ℕ) → p.pixels ≡ pixels → (x : ℕ) → value_at p x ≡ get_or pixels x 0
value_in p pixels e x = ap (λ (l : List ℕ). get_or l x 0) e

pub at_byte : (xs : List ℕ) → ((i : ℕ) → get_or xs i 0 ≤ 255) → all_bytes xs ≡ true
at_byte [] f = refl
at_byte (x ∷ xs) f =
    and_both (lt-ltb x 256 (let q : x ≤ 255 = f 0 in omega arith)) (at_byte xs (λ i. f (suc i)))

pub above_at : (xs ys : List ℕ) → nowhere_above xs ys ≡ true → (i : ℕ) → i < length xs → get_or xs i 0 ≤ get_or ys i 0
above_at [] ys h i b = absurd (omega arith)
above_at (x ∷ xs) [] h i b = absurd (clash h refl)
above_at (x ∷ xs) (y ∷ ys) h zero b = leb-true x y (and_left (leb x y) (nowhere_above xs ys) h)
above_at (x ∷ xs) (y ∷ ys) h (suc i) b = above_at xs ys (and_right (leb x y) (nowhere_above xs ys) h) i (omega arith)

pub at_above : (xs ys : List ℕ) → length xs ≡ length ys → ((i : ℕ) → get_or xs i 0 ≤ get_or ys i 0) → nowhere_above xs ys ≡ true
at_above [] ys e f = refl
at_above (x ∷ xs) [] e f = absurd (omega arith)
at_above (x ∷ xs) (y ∷ ys) e f =
    and_both (le-leb x y (f 0)) (at_above xs ys (omega arith) (λ i. f (suc i)))
