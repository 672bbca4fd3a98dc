-- The fault of a picture's arguments: which tests make which number, and that no fault is what accepts a picture.
use mathlib.Core.Path.{◌≡◌, refl, sym, ◌∙◌}
use mathlib.Core.Bool.{true, false, ◌&&◌, ◌||◌}
use mathlib.Core.Logic.{◌≢◌}
use mathlib.Core.List.{List}
use Prim.Native.Nat.{ℕ, ◌*◌}
use native.Mathlib.Omega.{arith}
use borrow.Author.Tests.{eqb-true, eq-eqb, ne_eqb}
use lib.Dec.{eqb}
use lib.ListN.{length}
use Rattle.picture.specs.Pictures.{Picture, picture_of, side_fits, all_bytes, is_picture}
use Rattle.faults.specs.PictureFault.{sides_fault, picture_fault, picture_fault_of}
use Rattle.geometry.specs.declared.adjacency.Adjacency.{Adjacency}
use Rattle.geometry.specs.declared.adjacency.Adjacency.TheVariants.{Four, Eight}
use Rattle.geometry.specs.Adjacencies.{adjacency_number}
use Rattle.lists.proofs.Tests.{and_left, and_right, and_both, on_test}

module _ (w h l : ℕ) where
  pub sides-outside : (side_fits w && side_fits h) ≡ false → sides_fault w h l ≡ 3
  unfolding sides_fault
  sides-outside p = rw p

  pub sides-length : (side_fits w && side_fits h) ≡ true → eqb l (w * h) ≡ false → sides_fault w h l ≡ 8
  unfolding sides_fault
  sides-length p q = rw (p, q)

  pub sides-none : (side_fits w && side_fits h) ≡ true → eqb l (w * h) ≡ true → sides_fault w h l ≡ 0
  unfolding sides_fault
  sides-none p q = rw (p, q)

-- no fault of sides and length: the sides fit, and the pixels are as many as the places
pub record Sized (w h l : ℕ) : Type 0 where
  pub sides : (side_fits w && side_fits h) ≡ true
  pub size : l ≡ w * h

pub no-sides-fault : (w h l : ℕ) → sides_fault w h l ≡ 0 → Sized w h l
no-sides-fault w h l e =
    on_test (side_fits w && side_fits h)
    (λ p.
    on_test (eqb l (w * h))
    (λ q. record { sides = p; size = eqb-true l (w * h) q })
    (λ q. let z = sides-length w h l p q in absurd (omega arith)))
    (λ p. let z = sides-outside w h l p in absurd (omega arith))

module _ (a w h l : ℕ) where
  pub fault-adjacency : (eqb a 4 || eqb a 8) ≡ false → picture_fault a w h l ≡ 7
  unfolding picture_fault
  fault-adjacency p = rw p

  pub fault-sides : (eqb a 4 || eqb a 8) ≡ true → picture_fault a w h l ≡ sides_fault w h l
  unfolding picture_fault
  fault-sides p = rw p

-- an adjacency that has a number is one of two, and a number that is neither is refused
pub adjacency-named : (b : Adjacency) (a : ℕ) → adjacency_number b ≡ a → (eqb a 4 || eqb a 8) ≡ true
adjacency-named Four a e = rw (← e) refl
adjacency-named Eight a e = rw (← e) refl

pub adjacency-other : (a : ℕ) → a ≢ 4 → a ≢ 8 → (eqb a 4 || eqb a 8) ≡ false
adjacency-other a p q = rw (ne_eqb a 4 p, ne_eqb a 8 q) refl

-- no fault: the adjacency is 4 or 8, and sides and length have none
pub record Sound (a w h l : ℕ) : Type 0 where
  pub adjacency : (eqb a 4 || eqb a 8) ≡ true
  pub sized : Sized w h l

pub no-fault : (a w h l : ℕ) → picture_fault a w h l ≡ 0 → Sound a w h l
no-fault a w h l e =
    on_test (eqb a 4 || eqb a 8)
    (λ p. record { adjacency = p; sized = no-sides-fault w h l (sym (fault-sides a w h l p) ∙ e) })
    (λ p. let z = fault-adjacency a w h l p in absurd (omega arith))

-- a picture without a fault whose pixels are bytes is accepted
pub accepted : (p : Picture) → picture_fault_of p ≡ 0 → all_bytes p.pixels ≡ true → is_picture p ≡ true
unfolding is_picture
accepted p e b =
    let s = no-fault p.adjacency p.width p.height (length p.pixels) e in
    let t = s.sized in
    and_both s.adjacency
    (and_both (and_left (side_fits p.width) _ t.sides)
    (and_both (and_right (side_fits p.width) _ t.sides) (and_both (eq-eqb _ _ t.size) b)))

-- the same of an adjacency by its name
pub named-accepted :
    (b : Adjacency) (w h : ℕ) (xs : List ℕ) → sides_fault w h (length xs) ≡ 0 → all_bytes xs ≡ true →
    is_picture (picture_of (adjacency_number b) w h xs) ≡ true
named-accepted b w h xs e f =
    accepted (picture_of (adjacency_number b) w h xs) (fault-sides (adjacency_number b) w h (length xs) (adjacency-named b _ refl) ∙ e) f
