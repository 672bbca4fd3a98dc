-- Tests and what they say: the Boolean connectives, and cases on a test that a definition is stuck on.
use mathlib.Core.Path.{◌≡◌, refl, sym, ap, ◌∙◌}
use mathlib.Core.Bool.{Bool, true, false, ◌&&◌, ◌||◌, not, or-true, true≢false, false≢true}
use mathlib.Core.Logic.{◌⊎◌, inl, inr, ◌≢◌}
use Prim.Native.Nat.{ℕ, ◌+◌}
use lib.Dec.{eqb}
use borrow.Author.Tests.{not-true, not-false, eq-eqb, ne_eqb}
use Rattle.lists.specs.Lists.{pick}

-- both tests of a conjunction pass
pub and_left : (a b : Bool) → (a && b) ≡ true → a ≡ true
and_left true b e = refl
and_left false b e = e

pub and_right : (a b : Bool) → (a && b) ≡ true → b ≡ true
and_right true b e = e
and_right false true e = refl
and_right false false e = e

pub and_both : {a b : Bool} → a ≡ true → b ≡ true → (a && b) ≡ true
and_both p q = rw (p, q)

-- one test of a disjunction passes
pub or_cases : (a b : Bool) → (a || b) ≡ true → (a ≡ true) ⊎ (b ≡ true)
or_cases true b e = inl refl
or_cases false b e = inr e

pub or_left : {a : Bool} (b : Bool) → a ≡ true → (a || b) ≡ true
or_left b p = rw p

pub or_right : (a : Bool) {b : Bool} → b ≡ true → (a || b) ≡ true
or_right a p = rw p (or-true a)

-- no test of a disjunction passes
pub or-fails : (a b : Bool) → (a || b) ≡ false → (a ≡ false) × (b ≡ false)
or-fails true b e = absurd (true≢false e)
or-fails false b e = (refl, e)

pub or-neither : (a b : Bool) → a ≡ false → b ≡ false → (a || b) ≡ false
or-neither true b e f = e
or-neither false b e f = f

-- an implication of tests
pub implied : (a b : Bool) → (not a || b) ≡ true → a ≡ true → b ≡ true
implied true b e p = e
implied false b e p = absurd (false≢true p)

-- what holds of either value, under the test that picks it, holds of the one picked
pub on-pick : {A : Type 0} (P : A → Type 0) (t : Bool) {x y : A} → (t ≡ true → P x) → (t ≡ false → P y) → P (pick t x y)
on-pick P true f g = f refl
on-pick P false f g = g refl

-- a value picked by whether two numbers are equal
pub pick-in : {A : Type 0} (c d : ℕ) (v w : A) → c ≡ d → pick (eqb c d) v w ≡ v
pick-in c d v w e = ap (λ (b : Bool). pick b v w) (eq-eqb c d e)

pub pick_out : {A : Type 0} (c d : ℕ) (v w : A) → c ≢ d → pick (eqb c d) v w ≡ w
pick_out c d v w e = ap (λ (b : Bool). pick b v w) (ne_eqb c d e)

-- a sum picked, or 0
pub pick-add : (b : Bool) (v z : ℕ) → pick b (v + z) 0 ≡ pick b v 0 + pick b z 0
pick-add true v z = refl
pick-add false v z = refl

pub not_of_false : (a : Bool) → a ≡ false → not a ≡ true
not_of_false true h = absurd (true≢false h)
not_of_false false h = refl

pub clash : {b : Bool} → b ≡ true → b ≡ false → ⊥
clash p q = true≢false (sym p ∙ q)

pub test-false : (b : Bool) → (b ≡ true → ⊥) → b ≡ false
test-false true h = absurd (h refl)
test-false false h = refl

-- two tests that pass together are equal
pub same_test : (a b : Bool) → (a ≡ true → b ≡ true) → (b ≡ true → a ≡ true) → a ≡ b
same_test true b f g = sym (f refl)
same_test false true f g = g refl
same_test false false f g = refl

-- cases on a test
pub on_test {ℓ} : {C : Type ℓ} (b : Bool) → (b ≡ true → C) → (b ≡ false → C) → C
on_test true f g = f refl
on_test false f g = g refl

-- what holds of either case holds of the one taken
pub on-elim : {A : Type 0} (P : A → Type 0) (b : Bool) {x y : A} → (b ≡ true → P x) → (b ≡ false → P y) → P (elim b [ true ↦ x | false ↦ y ])
on-elim P true f g = f refl
on-elim P false f g = g refl

-- a test and its negation
pub not-both : (t : Bool) → t ≡ true → not t ≡ true → ⊥
not-both t e f = clash e (not-true t f)

pub either : {P : Type 0} (a b : Bool) → (a ≡ true → P) → (b ≡ true → P) → a || b ≡ true → P
either true b f g e = f refl
either false b f g e = g e

pub and-fails : (a b : Bool) → a && b ≡ false → (a ≡ false) ⊎ (b ≡ false)
and-fails true b e = inr e
and-fails false b e = inl refl

-- the test b passed or failed, from a flag r that is b and a branch on `!r`
pub was-false : {r b : Bool} → r ≡ b → not r ≡ true → b ≡ false
was-false {r} e t = sym e ∙ not-true r t

pub was-true : {r b : Bool} → r ≡ b → not r ≡ false → b ≡ true
was-true {r} e t = sym e ∙ not-false r t
