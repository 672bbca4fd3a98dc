-- Members and selections of lists by tests, and lists without repetition.
use mathlib.Core.Path.{◌≡◌, refl, sym, ap, ◌∙◌}
use mathlib.Core.Bool.{Bool, true, false, ◌&&◌, ◌||◌, not}
use mathlib.Core.List.Memᴰ
use mathlib.Core.List.{List, [], ◌∷◌, ◌++◌, map, Memᴰ}
use Prim.Native.Nat.{ℕ, zero, suc, ◌≤◌, ◌<◌}
use native.Mathlib.Omega.{arith}
use lib.Dec.{eqb}
use lib.ListN.{length, get_or, take, drop}
use borrow.Author.Tests.{eqb-true}
use Rattle.lists.specs.Lists.{pick, any, all, select, range, is_in}
use Rattle.lists.proofs.Tests.{and_left, and_right, and_both, not_of_false, test-false}
use Rattle.lists.proofs.Lists.{any-mem, mem-any, all-mem, length-select, tally-length, in_mem, mem-in, mem-range}
use Rattle.lists.proofs.Indices.{mem_index, index-mem}

module _ {A : Type 0} (t : A → Bool) where
  -- a test that every member and the default pass passes at every index
  pub all-at : (xs : List A) (d : A) → t d ≡ true → all t xs ≡ true → (i : ℕ) → t (get_or xs i d) ≡ true
  all-at [] d p q i = p
  all-at (x ∷ xs) d p q zero = and_left (t x) _ q
  all-at (x ∷ xs) d p q (suc i) = all-at xs d p (and_right (t x) _ q) i

  -- a test that every member passes, every member of a part passes
  pub all_take : (n : ℕ) (xs : List A) → all t xs ≡ true → all t (take n xs) ≡ true
  all_take zero xs h = refl
  all_take (suc n) [] h = refl
  all_take (suc n) (x ∷ xs) h = and_both (and_left (t x) _ h) (all_take n xs (and_right (t x) _ h))

  pub all_drop : (n : ℕ) (xs : List A) → all t xs ≡ true → all t (drop n xs) ≡ true
  all_drop zero xs h = h
  all_drop (suc n) [] h = refl
  all_drop (suc n) (x ∷ xs) h = all_drop n xs (and_right (t x) _ h)

  -- if some member passes the test and every member passes another, one passes both
  pub any-all :
      (u : A → Bool) (xs : List A) → any t xs ≡ true → all u xs ≡ true → (a : A) × (t a ≡ true) × (u a ≡ true)
  any-all u xs p q = let (a, m, e) = any-mem t xs p in (a, e, all-mem u q m)

  -- a test that passes wherever another does passes at some member if the other does
  pub any-mono : (v : A → Bool) → ((a : A) → v a ≡ true → t a ≡ true) → (xs : List A) → any v xs ≡ true → any t xs ≡ true
  any-mono v f xs p = let (a, m, e) = any-mem v xs p in mem-any t m (f a e)

  -- a selection is no longer than the list
  pub select-most : (xs : List A) → length (select t xs) ≤ length xs
  select-most xs = let a = length-select t xs in let b = tally-length t xs in omega arith

  -- some member of the images of a selection passes a test
  pub any-map-select :
      {B : Type 0} (q : B → Bool) (f : A → B) (xs : List A) →
      any q (map f (select t xs)) ≡ any (λ a. t a && q (f a)) xs
  any-map-select q f [] = refl
  any-map-select q f (x ∷ xs) = by (t x) (any-map-select q f xs)
    where
      by :
          (b : Bool) → any q (map f (select t xs)) ≡ any (λ a. t a && q (f a)) xs →
          any q (map f (pick b (x ∷ []) [] ++ select t xs)) ≡ (b && q (f x) || any (λ a. t a && q (f a)) xs)
      by true e = ap (λ r. q (f x) || r) e
      by false e = e

-- no number stands twice
abbrev pub distinct : List ℕ → Bool
distinct [] = true
distinct (x ∷ xs) = not (is_in x xs) && distinct xs

-- each member passes a test with every later one
abbrev pub pairwise : {A : Type 0} → (A → A → Bool) → List A → Bool
pairwise d [] = true
pairwise d (x ∷ xs) = all (d x) xs && pairwise d xs

-- members of a selection that differ pairwise have images that stand once each, if different members have different images
module _ {A : Type 0} (t : A → Bool) (f : A → ℕ) (d : A → A → Bool) where
  pub distinct-images :
      ((a b : A) → t a ≡ true → t b ≡ true → d a b ≡ true → f a ≡ f b → ⊥) →
      (xs : List A) → pairwise d xs ≡ true → distinct (map f (select t xs)) ≡ true
  distinct-images apart [] e = refl
  distinct-images apart (x ∷ xs) e = by (t x) refl (distinct-images apart xs (and_right (all (d x) xs) _ e))
    where
      once : t x ≡ true → is_in (f x) (map f (select t xs)) ≡ true → ⊥
      once p q =
          let (a, s, u) =
          any-all (λ a. t a && eqb (f x) (f a)) (d x) xs (sym (any-map-select t (eqb (f x)) f xs) ∙ q)
          (and_left (all (d x) xs) _ e) in
          apart x a p (and_left (t a) _ s) u (eqb-true (f x) (f a) (and_right (t a) _ s))

      by :
          (b : Bool) → t x ≡ b → distinct (map f (select t xs)) ≡ true →
          distinct (map f (pick b (x ∷ []) [] ++ select t xs)) ≡ true
      by true p h = and_both (not_of_false _ (test-false _ (once p))) h
      by false p h = h

-- what stands at an index is a member, and a member stands at an index
pub is_in-at : (xs : List ℕ) (i : ℕ) → i < length xs → is_in (get_or xs i 0) xs ≡ true
is_in-at xs i h = mem-in (get_or xs i 0) xs (index-mem 0 xs i h)

pub is_in-index : (y : ℕ) (xs : List ℕ) → is_in y xs ≡ true → (i : ℕ) × (i < length xs) × (get_or xs i 0 ≡ y)
is_in-index y xs e = mem_index 0 (in_mem y xs e)

-- the only member
pub only-member : {A : Type 0} (d : A) {x : A} (l : List A) → length l ≡ 1 → Memᴰ x l → get_or l 0 d ≡ x
only-member d [] e m = absurd (Memᴰ.not-nil m)
only-member d (y ∷ []) e m = sym (Memᴰ.eq_of_singleton m)
only-member d (y ∷ (z ∷ zs)) e m = absurd (omega arith)

-- a test that every number below l passes passes at each of them
pub all-below : (t : ℕ → Bool) (l : ℕ) → all t (range 0 l) ≡ true → (i : ℕ) → i < l → t i ≡ true
all-below t l e i h = all-mem t e (mem-range 0 l (omega arith) (omega arith))
