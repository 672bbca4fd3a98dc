-- Sums over lists: of selected members, of a range, after a store, under a bound, by a number. The largest and the least member.
use mathlib.Core.Path.{◌≡◌, refl, sym, ap, subst, ◌∙◌}
use mathlib.Core.Bool.{Bool}
use mathlib.Core.Logic.{⊎_elim}
use mathlib.Core.List.Memᴰ
use mathlib.Core.List.{List, [], ◌∷◌, ◌++◌, map, map-append, Memᴰ}
use Prim.Native.Nat.{ℕ, zero, suc, ◌+◌, ◌-◌, ◌*◌, ◌≤◌, ◌<◌}
use native.Mathlib.Nat.{mul-suc}
use native.Mathlib.Omega.{arith}
use lib.Dec.{eqb, leb}
use lib.ListN.{length, get_or, set, drop, length-map}
use lib.Seq.{drop-cons}
use borrow.Author.Tests.{leb-true, leb-false}
use Rattle.lists.specs.Lists.{pick, select, range, total, highest, lowest}
use Rattle.lists.proofs.Tests.{on_test, on-pick}
use Rattle.lists.proofs.Lists.{select_in, select-out, length-range, range-next, get_or-map-range}

-- a sum over selected members is one over all, with 0 for the others
pub total-select : (g : ℕ → ℕ) (t : ℕ → Bool) (l : List ℕ) → total (map g (select t l)) ≡ total (map (λ x. pick (t x) (g x) 0) l)
total-select g t [] = refl
total-select g t (x ∷ xs) =
    let r = total-select g t xs in
    on_test (t x)
    (λ e.
    ap (λ (l : List ℕ). total (map g l)) (select_in t x xs e) ∙
    (ap (λ (m : ℕ). g x + m) r ∙ sym (ap (λ (b : Bool). pick b (g x) 0 + total (map (λ y. pick (t y) (g y) 0) xs)) e)))
    (λ e.
    ap (λ (l : List ℕ). total (map g l)) (select-out t x xs e) ∙
    (r ∙ sym (ap (λ (b : Bool). pick b (g x) 0 + total (map (λ y. pick (t y) (g y) 0) xs)) e ∙ omega arith)))

-- a list in two parts, and a range longer by one
pub total-append : (l m : List ℕ) → total (l ++ m) ≡ total l + total m
total-append [] m = omega arith
total-append (x ∷ xs) m = let r = total-append xs m in omega arith

pub total-next : (f : ℕ → ℕ) (y l : ℕ) → total (map f (range y (suc l))) ≡ total (map f (range y l)) + f (y + l)
total-next f y l =
    ap (λ (r : List ℕ). total (map f r)) (range-next y l) ∙
    (ap total (map-append f (range y l) ((y + l) ∷ [])) ∙ (total-append (map f (range y l)) (f (y + l) ∷ []) ∙ omega arith))

-- as many as the sum of 1 for each
pub length-total : (l : List ℕ) → length l ≡ total (map (λ x. 1) l)
length-total [] = refl
length-total (x ∷ xs) = let r = length-total xs in omega arith

-- one entry replaced
total-set : (xs : List ℕ) (x k : ℕ) → x < length xs → total (set xs x k) + get_or xs x 0 ≡ total xs + k
total-set [] x k h = absurd (omega arith)
total-set (y ∷ ys) zero k h = omega arith
total-set (y ∷ ys) (suc x) k h = let r = total-set ys x k (omega arith) in omega arith

pub total_lowered : (xs : List ℕ) (x k : ℕ) → x < length xs → get_or xs x 0 ≡ suc k → suc (total (set xs x k)) ≡ total xs
total_lowered xs x k h e = let r = total-set xs x k h in omega arith

pub total-less : (xs : List ℕ) (x k : ℕ) → x < length xs → k < get_or xs x 0 → total (set xs x k) < total xs
total-less xs x k h l = let r = total-set xs x k h in omega arith

-- no entry is above d
pub total-bounded : (d : ℕ) (xs : List ℕ) → ((i : ℕ) → i < length xs → get_or xs i 0 ≤ d) → total xs ≤ d * length xs
total-bounded d [] h = omega arith
total-bounded d (x ∷ xs) h =
    let r = total-bounded d xs (λ i b. h (suc i) (omega arith)) in
    let q : x ≤ d = h 0 (omega arith) in
    let e = mul-suc d (length xs) in
    omega arith

pub total-most : (f : ℕ → ℕ) (d y l : ℕ) → ((x : ℕ) → x < y + l → f x ≤ d) → total (map f (range y l)) ≤ d * l
total-most f d y l h =
    let n = length-map (range y l) f ∙ length-range y l in
    subst (λ (m : ℕ). total (map f (range y l)) ≤ d * m) n
    (total-bounded d (map f (range y l))
    (λ i b. let e = get_or-map-range f 0 y l i (omega arith) in let q = h (y + i) (omega arith) in omega arith))

-- no member is above the largest
pub highest-least : (l : List ℕ) (i : ℕ) → get_or l i 0 ≤ highest l
highest-least [] i = omega arith
highest-least (x ∷ xs) zero =
    on-pick (λ (v : ℕ). x ≤ v) (leb (highest xs) x) (λ e. omega arith) (λ e. let g = leb-false (highest xs) x e in omega arith)
highest-least (x ∷ xs) (suc i) =
    let r = highest-least xs i in
    on-pick (λ (v : ℕ). get_or xs i 0 ≤ v) (leb (highest xs) x) (λ e. let g = leb-true (highest xs) x e in omega arith) (λ e. r)

-- the largest member under a bound
pub highest-most : (d : ℕ) (l : List ℕ) → ((i : ℕ) → get_or l i 0 ≤ d) → highest l ≤ d
highest-most d [] f = omega arith
highest-most d (x ∷ xs) f =
    on-pick (λ (v : ℕ). v ≤ d) (leb (highest xs) x) (λ e. f 0) (λ e. highest-most d xs (λ i. f (suc i)))

-- the largest of one member more
pub highest-next :
    (l : List ℕ) (i most r : ℕ) → 1 ≤ i → i ≤ length l → most ≡ highest (drop i l) →
    r ≡ pick (leb most (get_or l (i - 1) 0)) (get_or l (i - 1) 0) most → r ≡ highest (drop (i - 1) l)
highest-next l i most r some h e q =
    let up : suc (i - 1) ≡ i = omega arith in
    let v = get_or l (i - 1) 0 in
    let b : i - 1 < length l = omega arith in
    q ∙
    (ap (λ (m : ℕ). pick (leb m v) v m) (e ∙ ap (λ (k : ℕ). highest (drop k l)) (sym up)) ∙
    sym (ap highest (drop-cons l (i - 1) 0 b)))

-- the least member is at most each, and a member
pub lowest-least : {y : ℕ} (d : ℕ) (l : List ℕ) → Memᴰ y l → lowest d l ≤ y
lowest-least d [] m = absurd (Memᴰ.not-nil m)
lowest-least {y} d (x ∷ xs) m =
    ⊎_elim
    (λ q.
    on-pick (λ (v : ℕ). v ≤ y) (leb x (lowest x xs))
    (λ e. omega arith)
    (λ e. let g = leb-false x (lowest x xs) e in omega arith))
    (λ i.
    let r = lowest-least x xs i in
    on-pick (λ (v : ℕ). v ≤ y) (leb x (lowest x xs))
    (λ e. let g = leb-true x (lowest x xs) e in omega arith)
    (λ e. r))
    (Memᴰ.cases_cons m)

lowest-in : (d x : ℕ) (xs : List ℕ) → Memᴰ (lowest d (x ∷ xs)) (x ∷ xs)
lowest-in d x [] = on-pick (λ (v : ℕ). Memᴰ v (x ∷ [])) (leb x x) (λ e. Memᴰ.head refl) (λ e. Memᴰ.head refl)
lowest-in d x (y ∷ ys) =
    on-pick (λ (v : ℕ). Memᴰ v (x ∷ (y ∷ ys))) (leb x (lowest x (y ∷ ys)))
    (λ e. Memᴰ.head refl)
    (λ e. Memᴰ.tail (lowest-in x y ys))

-- a member that is at most each is the least
pub lowest-is : {v : ℕ} (d : ℕ) (l : List ℕ) → Memᴰ v l → ((u : ℕ) → Memᴰ u l → v ≤ u) → lowest d l ≡ v
lowest-is d [] m f = absurd (Memᴰ.not-nil m)
lowest-is {v} d (x ∷ xs) m f =
    let a = lowest-least d (x ∷ xs) m in
    let b = f (lowest d (x ∷ xs)) (lowest-in d x xs) in
    omega arith

-- what holds of every member, and for none of d, holds of the least
pub on-lowest : (Q : ℕ → Type 0) (d : ℕ) (l : List ℕ) → Q d → ((u : ℕ) → Memᴰ u l → Q u) → Q (lowest d l)
on-lowest Q d [] h f = h
on-lowest Q d (x ∷ xs) h f = f (lowest d (x ∷ xs)) (lowest-in d x xs)

-- the sum of g over the first m places with the number c
unfoldable pub sum_at : (ℕ → ℕ) → List ℕ → ℕ → ℕ → ℕ
sum_at g numbers c m = total (map (λ x. pick (eqb (get_or numbers x 0) c) (g x) 0) (range 0 m))

module _ (g : ℕ → ℕ) (numbers : List ℕ) (c : ℕ) where
  pub sum-none : sum_at g numbers c 0 ≡ 0
  unfolding sum_at
  sum-none = refl

  pub sum-next : (m : ℕ) → sum_at g numbers c (suc m) ≡ sum_at g numbers c m + pick (eqb (get_or numbers m 0) c) (g m) 0
  unfolding sum_at
  sum-next m =
      let term : ℕ → ℕ = λ x. pick (eqb (get_or numbers x 0) c) (g x) 0 in
      let z : 0 + m ≡ m = omega arith in
      total-next term 0 m ∙ ap (λ (x : ℕ). total (map term (range 0 m)) + term x) z

  pub sum-most : (d m : ℕ) → ((x : ℕ) → x < m → g x ≤ d) → sum_at g numbers c m ≤ d * m
  unfolding sum_at
  sum-most d m h =
      total-most (λ x. pick (eqb (get_or numbers x 0) c) (g x) 0) d 0 m
      (λ x b.
      on-pick (λ (v : ℕ). v ≤ d) (eqb (get_or numbers x 0) c) (λ e. h x (omega arith)) (λ e. omega arith))
