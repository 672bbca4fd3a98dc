-- Laws of the list functions that the definitions share: membership, selection, tallies, ranges, stores.
use mathlib.Core.Path.{◌≡◌, refl, sym, ap, ap₂, subst, ◌∙◌}
use mathlib.Core.Bool.{Bool, true, false, ◌&&◌, ◌||◌, or_assoc, false≢true}
use mathlib.Core.Logic.{◌⊎◌, inl, inr, ⊎_elim, ◌≢◌, by_cases}
use mathlib.Core.List.Memᴰ
use mathlib.Core.List.{List, [], ◌∷◌, ◌++◌, map, Memᴰ, flat_map, append-nil, append_assoc}
use Prim.Native.Nat.{ℕ, zero, suc, ◌+◌, ◌≤◌, ◌<◌}
use native.Mathlib.Nat.{zero-add, add-zero}
use native.Mathlib.Decide.{ℕ_discrete}
use native.Mathlib.Omega.{arith}
use lib.Dec.{eqb}
use lib.ListN.{length, get_or, set, length-map}
use lib.Seq.{get_or-set_same, get_or-set_other, set-set, set-get_or, ext_get_or}
use borrow.Author.Tests.{eqb-true, eqb-false, eq-eqb, ne_eqb}
use Rattle.lists.specs.Lists.{pick, any, all, tally, select, range, is_in}
use Rattle.lists.proofs.Tests.{and_left, and_right, and_both, or_left, or_right, or_cases, on_test, clash}

module _ {A : Type 0} (t : A → Bool) where
  pub any-mem : (l : List A) → any t l ≡ true → (x : A) × Memᴰ x l × (t x ≡ true)
  any-mem [] h = absurd (false≢true h)
  any-mem (x ∷ xs) h = step (λ r. any-mem xs r) (or_cases (t x) (any t xs) h)
    where
      step : (any t xs ≡ true → (y : A) × Memᴰ y xs × (t y ≡ true)) → (t x ≡ true) ⊎ (any t xs ≡ true) → (y : A) × Memᴰ y (x ∷ xs) × (t y ≡ true)
      step r (inl e) = (x, Memᴰ.head refl, e)
      step r (inr e) = let (y, m, f) = r e in (y, Memᴰ.tail m, f)

  pub mem-any : {x : A} {l : List A} → Memᴰ x l → t x ≡ true → any t l ≡ true
  mem-any (Memᴰ.head {x = y} {xs} e) h = or_left (any t xs) (subst (λ (z : A). t z ≡ true) e h)
  mem-any (Memᴰ.tail {x = y} {xs} m) h = or_right (t y) (mem-any m h)

  pub all-mem : {x : A} {l : List A} → all t l ≡ true → Memᴰ x l → t x ≡ true
  all-mem h (Memᴰ.head {x = y} {xs} e) = subst (λ (z : A). t z ≡ true) (sym e) (and_left (t y) (all t xs) h)
  all-mem h (Memᴰ.tail {x = y} {xs} m) = all-mem (and_right (t y) (all t xs) h) m

  pub mem-all : (l : List A) → ((x : A) → Memᴰ x l → t x ≡ true) → all t l ≡ true
  mem-all [] h = refl
  mem-all (x ∷ xs) h = and_both (h x (Memᴰ.head refl)) (mem-all xs (λ y m. h y (Memᴰ.tail m)))

  pub all-fails : (l : List A) → all t l ≡ false → (x : A) × Memᴰ x l × (t x ≡ false)
  all-fails [] h = absurd (clash refl h)
  all-fails (x ∷ xs) h =
      on_test (t x)
      (λ e.
      let (y, m, f) = all-fails xs (sym (ap (λ (b : Bool). b && all t xs) e) ∙ h) in
      (y, Memᴰ.tail m, f))
      (λ e. (x, Memᴰ.head refl, e))

  -- selection, an element at a time
  pub select_in : (x : A) (xs : List A) → t x ≡ true → select t (x ∷ xs) ≡ x ∷ select t xs
  select_in x xs e = ap (λ (b : Bool). pick b (x ∷ []) [] ++ select t xs) e

  pub select-out : (x : A) (xs : List A) → t x ≡ false → select t (x ∷ xs) ≡ select t xs
  select-out x xs e = ap (λ (b : Bool). pick b (x ∷ []) [] ++ select t xs) e

  pub tally-in : (x : A) (xs : List A) → t x ≡ true → tally t (x ∷ xs) ≡ suc (tally t xs)
  tally-in x xs e = ap (λ (b : Bool). pick b 1 0 + tally t xs) e ∙ omega arith

  pub tally-out : (x : A) (xs : List A) → t x ≡ false → tally t (x ∷ xs) ≡ tally t xs
  tally-out x xs e = ap (λ (b : Bool). pick b 1 0 + tally t xs) e ∙ omega arith

  pub select-none : (l : List A) → ((x : A) → Memᴰ x l → t x ≡ false) → select t l ≡ []
  select-none [] f = refl
  select-none (x ∷ xs) f = select-out x xs (f x (Memᴰ.head refl)) ∙ select-none xs (λ y m. f y (Memᴰ.tail m))

  pub select-mem : {x : A} (l : List A) → Memᴰ x (select t l) → Memᴰ x l × (t x ≡ true)
  select-mem [] m = absurd (Memᴰ.not-nil m)
  select-mem {x} (y ∷ ys) m = step (λ r. select-mem ys r)
    where
      step : (Memᴰ x (select t ys) → Memᴰ x ys × (t x ≡ true)) → Memᴰ x (y ∷ ys) × (t x ≡ true)
      step r =
          on_test (t y)
          (λ e.
          ⊎_elim
          (λ f. (Memᴰ.head f, subst (λ (z : A). t z ≡ true) (sym f) e))
          (λ k. (Memᴰ.tail (r k).0, (r k).1))
          (Memᴰ.cases_cons (subst (λ (l : List A). Memᴰ x l) (select_in y ys e) m)))
          (λ e. let k = subst (λ (l : List A). Memᴰ x l) (select-out y ys e) m in (Memᴰ.tail (r k).0, (r k).1))

  pub mem-select : {x : A} (l : List A) → Memᴰ x l → t x ≡ true → Memᴰ x (select t l)
  mem-select [] m h = absurd (Memᴰ.not-nil m)
  mem-select {x} (y ∷ ys) m h = step (λ r. mem-select ys r h) (Memᴰ.cases_cons m)
    where
      step : (Memᴰ x ys → Memᴰ x (select t ys)) → (x ≡ y) ⊎ Memᴰ x ys → Memᴰ x (select t (y ∷ ys))
      step r (inl e) =
          subst (λ (l : List A). Memᴰ x l) (sym (select_in y ys (subst (λ (z : A). t z ≡ true) e h))) (Memᴰ.head e)
      step r (inr k) =
          on_test (t y)
          (λ e. subst (λ (l : List A). Memᴰ x l) (sym (select_in y ys e)) (Memᴰ.tail (r k)))
          (λ e. subst (λ (l : List A). Memᴰ x l) (sym (select-out y ys e)) (r k))

  pub length-select : (l : List A) → length (select t l) ≡ tally t l
  length-select [] = refl
  length-select (x ∷ xs) =
      let r = length-select xs in
      on_test (t x)
      (λ e. ap length (select_in x xs e) ∙ (ap suc r ∙ sym (tally-in x xs e)))
      (λ e. ap length (select-out x xs e) ∙ (r ∙ sym (tally-out x xs e)))

  pub tally-length : (l : List A) → tally t l ≤ length l
  tally-length [] = omega arith
  tally-length (x ∷ xs) =
      let r = tally-length xs in on_test (t x) (λ e. omega (arith, tally-in x xs e)) (λ e. omega (arith, tally-out x xs e))

  -- a tally of none
  pub tally-none : (l : List A) → ((x : A) → Memᴰ x l → t x ≡ false) → tally t l ≡ 0
  tally-none [] h = refl
  tally-none (x ∷ xs) h = tally-out x xs (h x (Memᴰ.head refl)) ∙ tally-none xs (λ y m. h y (Memᴰ.tail m))

  pub none-tally : {x : A} (l : List A) → tally t l ≡ 0 → Memᴰ x l → t x ≡ true → ⊥
  none-tally [] h m e = Memᴰ.not-nil m
  none-tally {x} (y ∷ ys) h m e = step (λ k r. none-tally ys k r e) (Memᴰ.cases_cons m)
    where
      step : (tally t ys ≡ 0 → Memᴰ x ys → ⊥) → (x ≡ y) ⊎ Memᴰ x ys → ⊥
      step r (inl f) = let g = tally-in y ys (subst (λ (z : A). t z ≡ true) f e) in omega arith
      step r (inr k) =
          on_test (t y) (λ g. let q = tally-in y ys g in omega arith) (λ g. r (sym (tally-out y ys g) ∙ h) k)

module _ {A : Type 0} (s t : A → Bool) where
  -- tests that agree on the members
  pub tally-same : (l : List A) → ((x : A) → Memᴰ x l → s x ≡ t x) → tally s l ≡ tally t l
  tally-same [] h = refl
  tally-same (x ∷ xs) h =
      let r = tally-same xs (λ y m. h y (Memᴰ.tail m)) in
      let e = h x (Memᴰ.head refl) in
      ap (λ (b : Bool). pick b 1 0 + tally s xs) e ∙ ap (λ (m : ℕ). pick (t x) 1 0 + m) r

  -- a test that is stronger on the members passes no more often
  pub tally-fewer : (l : List A) → ((x : A) → Memᴰ x l → s x ≡ true → t x ≡ true) → tally s l ≤ tally t l
  tally-fewer [] h = omega arith
  tally-fewer (x ∷ xs) h =
      let r = tally-fewer xs (λ y m. h y (Memᴰ.tail m)) in
      on_test (s x)
      (λ e. let p = tally-in s x xs e in let q = tally-in t x xs (h x (Memᴰ.head refl) e) in omega arith)
      (λ e.
      let p = tally-out s x xs e in
      on_test (t x) (λ g. let q = tally-in t x xs g in omega arith) (λ g. let q = tally-out t x xs g in omega arith))

  -- a stronger test passes no more often, and if as often then alike
  pub tally-stronger : (l : List A) → ((x : A) → s x ≡ true → t x ≡ true) → tally s l ≤ tally t l
  tally-stronger l h = tally-fewer l (λ x m. h x)

  pub tally-equal : (l : List A) → ((x : A) → s x ≡ true → t x ≡ true) → tally s l ≡ tally t l → {x : A} → Memᴰ x l → t x ≡ true → s x ≡ true
  tally-equal [] h e m p = absurd (Memᴰ.not-nil m)
  tally-equal (y ∷ ys) h e {x} m p = step (λ q r. tally-equal ys h q r p) (Memᴰ.cases_cons m)
    where
      less : tally s ys ≤ tally t ys
      less = tally-stronger ys h

      step : (tally s ys ≡ tally t ys → Memᴰ x ys → s x ≡ true) → (x ≡ y) ⊎ Memᴰ x ys → s x ≡ true
      step r (inl f) =
          on_test (s y)
          (λ g. subst (λ (z : A). s z ≡ true) (sym f) g)
          (λ g.
          let a = tally-out s y ys g in
          let b = tally-in t y ys (subst (λ (z : A). t z ≡ true) f p) in
          absurd (omega (arith, less)))
      step r (inr k) =
          on_test (s y)
          (λ g. let a = tally-in s y ys g in let b = tally-in t y ys (h y g) in r (omega arith) k)
          (λ g.
          let a = tally-out s y ys g in
          on_test (t y)
          (λ i. let b = tally-in t y ys i in absurd (omega (arith, less)))
          (λ i. let b = tally-out t y ys i in r (omega arith) k))

pub tally-map : {A B : Type 0} (t : B → Bool) (f : A → B) (l : List A) → tally t (map f l) ≡ tally (λ x. t (f x)) l
tally-map t f [] = refl
tally-map t f (x ∷ xs) = ap (λ (m : ℕ). pick (t (f x)) 1 0 + m) (tally-map t f xs)

pub select-map : {A B : Type 0} (t : B → Bool) (f : A → B) (l : List A) → select t (map f l) ≡ map f (select (λ x. t (f x)) l)
select-map t f [] = refl
select-map {A} {B} t f (x ∷ xs) =
    let r = select-map t f xs in
    on_test (t (f x))
    (λ e. select_in t (f x) (map f xs) e ∙ (ap (λ (l : List B). f x ∷ l) r ∙ sym (ap (map f) (select_in (λ y. t (f y)) x xs e))))
    (λ e. select-out t (f x) (map f xs) e ∙ (r ∙ sym (ap (map f) (select-out (λ y. t (f y)) x xs e))))

pub select-select : {A : Type 0} (s t : A → Bool) (l : List A) → select t (select s l) ≡ select (λ x. s x && t x) l
select-select s t [] = refl
select-select {A} s t (x ∷ xs) =
    let r = select-select s t xs in
    on_test (s x)
    (λ e.
    ap (select t) (select_in s x xs e) ∙
    (ap (λ (l : List A). pick (t x) (x ∷ []) [] ++ l) r ∙
    sym (ap (λ (b : Bool). pick (b && t x) (x ∷ []) [] ++ select (λ y. s y && t y) xs) e)))
    (λ e.
    ap (select t) (select-out s x xs e) ∙
    (r ∙ sym (select-out (λ y. s y && t y) x xs (ap (λ (b : Bool). b && t x) e))))

pub tally-select : {A : Type 0} (s t : A → Bool) (l : List A) → tally t (select s l) ≡ tally (λ x. s x && t x) l
tally-select s t l = sym (length-select t (select s l)) ∙ (ap length (select-select s t l) ∙ length-select (λ x. s x && t x) l)

-- membership of numbers
pub in_mem : (x : ℕ) (l : List ℕ) → is_in x l ≡ true → Memᴰ x l
in_mem x l h = let (y, m, e) = any-mem (eqb x) l h in subst (λ (z : ℕ). Memᴰ z l) (sym (eqb-true x y e)) m

pub mem-in : (x : ℕ) (l : List ℕ) → Memᴰ x l → is_in x l ≡ true
mem-in x l m = mem-any (eqb x) m (eq-eqb x x refl)

-- ranges
pub length-range : (x l : ℕ) → length (range x l) ≡ l
length-range x zero = refl
length-range x (suc l) = ap suc (length-range (suc x) l)

-- a range in two parts, and longer by one
pub range-append : (x l m : ℕ) → range x (l + m) ≡ range x l ++ range (x + l) m
range-append x zero m = rw (zero-add, add-zero)
range-append x (suc l) m =
    let a : suc l + m ≡ suc (l + m) = omega arith in
    let b : suc x + l ≡ x + suc l = omega arith in
    ap (range x) a ∙ ap (λ (r : List ℕ). x ∷ r) (range-append (suc x) l m ∙ ap (λ (y : ℕ). range (suc x) l ++ range y m) b)

pub range-next : (x l : ℕ) → range x (suc l) ≡ range x l ++ ((x + l) ∷ [])
range-next x l = let e : suc l ≡ l + 1 = omega arith in ap (range x) e ∙ range-append x l 1

pub range-mem : {y : ℕ} (x l : ℕ) → Memᴰ y (range x l) → (x ≤ y) × (y < x + l)
range-mem x zero m = absurd (Memᴰ.not-nil m)
range-mem {y} x (suc l) m = step (λ r. range-mem (suc x) l r) (Memᴰ.cases_cons m)
  where
    step : (Memᴰ y (range (suc x) l) → (suc x ≤ y) × (y < suc x + l)) → (y ≡ x) ⊎ Memᴰ y (range (suc x) l) → (x ≤ y) × (y < x + suc l)
    step r (inl e) = omega arith
    step r (inr k) = let q = r k in omega arith

pub mem-range : {y : ℕ} (x l : ℕ) → x ≤ y → y < x + l → Memᴰ y (range x l)
mem-range x zero a b = absurd (omega arith)
mem-range {y} x (suc l) a b =
    on_test (eqb y x)
    (λ e. Memᴰ.head (eqb-true y x e))
    (λ e. let d = eqb-false y x e in Memᴰ.tail (mem-range (suc x) l (omega arith) (omega arith)))

-- the elements of a range, and of a mapped one
pub get_or-range : (x l i : ℕ) → i < l → get_or (range x l) i 0 ≡ x + i
get_or-range x zero i h = absurd (omega arith)
get_or-range x (suc l) zero h = omega arith
get_or-range x (suc l) (suc i) h = get_or-range (suc x) l i (omega arith) ∙ omega arith

pub get_or-map-range : {A : Type 0} (f : ℕ → A) (d : A) (x l i : ℕ) → i < l → get_or (map f (range x l)) i d ≡ f (x + i)
get_or-map-range f d x zero i h = absurd (omega arith)
get_or-map-range f d x (suc l) zero h = let e : x ≡ x + 0 = omega arith in ap f e
get_or-map-range f d x (suc l) (suc i) h =
    let e : suc x + i ≡ x + suc i = omega arith in get_or-map-range f d (suc x) l i (omega arith) ∙ ap f e

-- an entry after a store: the value stored, or the entry from before
pub set_cases : (l : List ℕ) (x v y : ℕ) → x < length l → ((y ≡ x) × (get_or (set l x v) y 0 ≡ v)) ⊎ ((y ≢ x) × (get_or (set l x v) y 0 ≡ get_or l y 0))
set_cases l x v y h =
    by_cases (ℕ_discrete y x)
    (λ e. inl (e, ap (λ (z : ℕ). get_or (set l x v) z 0) e ∙ get_or-set_same l x v 0 h))
    (λ e. inr (e, get_or-set_other l x y v 0 e))

-- a store undone
pub set_back : (l : List ℕ) (x c v : ℕ) → get_or l x 0 ≡ v → set (set l x c) x v ≡ l
set_back l x c v e = set-set l x c v ∙ (ap (set l x) (sym e) ∙ set-get_or l x 0)

-- another value in the place of an a: there is one a less
pub tally-set : (a : ℕ) (l : List ℕ) (y v : ℕ) → y < length l → get_or l y 0 ≡ a → v ≢ a → suc (tally (eqb a) (set l y v)) ≡ tally (eqb a) l
tally-set a [] y v h e d = absurd (omega arith)
tally-set a (x ∷ xs) zero v h e d =
    let p = tally-in (eqb a) x xs (eq-eqb a x (sym e)) in
    let q = tally-out (eqb a) v xs (ne_eqb a v (λ f. d (sym f))) in
    omega arith
tally-set a (x ∷ xs) (suc y) v h e d =
    let r = tally-set a xs y v (omega arith) e d in
    on_test (eqb a x)
    (λ f. let p = tally-in (eqb a) x xs f in let q = tally-in (eqb a) x (set xs y v) f in omega arith)
    (λ f. let p = tally-out (eqb a) x xs f in let q = tally-out (eqb a) x (set xs y v) f in omega arith)

-- an entry of a mapped list
pub get_d_map : {A B : Type 0} (f : A → B) (d : A) (e : B) (l : List A) (i : ℕ) → i < length l → get_or (map f l) i e ≡ f (get_or l i d)
get_d_map f d e [] i h = absurd (omega arith)
get_d_map f d e (x ∷ xs) zero h = refl
get_d_map f d e (x ∷ xs) (suc i) h = get_d_map f d e xs i (omega arith)

-- a list by its indices
pub by_index : {A : Type 0} (d : A) (l : List A) → map (λ i. get_or l i d) (range 0 (length l)) ≡ l
by_index d l =
    let n = length-map (range 0 (length l)) (λ i. get_or l i d) ∙ length-range 0 (length l) in
    ext_get_or d (map (λ i. get_or l i d) (range 0 (length l))) l n
    (λ i h.
    get_or-map-range (λ i. get_or l i d) d 0 (length l) i (omega arith) ∙ ap (λ (j : ℕ). get_or l j d) {y = i} (omega arith))

pub any_append : {A : Type 0} (t : A → Bool) (l m : List A) → any t (l ++ m) ≡ (any t l || any t m)
any_append t [] m = refl
any_append t (x ∷ xs) m = ap (λ (b : Bool). t x || b) (any_append t xs m) ∙ sym (or_assoc (t x) (any t xs) (any t m))

pub tally-append : {A : Type 0} (t : A → Bool) (l m : List A) → tally t (l ++ m) ≡ tally t l + tally t m
tally-append t [] m = omega arith
tally-append t (x ∷ xs) m = let r = tally-append t xs m in omega arith

pub select-append : {A : Type 0} (t : A → Bool) (l m : List A) → select t (l ++ m) ≡ select t l ++ select t m
select-append t [] m = refl
select-append {A} t (x ∷ xs) m =
    ap (λ (r : List A). pick (t x) (x ∷ []) [] ++ r) (select-append t xs m) ∙ sym (append_assoc (pick (t x) (x ∷ []) []) (select t xs) (select t m))

-- a test that every member of two lists passes, every member of both together passes
all_append : {A : Type 0} (t : A → Bool) (l m : List A) → all t l ≡ true → all t m ≡ true → all t (l ++ m) ≡ true
all_append t [] m h k = k
all_append t (x ∷ xs) m h k = and_both (and_left (t x) _ h) (all_append t xs m (and_right (t x) _ h) k)

pub all_snoc : {A : Type 0} (t : A → Bool) (s : List A) (b : A) → all t s ≡ true → t b ≡ true → all t (s ++ b ∷ []) ≡ true
all_snoc t s b h e = all_append t s (b ∷ []) h (and_both e refl)

-- the same of the images of a list
pub all-flat_map :
    {A B : Type 0} (t : B → Bool) (f : A → List B) (l : List A) → ((x : A) → Memᴰ x l → all t (f x) ≡ true) →
    all t (flat_map f l) ≡ true
unfolding flat_map
all-flat_map t f [] h = refl
all-flat_map t f (x ∷ xs) h =
    all_append t (f x) (flat_map f xs) (h x (Memᴰ.head refl)) (all-flat_map t f xs (λ y m. h y (Memᴰ.tail m)))

-- the images of a list by functions that agree on it, and of a mapped list, behind one another
pub flat_map-same :
    {A B : Type 0} (f g : A → List B) (l : List A) → ((x : A) → Memᴰ x l → f x ≡ g x) → flat_map f l ≡ flat_map g l
unfolding flat_map
flat_map-same f g [] h = refl
flat_map-same {B = B} f g (x ∷ xs) h =
    ap₂ (λ (a b : List B). a ++ b) (h x (Memᴰ.head refl)) (flat_map-same f g xs (λ y m. h y (Memᴰ.tail m)))

pub flat_map-map :
    {A B C : Type 0} (f : B → List C) (g : A → B) (l : List A) → flat_map f (map g l) ≡ flat_map (λ x. f (g x)) l
unfolding flat_map
flat_map-map f g [] = refl
flat_map-map {C = C} f g (x ∷ xs) = ap (λ (b : List C). f (g x) ++ b) (flat_map-map f g xs)

-- the images of a list, and of a range longer by one, behind one another
flat_map-append : {A B : Type 0} (f : A → List B) (l m : List A) → flat_map f (l ++ m) ≡ flat_map f l ++ flat_map f m
unfolding flat_map
flat_map-append f [] m = refl
flat_map-append {B = B} f (x ∷ xs) m = ap (λ (r : List B). f x ++ r) (flat_map-append f xs m) ∙ sym (append_assoc (f x) (flat_map f xs) (flat_map f m))

pub flat_map-next : {A : Type 0} (f : ℕ → List A) (x l : ℕ) → flat_map f (range x (suc l)) ≡ flat_map f (range x l) ++ f (x + l)
unfolding flat_map
flat_map-next {A} f x l =
    ap (flat_map f) (range-next x l) ∙
    (flat_map-append f (range x l) ((x + l) ∷ []) ∙ ap (λ (r : List A). flat_map f (range x l) ++ r) (append-nil (f (x + l))))
