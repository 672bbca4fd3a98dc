-- Rising lists of numbers, what a range selects, and exactly one number of a range.
use mathlib.Core.Path.{◌≡◌, refl, sym, ap, ap₂, subst, ◌∙◌}
use mathlib.Core.Bool.{Bool, true, false, ◌||◌, false≢true}
use mathlib.Core.Logic.{◌⊎◌, inl, inr, ⊎_elim}
use mathlib.Core.List.Memᴰ
use mathlib.Core.List.{List, [], ◌∷◌, Memᴰ, map}
use Prim.Native.Nat.{ℕ, zero, suc, ◌+◌, ◌≤◌, ◌<◌}
use native.Mathlib.Omega.{arith}
use lib.Dec.{eqb}
use borrow.Author.Tests.{eqb-true, eqb-false}
use Rattle.lists.specs.Lists.{tally, select, range, is_in, head_of}
use Rattle.lists.proofs.Tests.{on_test, same_test, clash, test-false}
use Rattle.lists.proofs.Lists.{select_in, select-out, tally-in, tally-out, tally-none, none-tally, select-mem, mem-select, in_mem, mem-in, range-mem, mem-range}

-- strictly rising, from a on
pub data Rising : ℕ → List ℕ → Type 0 where
  none : {a : ℕ} → Rising a []
  more : {a x : ℕ} {xs : List ℕ} → a ≤ x → Rising (suc x) xs → Rising a (x ∷ xs)

pub rising-weaken : {a b : ℕ} {l : List ℕ} → b ≤ a → Rising a l → Rising b l
rising-weaken h none = none
rising-weaken {b = b} h (more {x = x} g r) = let q : b ≤ x = omega arith in more q r

pub rising-from : {a y : ℕ} {l : List ℕ} → Rising a l → Memᴰ y l → a ≤ y
rising-from none m = absurd (Memᴰ.not-nil m)
rising-from {a} {y} (more {x = x} {xs} g r) m = step (λ k. rising-from r k) (Memᴰ.cases_cons m)
  where
    step : (Memᴰ y xs → suc x ≤ y) → (y ≡ x) ⊎ Memᴰ y xs → a ≤ y
    step k (inl e) = omega arith
    step k (inr n) = let q = k n in omega arith

pub rising-select : (t : ℕ → Bool) (x l : ℕ) → Rising x (select t (range x l))
rising-select t x zero = none
rising-select t x (suc l) =
    let r = rising-select t (suc x) l in
    on_test (t x)
    (λ e. subst (λ (m : List ℕ). Rising x m) (sym (select_in t x (range (suc x) l) e)) (more (omega arith) r))
    (λ e. subst (λ (m : List ℕ). Rising x m) (sym (select-out t x (range (suc x) l) e)) (rising-weaken (omega arith) r))

-- two rising lists with the same members are equal
pub rising-equal : {a b : ℕ} {c d : List ℕ} → Rising a c → Rising b d → ((y : ℕ) → is_in y c ≡ is_in y d) → c ≡ d
rising-equal none none h = refl
rising-equal none (more {x = y} {xs = ys} g s) h =
    absurd (false≢true (h y ∙ mem-in y (y ∷ ys) (Memᴰ.head refl)))
rising-equal (more {x = x} {xs} g r) none h =
    absurd (false≢true (sym (h x) ∙ mem-in x (x ∷ xs) (Memᴰ.head refl)))
rising-equal (more {x = x} {xs} g r) (more {x = y} {xs = ys} i s) h =
    let e : x ≡ y = heads in
    ap₂ (λ (z : ℕ) (l : List ℕ). z ∷ l) e (rising-equal r s tails)
  where
    first : (z : ℕ) (l : List ℕ) {w : ℕ} {m : List ℕ} → Rising (suc w) m → is_in z (z ∷ l) ≡ is_in z (w ∷ m) → w ≤ z
    first z l {w} {m} q k =
        ⊎_elim
        (λ e. omega arith)
        (λ n. let f = rising-from q n in omega arith)
        (Memᴰ.cases_cons (in_mem z (w ∷ m) (sym k ∙ mem-in z (z ∷ l) (Memᴰ.head refl))))

    heads : x ≡ y
    heads = let p = first x xs s (h x) in let q = first y ys r (sym (h y)) in omega arith

    absent : (z : ℕ) {w : ℕ} {m : List ℕ} → Rising (suc w) m → z ≡ w → is_in z m ≡ false
    absent z {w} {m} q e = test-false (is_in z m) (λ k. let f = rising-from q (in_mem z m k) in omega arith)

    tails : (z : ℕ) → is_in z xs ≡ is_in z ys
    tails z =
        on_test (eqb z x)
        (λ e. absent z r (eqb-true z x e) ∙ sym (absent z s (eqb-true z x e ∙ heads)))
        (λ e.
        let n : eqb z y ≡ false = ap (eqb z) (sym heads) ∙ e in
        sym (ap (λ (b : Bool). b || is_in z xs) e) ∙ (h z ∙ ap (λ (b : Bool). b || is_in z ys) n))

-- the members of what a range selects, and a rising list with these members
module _ (t : ℕ → Bool) (n : ℕ) where
  pub select-below : {y : ℕ} → Memᴰ y (select t (range 0 n)) → (y < n) × (t y ≡ true)
  select-below m = let (i, e) = select-mem t (range 0 n) m in let b = range-mem 0 n i in (omega arith, e)

  pub below-select : {y : ℕ} → y < n → t y ≡ true → Memᴰ y (select t (range 0 n))
  below-select b e = mem-select t (range 0 n) (mem-range 0 n (omega arith) (omega arith)) e

  pub rising-is-select :
      {a : ℕ} {c : List ℕ} → Rising a c → ((y : ℕ) → Memᴰ y c → (y < n) × (t y ≡ true)) →
      ((y : ℕ) → y < n → t y ≡ true → Memᴰ y c) → c ≡ select t (range 0 n)
  rising-is-select {c = c} r f g =
      rising-equal r (rising-select t 0 n)
      (λ y.
      same_test (is_in y c) (is_in y (select t (range 0 n)))
      (λ h. let (b, e) = f y (in_mem y c h) in mem-in y (select t (range 0 n)) (below-select b e))
      (λ h. let (b, e) = select-below (in_mem y (select t (range 0 n)) h) in mem-in y c (g y b e)))

-- the first member of a rising list is a member and the least
pub head_in : {a y : ℕ} {l : List ℕ} → Rising a l → Memᴰ y l → Memᴰ (head_of l) l × (head_of l ≤ y)
head_in none m = absurd (Memᴰ.not-nil m)
head_in (more {x = x} {xs} g r) m = (
  Memᴰ.head refl,
  ⊎_elim (λ e. omega arith) (λ n. let f = rising-from r n in omega arith) (Memᴰ.cases_cons m),
)

-- exactly one of the l numbers from x on passes the test
pub record One (x l : ℕ) (t : ℕ → Bool) : Type 0 where
  pub at : ℕ
  pub from : x ≤ at
  pub to : at < x + l
  pub passes : t at ≡ true
  pub only : (y : ℕ) → x ≤ y → y < x + l → t y ≡ true → y ≡ at

pub one-tally : (x l : ℕ) (t : ℕ → Bool) → One x l t → tally t (range x l) ≡ 1
one-tally x zero t o = absurd (let p = o.from in let q = o.to in omega arith)
one-tally x (suc l) t o =
    on_test (eqb x o.at)
    (λ e.
    let q = eqb-true x o.at e in
    tally-in t x (range (suc x) l) (subst (λ (z : ℕ). t z ≡ true) (sym q) o.passes) ∙
    ap suc
    (tally-none t (range (suc x) l)
    (λ y m.
    let b = range-mem (suc x) l m in
    test-false (t y) (λ p. let f = o.only y (omega arith) (omega arith) p in omega arith))))
    (λ e.
    let d = eqb-false x o.at e in
    let p = o.from in
    let q = o.to in
    tally-out t x (range (suc x) l) (test-false (t x) (λ p. d (o.only x (omega arith) (omega arith) p))) ∙
    one-tally (suc x) l t
    (record {
      at = o.at;
      from = omega arith;
      to = omega arith;
      passes = o.passes;
      only = λ y a b c. o.only y (omega arith) (omega arith) c;
    }))

pub tally-one : (x l : ℕ) (t : ℕ → Bool) → tally t (range x l) ≡ 1 → One x l t
tally-one x zero t h = absurd (omega arith)
tally-one x (suc l) t h =
    on_test (t x)
    (λ e.
    let z : tally t (range (suc x) l) ≡ 0 = let q = tally-in t x (range (suc x) l) e in omega arith in
    record {
      at = x;
      from = omega arith;
      to = omega arith;
      passes = e;
      only =
          λ y a b p.
          on_test (eqb y x)
          (λ f. eqb-true y x f)
          (λ f.
          let d = eqb-false y x f in
          absurd (none-tally t (range (suc x) l) z (mem-range (suc x) l (omega arith) (omega arith)) p));
    })
    (λ e.
    let o = tally-one (suc x) l t (sym (tally-out t x (range (suc x) l) e) ∙ h) in
    let p = o.from in
    let q = o.to in
    record {
      at = o.at;
      from = omega arith;
      to = omega arith;
      passes = o.passes;
      only =
          λ y a b p.
          on_test (eqb y x)
          (λ f. absurd (clash (subst (λ (z : ℕ). t z ≡ true) (eqb-true y x f) p) e))
          (λ f. let d = eqb-false y x f in o.only y (omega arith) (omega arith) p);
    })

-- the values of a rising function on a range
pub rising-map :
    (f : ℕ → ℕ) (a c l : ℕ) → ((i : ℕ) → c ≤ i → i < c + l → a ≤ f i) → ((i j : ℕ) → c ≤ i → i < j → j < c + l → f i < f j) →
    Rising a (map f (range c l))
rising-map f a c zero g h = none
rising-map f a c (suc l) g h =
    more (g c (omega arith) (omega arith))
    (rising-map f (suc (f c)) (suc c) l
    (λ i b e. let q = h c i (omega arith) (omega arith) (omega arith) in omega arith)
    (λ i j b e q. h i j (omega arith) e (omega arith)))
