-- Indices of lists: a number for each member, one member that passes a test, no more members than numbers.
use mathlib.Core.Path.{◌≡◌, refl, sym, ap, subst, ◌∙◌}
use mathlib.Core.Bool.{Bool, true}
use mathlib.Core.Logic.{◌⊎◌, inl, inr, by_cases}
use mathlib.Core.List.{List, [], ◌∷◌, map, Memᴰ}
use Prim.Native.Nat.{ℕ, zero, suc, ◌≤◌, ◌<◌}
use native.Mathlib.Decide.{ℕ_discrete, dec_lt}
use native.Mathlib.Omega.{arith}
use lib.ListN.{length, get_or, get_or-eq_default}
use Rattle.lists.specs.Lists.{tally}
use Rattle.lists.proofs.Tests.{on_test, test-false}
use Rattle.lists.proofs.Lists.{tally-in, tally-out, tally-none}
use Rattle.lists.proofs.Rising.{Rising, none, more, rising-from}

-- what holds of all numbers below x, and of x
pub below_suc : (x : ℕ) (P : ℕ → Type 0) → ((y : ℕ) → y < x → P y) → P x → (y : ℕ) → y < suc x → P y
below_suc x P f g y h = by_cases (ℕ_discrete y x) (λ e. subst P (sym e) g) (λ d. f y (omega arith))

-- what holds of k, and of h if h is greater
pub from_next : (P : ℕ → Type 0) (k h : ℕ) → k ≤ h → P k → (suc k ≤ h → P h) → P h
from_next P k h a e f = by_cases (ℕ_discrete k h) (λ i. subst P i e) (λ d. f (omega arith))

-- what holds of the default, and of the entries below the length
pub every-entry :
    {A : Type 0} (d : A) (l : List A) (P : ℕ → A → Type 0) → ((i : ℕ) → P i d) → ((i : ℕ) → i < length l → P i (get_or l i d)) →
    (i : ℕ) → P i (get_or l i d)
every-entry d l P e f i =
    by_cases (dec_lt i (length l)) (f i) (λ h. subst (P i) (sym (get_or-eq_default l d {n = i} (omega arith))) (e i))

pub mem_index : {A : Type 0} (d : A) {x : A} {l : List A} → Memᴰ x l → (i : ℕ) × (i < length l) × (get_or l i d ≡ x)
mem_index d (Memᴰ.head e) = (0, omega arith, sym e)
mem_index d (Memᴰ.tail m) = let (i, b, e) = mem_index d m in (suc i, omega arith, e)

pub index-mem : {A : Type 0} (d : A) (l : List A) (i : ℕ) → i < length l → Memᴰ (get_or l i d) l
index-mem d [] i h = absurd (omega arith)
index-mem d (x ∷ xs) zero h = Memᴰ.head refl
index-mem d (x ∷ xs) (suc i) h = Memᴰ.tail (index-mem d xs i (omega arith))

-- exactly one index passes the test
pub one_index :
    {A : Type 0} (t : A → Bool) (d : A) (l : List A) (i : ℕ) → i < length l → t (get_or l i d) ≡ true →
    ((j : ℕ) → j < length l → t (get_or l j d) ≡ true → j ≡ i) → tally t l ≡ 1
one_index t d [] i h e f = absurd (omega arith)
one_index t d (x ∷ xs) zero h e f =
    tally-in t x xs e ∙
    ap suc
    (tally-none t xs
    (λ y m.
    let (j, b, q) = mem_index d m in
    test-false (t y)
    (λ g. let w = f (suc j) (omega arith) (subst (λ z. t z ≡ true) (sym q) g) in omega arith)))
one_index t d (x ∷ xs) (suc i) h e f =
    tally-out t x xs (test-false (t x) (λ g. let w = f 0 (omega arith) g in omega arith)) ∙
    one_index t d xs i (omega arith) e (λ j b g. let w = f (suc j) (omega arith) g in omega arith)

-- a test that one member passes has an index that passes
pub index-one : {A : Type 0} (t : A → Bool) (d : A) (l : List A) → tally t l ≡ 1 → (i : ℕ) × (i < length l) × (t (get_or l i d) ≡ true)
index-one t d [] h = absurd (omega arith)
index-one t d (x ∷ xs) h =
    on_test (t x)
    (λ e. (0, omega arith, e))
    (λ e. let (i, b, g) = index-one t d xs (sym (tally-out t x xs e) ∙ h) in (suc i, omega arith, g))

pub map_same : {A B : Type 0} (f g : A → B) (l : List A) → ((x : A) → Memᴰ x l → f x ≡ g x) → map f l ≡ map g l
map_same f g [] h = refl
map_same {A} {B} f g (x ∷ xs) h =
    ap (λ (y : B). y ∷ map f xs) (h x (Memᴰ.head refl)) ∙
    ap (λ (l : List B). g x ∷ l) (map_same f g xs (λ y m. h y (Memᴰ.tail m)))

-- m things, each with a number below n that no other has: m is at most n
pub pigeonhole :
    (n m : ℕ) (R : ℕ → ℕ → Type 0) →
    ((i : ℕ) → i < m → (z : ℕ) × (z < n) × R i z) →
    ((i j z : ℕ) → i < m → j < m → R i z → R j z → i ≡ j) →
    m ≤ n
pigeonhole n zero R f u = omega arith
pigeonhole zero (suc m) R f u = absurd (let (z, b, r) = f 0 (omega arith) in omega arith)
pigeonhole (suc n) (suc m) R f u = let r = pigeonhole n m moved found single in omega arith
  where
    last_found : (z : ℕ) × (z < suc n) × R m z
    last_found = f m (omega arith)

    last : ℕ
    last = last_found.0

    last-is : R m last
    last-is = last_found.2

    -- who had the number n takes the one that the last thing leaves
    moved : ℕ → ℕ → Type 0
    moved i z = R i z ⊎ (R i n × (z ≡ last))

    found : (i : ℕ) → i < m → (z : ℕ) × (z < n) × moved i z
    found i h =
        let (z, b, r) = f i (omega arith) in
        by_cases (ℕ_discrete z n)
        (λ e.
        let rn = subst (R i) e r in
        let c = last_found.1 in
        let d : ¬ (last ≡ n) =
        λ q. let w = u i m n (omega arith) (omega arith) rn (subst (R m) q last-is) in omega arith
        in
        (last, omega arith, inr (rn, refl)))
        (λ d. (z, omega arith, inl r))

    single : (i j z : ℕ) → i < m → j < m → moved i z → moved j z → i ≡ j
    single i j z a b (inl r) (inl s) = u i j z (omega arith) (omega arith) r s
    single i j z a b (inl r) (inr s) =
        absurd (let w = u i m last (omega arith) (omega arith) (subst (R i) s.1 r) last-is in omega arith)
    single i j z a b (inr r) (inl s) =
        absurd (let w = u j m last (omega arith) (omega arith) (subst (R j) r.1 s) last-is in omega arith)
    single i j z a b (inr r) (inr s) = u i j n (omega arith) (omega arith) r.0 s.0

-- the entries of a rising list rise
pub rising-at : {a : ℕ} {l : List ℕ} → Rising a l → (i j : ℕ) → i < j → j < length l → get_or l i 0 < get_or l j 0
rising-at none i j h b = absurd (omega arith)
rising-at (more {x = x} {xs} g r) zero zero h b = absurd (omega arith)
rising-at (more {x = x} {xs} g r) zero (suc j) h b =
    let q = rising-from r (index-mem 0 xs j (omega arith)) in omega arith
rising-at (more {x = x} {xs} g r) (suc i) zero h b = absurd (omega arith)
rising-at (more {x = x} {xs} g r) (suc i) (suc j) h b = rising-at r i j (omega arith) (omega arith)
