-- The winner tree over the candidates: the cell n + x is the leaf of the place x, a cell i below n the better of the cells 2 i and 2 i + 1.
use mathlib.Core.Path.{◌≡◌, refl, sym, ap, subst, ◌∙◌}
use mathlib.Core.Logic.{◌⊎◌, inl, inr, ⊎_elim, ◌≢◌, by_cases}
use mathlib.Core.Bool.{Bool, true, not, ◌&&◌}
use mathlib.Core.List.{List, Memᴰ}
use Prim.Native.Nat.{ℕ, zero, suc, ◌+◌, ◌-◌, ◌*◌, ◌/◌, ◌≤◌, ◌<◌}
use native.Mathlib.Decide.{ℕ_discrete, dec_lt}
use native.Mathlib.Omega.{arith}
use lib.Dec.{eqb}
use lib.ListN.{length, get_or, set}
use lib.Seq.{get_or-set_same, get_or-set_other}
use borrow.Author.Tests.{eq-eqb, ne_eqb, not-true}
use Rattle.lists.specs.Lists.{tally, range}
use Rattle.lists.proofs.Tests.{and_left, and_right, not_of_false, clash}
use Rattle.lists.proofs.Lists.{tally-length, tally-same, tally-stronger, tally-equal, length-range, range-mem, mem-range}

-- the candidate a is before b in the order of lowering by the values g, or is b; 65535, no candidate, is the last
pub data Beats (g : List ℕ) (a b : ℕ) : Type 0 where
  last : b ≡ 65535 → Beats g a b
  less : a ≢ 65535 → get_or g a 0 < get_or g b 0 → Beats g a b
  ties : a ≢ 65535 → get_or g a 0 ≡ get_or g b 0 → a ≤ b → Beats g a b

-- r is the better of the candidates a and b
pub record Better (g : List ℕ) (a b r : ℕ) : Type 0 where
  pub either : (r ≡ a) ⊎ (r ≡ b)
  pub left : Beats g r a
  pub right : Beats g r b

-- c is a place or 65535
pub record Candidate (n c : ℕ) : Type 0 where
  pub either : (c ≡ 65535) ⊎ (c < n)

-- t is a winner tree from the cell from on, but perhaps for the cell hole
pub record Winner (n : ℕ) (g t : List ℕ) (from hole : ℕ) : Type 0 where
  pub leaf : (x : ℕ) → x < n → (get_or t (n + x) 0 ≡ x) ⊎ (get_or t (n + x) 0 ≡ 65535)
  pub cell : (i : ℕ) → from ≤ i → i < 2 * n → Candidate n (get_or t i 0)
  pub node : (i : ℕ) → from ≤ i → i < n → i ≢ hole → Better g (get_or t (2 * i) 0) (get_or t (2 * i + 1) 0) (get_or t i 0)

module _ (g : List ℕ) where
  pub beats-refl : (a : ℕ) → Beats g a a
  beats-refl a = by_cases (ℕ_discrete a 65535) (λ e. last e) (λ d. ties d refl (omega arith))

  pub beats-trans : {a b c : ℕ} → Beats g a b → Beats g b c → Beats g a c
  beats-trans p (last e) = last e
  beats-trans (last e) (less n h) = absurd (n e)
  beats-trans (less m i) (less n h) = less m (omega arith)
  beats-trans (ties m i k) (less n h) = less m (omega arith)
  beats-trans (last e) (ties n h l) = absurd (n e)
  beats-trans (less m i) (ties n h l) = less m (omega arith)
  beats-trans (ties m i k) (ties n h l) = ties m (omega arith) (omega arith)

  -- a value with the place behind it orders the candidates
  pub beats-key :
      (a b : ℕ) → a ≢ 65535 → a < 65536 → b < 65536 → get_or g a 0 * 65536 + a ≤ get_or g b 0 * 65536 + b → Beats g a b
  beats-key a b n ha hb h =
      by_cases (dec_lt (get_or g a 0) (get_or g b 0)) (λ l. less n l) (λ l. ties n (omega arith) (omega arith))

  -- the ways in which the better of two is found
  pub better-left : (a b : ℕ) → Beats g a b → Better g a b a
  better-left a b h = record { either = inl refl; left = beats-refl a; right = h }

  pub better-right : (a b : ℕ) → Beats g b a → Better g a b b
  better-right a b h = record { either = inr refl; left = h; right = beats-refl b }

  pub better-candidate : (n : ℕ) {a b r : ℕ} → Better g a b r → Candidate n a → Candidate n b → Candidate n r
  better-candidate n h p q = ⊎_elim (λ e. subst (Candidate n) (sym e) p) (λ e. subst (Candidate n) (sym e) q) h.either

-- a cell is played again: it holds the better of the two below it already, or is set to it
pub data Played (g t : List ℕ) (j : ℕ) (after : List ℕ) (r : ℕ) : Type 0 where
  same : Better g (get_or t (2 * j) 0) (get_or t (2 * j + 1) 0) (get_or t j 0) → after ≡ t → r ≡ 0 → Played g t j after r
  moved : (c : ℕ) → Better g (get_or t (2 * j) 0) (get_or t (2 * j + 1) 0) c → after ≡ set t j c → r ≡ j / 2 → Played g t j after r

-- a store at an inner cell leaves the other equations, but for that of the cell above
module _ (n : ℕ) (g t : List ℕ) (from hole start j c : ℕ) where
  pub winner-set :
      length t ≡ 2 * n → 1 ≤ j → j < n → start ≤ j →
      ((i : ℕ) → start ≤ i → i ≢ j → (from ≤ i) × (i ≢ hole)) →
      Better g (get_or t (2 * j) 0) (get_or t (2 * j + 1) 0) c →
      Winner n g t from hole → Winner n g (set t j c) start (j / 2)
  winner-set size some inside low apart b w =
      record {
        leaf =
            λ x h.
            let e = other (n + x) (λ q. omega arith) in
            ⊎_elim (λ q. inl (e ∙ q)) (λ q. inr (e ∙ q)) (w.leaf x h);
        cell =
            λ i h l.
            by_cases (ℕ_discrete i j)
            (λ q. subst (λ (m : ℕ). Candidate n (get_or (set t j c) m 0)) (sym q) (subst (Candidate n) (sym stored) c-candidate))
            (λ q. subst (Candidate n) (sym (other i q)) (w.cell i (apart i h q).0 l));
        node =
            λ i h l d.
            by_cases (ℕ_discrete i j)
            (λ q. subst (λ (m : ℕ). Better g (get_or (set t j c) (2 * m) 0) (get_or (set t j c) (2 * m + 1) 0) (get_or (set t j c) m 0)) (sym q) stored-node)
            (λ q.
            let e = other i q in
            let e₁ = other (2 * i) (λ u. d (omega arith)) in
            let e₂ = other (2 * i + 1) (λ u. d (omega arith)) in
            rw (e, e₁, e₂) (w.node i (apart i h q).0 l (apart i h q).1));
      }
    where
      other : (i : ℕ) → i ≢ j → get_or (set t j c) i 0 ≡ get_or t i 0
      other i d = get_or-set_other t j i c 0 d

      stored : get_or (set t j c) j 0 ≡ c
      stored = get_or-set_same t j c 0 (omega arith)

      c-candidate : Candidate n c
      c-candidate =
          let d₁ : 2 * j ≢ j = λ q. omega arith in
          let d₂ : 2 * j + 1 ≢ j = λ q. omega arith in
          better-candidate g n b
          (w.cell (2 * j) (apart (2 * j) (omega arith) d₁).0 (omega arith))
          (w.cell (2 * j + 1) (apart (2 * j + 1) (omega arith) d₂).0 (omega arith))

      stored-node : Better g (get_or (set t j c) (2 * j) 0) (get_or (set t j c) (2 * j + 1) 0) (get_or (set t j c) j 0)
      stored-node =
          let e₁ = other (2 * j) (λ q. omega arith) in
          let e₂ = other (2 * j + 1) (λ q. omega arith) in
          rw (stored, e₁, e₂) b

module _ (n : ℕ) (g t : List ℕ) where
  -- a store at a leaf leaves the other equations, but for that of the cell above
  pub winner-leaf :
      (x c : ℕ) → length t ≡ 2 * n → x < n → (c ≡ x) ⊎ (c ≡ 65535) → Winner n g t 1 0 →
      Winner n g (set t (n + x) c) 1 ((n + x) / 2)
  winner-leaf x c size inside is w =
      record {
        leaf =
            λ z h.
            by_cases (ℕ_discrete z x)
            (λ q.
            let e : get_or (set t (n + x) c) (n + z) 0 ≡ c = ap (λ (m : ℕ). get_or (set t (n + x) c) (n + m) 0) q ∙ stored in
            ⊎_elim (λ u. inl (e ∙ (u ∙ sym q))) (λ u. inr (e ∙ u)) is)
            (λ q.
            let e = other (n + z) (λ u. q (omega arith)) in
            ⊎_elim (λ u. inl (e ∙ u)) (λ u. inr (e ∙ u)) (w.leaf z h));
        cell =
            λ i h l.
            by_cases (ℕ_discrete i (n + x))
            (λ q.
            let e : get_or (set t (n + x) c) i 0 ≡ c = ap (λ (m : ℕ). get_or (set t (n + x) c) m 0) q ∙ stored in
            record { either = ⊎_elim (λ u. inr (omega arith)) (λ u. inl (e ∙ u)) is })
            (λ q. subst (Candidate n) (sym (other i q)) (w.cell i h l));
        node =
            λ i h l d.
            let e = other i (λ u. omega arith) in
            let e₁ = other (2 * i) (λ u. d (omega arith)) in
            let e₂ = other (2 * i + 1) (λ u. d (omega arith)) in
            rw (e, e₁, e₂) (w.node i h l (λ q. omega arith));
      }
    where
      other : (i : ℕ) → i ≢ n + x → get_or (set t (n + x) c) i 0 ≡ get_or t i 0
      other i d = get_or-set_other t (n + x) i c 0 d

      stored : get_or (set t (n + x) c) (n + x) 0 ≡ c
      stored = get_or-set_same t (n + x) c 0 (omega arith)

  -- the cell that may be wrong is right
  pub winner-right :
      (j : ℕ) → Better g (get_or t (2 * j) 0) (get_or t (2 * j + 1) 0) (get_or t j 0) →
      Winner n g t 1 j → Winner n g t 1 0
  winner-right j b w =
      record {
        leaf = w.leaf;
        cell = w.cell;
        node =
            λ i h l d.
            by_cases (ℕ_discrete i j)
            (λ q. subst (λ (m : ℕ). Better g (get_or t (2 * m) 0) (get_or t (2 * m + 1) 0) (get_or t m 0)) (sym q) b)
            (λ q. w.node i h l q);
      }

  module _ (w : Winner n g t 1 0) where
    -- the winner beats every cell
    beats-by : (l i : ℕ) → i ≤ l → 1 ≤ i → i < 2 * n → Beats g (get_or t 1 0) (get_or t i 0)
    beats-by zero i h a b = absurd (omega arith)
    beats-by (suc l) i h a b =
        by_cases (ℕ_discrete i 1)
        (λ q. subst (λ (m : ℕ). Beats g (get_or t 1 0) (get_or t m 0)) (sym q) (beats-refl g (get_or t 1 0)))
        (λ q. beats-trans g (beats-by l (i / 2) (omega arith) (omega arith) (omega arith)) (above (omega arith) (omega arith)))
      where
        above : 1 ≤ i / 2 → i / 2 < n → Beats g (get_or t (i / 2) 0) (get_or t i 0)
        above p r =
            let v = w.node (i / 2) p r (λ u. omega arith) in
            by_cases (ℕ_discrete (2 * (i / 2)) i)
            (λ e. subst (λ (m : ℕ). Beats g (get_or t (i / 2) 0) (get_or t m 0)) e v.left)
            (λ e.
            let e₂ : 2 * (i / 2) + 1 ≡ i = omega arith in
            subst (λ (m : ℕ). Beats g (get_or t (i / 2) 0) (get_or t m 0)) e₂ v.right)

    pub winner-beats : (x : ℕ) → x < n → Beats g (get_or t 1 0) (get_or t (n + x) 0)
    winner-beats x h = beats-by (n + x) (n + x) (omega arith) (omega arith) (omega arith)

    -- a candidate in any cell is a place whose leaf is set
    leaf-by : (l i c : ℕ) → 2 * n ≤ i + l → 1 ≤ i → i < 2 * n → get_or t i 0 ≡ c → c ≢ 65535 → (c < n) × (get_or t (n + c) 0 ≡ c)
    leaf-by zero i c h a b e d = absurd (omega arith)
    leaf-by (suc l) i c h a b e d =
        by_cases (dec_lt i n)
        (λ q.
        ⊎_elim
        (λ u. leaf-by l (2 * i) c (omega arith) (omega arith) (omega arith) (sym u ∙ e) d)
        (λ u. leaf-by l (2 * i + 1) c (omega arith) (omega arith) (omega arith) (sym u ∙ e) d)
        (w.node i a q (λ u. omega arith)).either)
        (λ q.
        let x = i - n in
        let at : n + x ≡ i = omega arith in
        let f : get_or t (n + x) 0 ≡ c = ap (λ (m : ℕ). get_or t m 0) at ∙ e in
        ⊎_elim
        (λ u. let k : x ≡ c = sym u ∙ f in (omega arith, subst (λ (m : ℕ). get_or t (n + m) 0 ≡ m) k u))
        (λ u. absurd (d (sym f ∙ u)))
        (w.leaf x (omega arith)))

    pub winner-place : 1 ≤ n → get_or t 1 0 ≢ 65535 → (get_or t 1 0 < n) × (get_or t (n + get_or t 1 0) 0 ≡ get_or t 1 0)
    winner-place s d = leaf-by (2 * n) 1 (get_or t 1 0) (omega arith) (omega arith) (omega arith) refl d

    -- the value of a place that is no candidate may change
    pub winner-fallen : (x s : ℕ) → x < n → n ≤ 65535 → get_or t (n + x) 0 ≡ 65535 → Winner n (set g x s) t 1 0
    winner-fallen x s inside most out =
        record {
          leaf = w.leaf;
          cell = w.cell;
          node =
              λ i h l d.
              let b = w.node i h l d in
              let p = absent i h (omega arith) in
              let q = absent (2 * i) (omega arith) (omega arith) in
              let r = absent (2 * i + 1) (omega arith) (omega arith) in
              record { either = b.either; left = carry p q b.left; right = carry p r b.right };
        }
      where
        absent : (i : ℕ) → 1 ≤ i → i < 2 * n → get_or t i 0 ≢ x
        absent i a b e =
            let (m, f) = leaf-by (2 * n) i x (omega arith) a b e (λ q. omega arith) in
            omega arith

        carry : {a b : ℕ} → a ≢ x → b ≢ x → Beats g a b → Beats (set g x s) a b
        carry p q (last e) = last e
        carry {a} {b} p q (less d h) =
            let e₁ = get_or-set_other g x a s 0 p in
            let e₂ = get_or-set_other g x b s 0 q in
            less d (omega arith)
        carry {a} {b} p q (ties d h l) =
            let e₁ = get_or-set_other g x a s 0 p in
            let e₂ = get_or-set_other g x b s 0 q in
            ties d (omega arith) l

-- the leaf of the place x is set
abbrev is_set : ℕ → List ℕ → ℕ → Bool
is_set n t x = not (eqb (get_or t (n + x) 0) 65535)

-- how many leaves are set
abbrev pub candidates : ℕ → List ℕ → ℕ
candidates n t = tally (is_set n t) (range 0 n)

pub candidates-most : (n : ℕ) (t : List ℕ) → candidates n t ≤ n
candidates-most n t = omega (arith, tally-length (is_set n t) (range 0 n), length-range 0 n)

-- without one of the places that pass a test fewer pass
tally-less : (t : ℕ → Bool) (l : List ℕ) (y : ℕ) → Memᴰ y l → t y ≡ true → tally (λ z. not (eqb z y) && t z) l < tally t l
tally-less t l y m e =
    by_cases (ℕ_discrete (tally s l) (tally t l))
    (λ q. absurd (clash (eq-eqb y y refl) (not-true (eqb y y) (and_left (not (eqb y y)) (t y) (tally-equal s t l weaker q m e)))))
    (λ q. omega (arith, tally-stronger s t l weaker))
  where
    s : ℕ → Bool
    s z = not (eqb z y) && t z

    weaker : (z : ℕ) → s z ≡ true → t z ≡ true
    weaker z = and_right (not (eqb z y)) (t z)

module _ (n : ℕ) (t u : List ℕ) (x : ℕ) (inside : x < n) (set_before : get_or t (n + x) 0 ≢ 65535) (unset : get_or u (n + x) 0 ≡ 65535) (other : (z : ℕ) → z < n → z ≢ x → get_or u (n + z) 0 ≡ get_or t (n + z) 0) where
  -- a leaf that is unset is a candidate less
  pub candidates-fewer : candidates n u < candidates n t
  candidates-fewer =
      rw (tally-same (is_set n u) (λ z. not (eqb z x) && is_set n t z) (range 0 n) agree)
      (tally-less (is_set n t) (range 0 n) x (mem-range 0 n (omega arith) (omega arith)) (not_of_false _ (ne_eqb _ _ set_before)))
    where
      agree : (z : ℕ) → Memᴰ z (range 0 n) → is_set n u z ≡ (not (eqb z x) && is_set n t z)
      agree z m =
          by_cases (ℕ_discrete z x)
          (λ q. rw (eq-eqb z x q, eq-eqb (get_or u (n + z) 0) 65535 (ap (λ (i : ℕ). get_or u (n + i) 0) q ∙ unset)))
          (λ q. rw (ne_eqb z x q, other z (omega (arith, (range-mem 0 n m).1)) q))
