-- What the loops over a winner tree keep: it is filled, built, replayed after a leaf has changed, and neighbours become candidates.
use mathlib.Core.Path.{◌≡◌, refl, sym, ap, subst, ◌∙◌}
use mathlib.Core.Logic.{◌⊎◌, inl, inr, ◌≢◌, by_cases}
use mathlib.Core.List.{List}
use Prim.Native.Nat.{ℕ, suc, ◌+◌, ◌-◌, ◌*◌, ◌/◌, ◌≤◌, ◌<◌}
use native.Mathlib.Decide.{ℕ_discrete}
use native.Mathlib.Omega.{arith}
use lib.ListN.{length, get_or, set, length-set}
use lib.Seq.{get_or-set_same, get_or-set_other}
use Rattle.watershed_laws.proofs.WinnerTree.{Better, Candidate, better-candidate, Winner, Played, same, moved, winner-set, winner-leaf, winner-right}

-- a winner tree of n places in 2 n cells, over n pixels
pub record WinnerReady (n : ℕ) (g t : List ℕ) : Type 0 where
  pub winner : Winner n g t 1 0
  pub few : n ≤ 1600
  pub pixels : length g ≡ n
  pub cells : length t ≡ 2 * n

-- after replays of the tree before the cell i is next; the leaves are as they were
pub record Replaying (n : ℕ) (g before t : List ℕ) (i : ℕ) : Type 0 where
  pub size : length t ≡ 2 * n
  pub within : i < n
  pub winner : Winner n g t 1 i
  pub leaves : (x : ℕ) → x < n → get_or t (n + x) 0 ≡ get_or before (n + x) 0

-- the leaf of x holds c, the others are as they were, and the tree is in order
pub record Assigned (n : ℕ) (g before : List ℕ) (x c : ℕ) (t : List ℕ) : Type 0 where
  pub size : length t ≡ 2 * n
  pub winner : Winner n g t 1 0
  pub own : get_or t (n + x) 0 ≡ c
  pub other : (z : ℕ) → z < n → z ≢ x → get_or t (n + z) 0 ≡ get_or before (n + z) 0

-- the leaves of the first i places are set
pub record Filling (n : ℕ) (t : List ℕ) (i : ℕ) : Type 0 where
  pub size : length t ≡ 2 * n
  pub set_below : (x : ℕ) → x < i → get_or t (n + x) 0 ≡ x

-- every leaf is set, and the tree is in order from the cell i on
pub record Building (n : ℕ) (g t : List ℕ) (i : ℕ) : Type 0 where
  pub size : length t ≡ 2 * n
  pub winner : Winner n g t i 0
  pub full : (x : ℕ) → x < n → get_or t (n + x) 0 ≡ x

-- candidates stay so, and the place y is one if its value is above s and at most k
pub record MadeCandidate (n : ℕ) (g before : List ℕ) (s k y : ℕ) (t : List ℕ) : Type 0 where
  pub size : length t ≡ 2 * n
  pub winner : Winner n g t 1 0
  pub stay : (z : ℕ) → z < n → get_or before (n + z) 0 ≡ z → get_or t (n + z) 0 ≡ z
  pub made : s < get_or g y 0 → get_or g y 0 ≤ k → get_or t (n + y) 0 ≡ y

-- the same for the first i of the listed places ys
pub record MakingCandidates (n : ℕ) (g before : List ℕ) (s k : ℕ) (ys t : List ℕ) (i : ℕ) : Type 0 where
  pub size : length t ≡ 2 * n
  pub winner : Winner n g t 1 0
  pub stay : (z : ℕ) → z < n → get_or before (n + z) 0 ≡ z → get_or t (n + z) 0 ≡ z
  pub made :
      (j : ℕ) → j < i → s < get_or g (get_or ys j 0) 0 → get_or g (get_or ys j 0) 0 ≤ k →
      get_or t (n + get_or ys j 0) 0 ≡ get_or ys j 0

pub fill-turn : (n : ℕ) (t : List ℕ) (i : ℕ) → Filling n t i → i < n → Filling n (set t (n + i) i) (i + 1)
fill-turn n t i p h =
    let s = p.size in
    record {
      size = length-set t (n + i) i ∙ s;
      set_below =
          λ x l.
          by_cases (ℕ_discrete x i)
          (λ q.
          subst (λ (m : ℕ). get_or (set t (n + i) i) (n + m) 0 ≡ m) (sym q) (get_or-set_same t (n + i) i 0 (omega arith)))
          (λ q.
          get_or-set_other t (n + i) (n + x) i 0 (λ u. q (omega arith)) ∙ p.set_below x (omega arith));
    }

-- the next cell is a smaller one
pub played-less : (g t : List ℕ) (j : ℕ) (after : List ℕ) (r : ℕ) → 1 ≤ j → Played g t j after r → r < j
played-less g t j after r h (same b e f) = omega arith
played-less g t j after r h (moved c b e f) = omega arith

module _ (n : ℕ) (g : List ℕ) where
  pub replay-turn :
      (before t : List ℕ) (i : ℕ) (after : List ℕ) (r : ℕ) →
      Replaying n g before t i → 1 ≤ i → Played g t i after r → Replaying n g before after r
  replay-turn before t i after r p some (same b e f) =
      let h = p.within in
      subst (λ (l : List ℕ). Replaying n g before l r) (sym e)
      (subst (Replaying n g before t) (sym f)
      (record { size = p.size; within = omega arith; winner = winner-right n g t i b p.winner; leaves = p.leaves }))
  replay-turn before t i after r p some (moved c b e f) =
      let h = p.within in
      subst (λ (l : List ℕ). Replaying n g before l r) (sym e)
      (subst (Replaying n g before (set t i c)) (sym f)
      (record {
        size = length-set t i c ∙ p.size;
        within = omega arith;
        winner = winner-set n g t 1 i 1 i c p.size some h some (λ j a d. (a, d)) b p.winner;
        leaves = λ x l. get_or-set_other t i (n + x) c 0 (λ q. omega arith) ∙ p.leaves x l;
      }))

  pub replay-start :
      (t : List ℕ) (x c : ℕ) → length t ≡ 2 * n → x < n → (c ≡ x) ⊎ (c ≡ 65535) → Winner n g t 1 0 →
      Replaying n g (set t (n + x) c) (set t (n + x) c) ((n + x) / 2)
  replay-start t x c size inside is w =
      record {
        size = length-set t (n + x) c ∙ size;
        within = omega arith;
        winner = winner-leaf n g t x c size inside is w;
        leaves = λ z h. refl;
      }

  pub replay-end :
      (t : List ℕ) (x c : ℕ) (after : List ℕ) → length t ≡ 2 * n → x < n →
      Replaying n g (set t (n + x) c) after 0 → Assigned n g t x c after
  replay-end t x c after size inside p =
      record {
        size = p.size;
        winner = p.winner;
        own = p.leaves x inside ∙ get_or-set_same t (n + x) c 0 (omega arith);
        other = λ z h d. p.leaves z h ∙ get_or-set_other t (n + x) (n + z) c 0 (λ q. d (omega arith));
      }

  pub build-start : (t : List ℕ) → Filling n t n → Building n g t n
  build-start t p =
      record {
        size = p.size;
        full = p.set_below;
        winner =
            record {
              leaf = λ x h. inl (p.set_below x h);
              cell =
                  λ i h l.
                  let x = i - n in
                  let at : n + x ≡ i = omega arith in
                  let e = ap (λ (m : ℕ). get_or t m 0) (sym at) ∙ p.set_below x (omega arith) in
                  record { either = inr (omega arith) };
              node = λ i h l d. absurd (omega arith);
            };
      }

  build-down :
      (t : List ℕ) (i : ℕ) (after : List ℕ) (r : ℕ) →
      Building n g t (suc i) → 1 ≤ i → i < n → Played g t i after r → Building n g after i
  build-down t i after r p some h (same b e f) =
      let w = p.winner in
      subst (λ (l : List ℕ). Building n g l i) (sym e)
      (record {
        size = p.size;
        full = p.full;
        winner =
            record {
              leaf = w.leaf;
              cell =
                  λ j a l.
                  by_cases (ℕ_discrete j i)
                  (λ q.
                  subst (λ (m : ℕ). Candidate n (get_or t m 0)) (sym q)
                  (better-candidate g n b (w.cell (2 * i) (omega arith) (omega arith)) (w.cell (2 * i + 1) (omega arith) (omega arith))))
                  (λ q. w.cell j (omega arith) l);
              node =
                  λ j a l d.
                  by_cases (ℕ_discrete j i)
                  (λ q. subst (λ (m : ℕ). Better g (get_or t (2 * m) 0) (get_or t (2 * m + 1) 0) (get_or t m 0)) (sym q) b)
                  (λ q. w.node j (omega arith) l d);
            };
      })
  build-down t i after r p some h (moved c b e f) =
      let w =
      winner-set n g t (suc i) 0 i i c p.size some h (omega arith)
      (λ j a d. let k : suc i ≤ j = omega arith in (k, λ q. omega arith))
      b p.winner
      in
      subst (λ (l : List ℕ). Building n g l i) (sym e)
      (record {
        size = length-set t i c ∙ p.size;
        full = λ x l. get_or-set_other t i (n + x) c 0 (λ q. omega arith) ∙ p.full x l;
        winner = record { leaf = w.leaf; cell = w.cell; node = λ j a l d. w.node j a l (λ q. omega arith) };
      })

  pub build-turn :
      (t : List ℕ) (k : ℕ) (after : List ℕ) (r : ℕ) →
      Building n g t k → 1 < k → k ≤ n → Played g t (k - 1) after r → Building n g after (k - 1)
  build-turn t k after r p some h q =
      let e : k ≡ suc (k - 1) = omega arith in
      build-down t (k - 1) after r (subst (Building n g t) e p) (omega arith) (omega arith) q

  module _ (before : List ℕ) (s k y : ℕ) where
    pub candidate-made : (t : List ℕ) → Assigned n g before y y t → MadeCandidate n g before s k y t
    candidate-made t a =
        record {
          size = a.size;
          winner = a.winner;
          stay =
              λ z h q.
              by_cases (ℕ_discrete z y)
              (λ e. subst (λ (m : ℕ). get_or t (n + m) 0 ≡ m) (sym e) a.own)
              (λ d. a.other z h d ∙ q);
          made = λ p q. a.own;
        }

  module _ (before : List ℕ) (s k : ℕ) (ys : List ℕ) where
    pub making-turn :
        (t : List ℕ) (i : ℕ) (after : List ℕ) → get_or ys i 0 < n →
        ((j : ℕ) → j < i → get_or ys j 0 < n) →
        MakingCandidates n g before s k ys t i → MadeCandidate n g t s k (get_or ys i 0) after → MakingCandidates n g before s k ys after (i + 1)
    making-turn t i after inside places p q =
        record {
          size = q.size;
          winner = q.winner;
          stay = λ z h e. q.stay z h (p.stay z h e);
          made =
              λ j h a b.
              by_cases (ℕ_discrete j i)
              (λ e.
              subst
              (λ (m : ℕ). s < get_or g (get_or ys m 0) 0 → get_or g (get_or ys m 0) 0 ≤ k → get_or after (n + get_or ys m 0) 0 ≡ get_or ys m 0)
              (sym e) q.made a b)
              (λ d.
              let l : j < i = omega arith in
              q.stay (get_or ys j 0) (places j l) (p.made j l a b));
        }
