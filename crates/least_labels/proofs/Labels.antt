-- The laws of the least labels: none handed up, one more, those that are final; and the same in cells.
use Rattle.std.proofs.Common.{◌≡◌, refl, sym, ap, subst, ◌∙◌, ◌⊎◌, inl, inr, ⊎_elim, ◌≢◌, List, ℕ, ◌+◌, ◌*◌, ◌≤◌, ◌<◌, min, arith, length, set, get_or-set_same, get_or-set_other}
use Rattle.std.proofs.Math.Logic.{by_cases}
use Rattle.std.proofs.Math.Decide.{ℕ_discrete, dec_lt}
use Rattle.lists.specs.Blocks.{block_entry, UntouchedOutside}
use Rattle.lists.proofs.Blocks.{untouched-refl, untouched-trans, untouched-set}
use Rattle.topology.proofs.Climb.{Up, stay, rise, up-trans}
use Rattle.least_labels.specs.LeastLabels.{FathersRise, Handed, top, lowered, stayed, LeastOf, Through, own, by, LeastThrough, HandedBefore, LeastLabel}

-- the least label of a set with the same nodes, and of two sets together
pub least-same :
    {S T : ℕ → Type 0} {label : ℕ → ℕ} {v w : ℕ} → ((j : ℕ) → S j → T j) → ((j : ℕ) → T j → S j) → w ≡ v → LeastOf S label v → LeastOf T label w
least-same there back e l =
    record {
      node = l.node;
      within = there l.node l.within;
      is = l.is ∙ sym e;
      least = λ j t. let b = l.least j (back j t) in omega arith;
    }

least-both :
    {S T : ℕ → Type 0} {label : ℕ → ℕ} {v w : ℕ} → LeastOf S label v → LeastOf T label w → LeastOf (λ j. S j ⊎ T j) label (min v w)
least-both {v = v} {w} l r =
    by_cases (dec_lt v w)
    (λ h.
    let e : v ≡ min v w = omega arith in
    record {
      node = l.node;
      within = inl l.within;
      is = l.is ∙ e;
      least = λ j s. ⊎_elim (λ i. let b = l.least j i in omega arith) (λ i. let b = r.least j i in omega arith) s;
    })
    (λ h.
    let e : w ≡ min v w = omega arith in
    record {
      node = r.node;
      within = inr r.within;
      is = r.is ∙ e;
      least = λ j s. ⊎_elim (λ i. let b = l.least j i in omega arith) (λ i. let b = r.least j i in omega arith) s;
    })

-- the last step of a way up
up-last : {P : ℕ → ℕ} {m a j : ℕ} → Up P m a j → (j ≡ a) ⊎ ((s : ℕ) × (s < m) × (P s < m) × (P s ≡ a) × Up P m s j)
up-last stay = inl refl
up-last (rise {a = i} h f u) =
    ⊎_elim
    (λ e. inr (i, h, f, e, stay))
    (λ w. let (s, b, c, e, v) = w in inr (s, b, c, e, rise h f v))
    (up-last u)

module _ {P : ℕ → ℕ} {m : ℕ} where
  through-up : (i : ℕ) {a j : ℕ} → a < m → Through P m i a j → Up P m a j
  through-up i {a} b (own e) = subst (λ (z : ℕ). Up P m a z) (sym e) stay
  through-up i {a} b (by s h c e u) = up-trans (subst (λ (z : ℕ). Up P m z s) e (rise c (omega arith) stay)) u

  -- nothing new below a node that is not the father of i
  earlier : {i a j : ℕ} → P i ≢ a → Through P m (i + 1) a j → Through P m i a j
  earlier d (own e) = own e
  earlier {i} d (by s b c e u) =
      by_cases (ℕ_discrete s i) (λ q. absurd (d (ap P (sym q) ∙ e))) (λ q. by s (omega arith) c e u)

  later : {i a j : ℕ} → Through P m i a j → Through P m (i + 1) a j
  later (own e) = own e
  later (by s b c e u) = by s (omega arith) c e u

  pub labels-start : {label labels : ℕ → ℕ} → ((a : ℕ) → a < m → labels a ≡ label a) → LeastThrough P m 0 label labels
  labels-start {label} {labels} e a h = record { node = a; within = own refl; is = sym (e a h); least = λ j t. least j t }
    where
      least : (j : ℕ) → Through P m 0 a j → labels a ≤ label j
      least j (own q) = let x = e a h in let y = ap label q in omega arith
      least j (by s b c q u) = absurd (omega arith)

-- fathers with greater numbers
module _ {P : ℕ → ℕ} {m : ℕ} (rises : (i : ℕ) → i < m → P i < m → i < P i) where
  -- once its sons have handed their labels up, a node's label is that of all below it
  up-through : {i a j : ℕ} → a ≤ i → Up P m a j → Through P m i a j
  up-through b u =
      ⊎_elim
      (λ e. own e)
      (λ w. let (s, c, f, e, v) = w in let r = rises s c f in by s (omega arith) c e v)
      (up-last u)

  pub labels-final : {i : ℕ} {label labels : ℕ → ℕ} → LeastThrough P m i label labels → (a : ℕ) → a < m → a ≤ i → LeastOf (Up P m a) label (labels a)
  labels-final {i} k a b h = least-same (λ j t. through-up i b t) (λ j t. up-through h t) refl (k a b)

  -- one label more handed up
  module _ {i : ℕ} {label labels after : ℕ → ℕ} (h : i < m) (k : LeastThrough P m i label labels) where
    pub labels-top : m ≤ P i → ((a : ℕ) → a < m → after a ≡ labels a) → LeastThrough P m (i + 1) label after
    labels-top f e a b =
        let d : P i ≢ a = λ q. absurd (omega arith) in
        least-same (λ j t. later t) (λ j t. earlier d t) (e a b) (k a b)

    pub labels-more :
        P i < m → after (P i) ≡ min (labels (P i)) (labels i) → ((a : ℕ) → a < m → a ≢ P i → after a ≡ labels a) →
        LeastThrough P m (i + 1) label after
    labels-more f q e a b =
        by_cases (ℕ_discrete a (P i))
        (λ z.
        subst (λ (c : ℕ). LeastOf (Through P m (i + 1) c) label (after c)) (sym z)
        (least-same (λ j t. join j t) (λ j t. part j t) q (least-both (k (P i) f) (k i h))))
        (λ z. least-same (λ j t. later t) (λ j t. earlier (λ y. z (sym y)) t) (e a b z) (k a b))
      where
        join : (j : ℕ) → Through P m i (P i) j ⊎ Through P m i i j → Through P m (i + 1) (P i) j
        join j (inl t) = later t
        join j (inr t) = by i (omega arith) h refl (through-up i h t)

        part : (j : ℕ) → Through P m (i + 1) (P i) j → Through P m i (P i) j ⊎ Through P m i i j
        part j (own e) = inl (own e)
        part j (by s b c e u) =
            by_cases (ℕ_discrete s i)
            (λ z. inr (up-through (omega arith) (subst (λ (y : ℕ). Up P m y j) z u)))
            (λ z. inl (by s (omega arith) c e u))

-- what a node that hands its label up changes
pub handed-kept : {n i : ℕ} {cells after : List ℕ} → Handed n i cells after → UntouchedOutside (4 * n) n cells after
handed-kept {n} {i} {cells} (top a e) = subst (UntouchedOutside (4 * n) n cells) (sym e) (untouched-refl (4 * n) n cells)
handed-kept {n} {i} {cells} (stayed a b e) = subst (UntouchedOutside (4 * n) n cells) (sym e) (untouched-refl (4 * n) n cells)
handed-kept {n} {i} {cells} (lowered a b e) =
    subst (UntouchedOutside (4 * n) n cells) (sym e) (untouched-set (4 * n) n _ _ cells cells a (untouched-refl (4 * n) n cells))

pub fathers-rise :
    {n count : ℕ} {work : List ℕ} → count ≤ n → FathersRise n count work →
    (i : ℕ) → i < count → block_entry work n i < count → i < block_entry work n i
fathers-rise few up i h f = up.rise i h (omega arith)

-- in a tree with the fathers of work; the father of i in the cells is the same
module _ (n count i : ℕ) (work cells : List ℕ) (few : count ≤ n) (long : length cells ≡ 5 * n) (up : FathersRise n count work) (h : i < count) (same : block_entry cells n i ≡ block_entry work n i) where
  abbrev P : ℕ → ℕ
  P = block_entry work n

  abbrev given : ℕ
  given = block_entry cells (4 * n) i

  -- its own label stays
  pub handed-own : {after : List ℕ} → Handed n i cells after → block_entry after (4 * n) i ≡ given
  handed-own (top a e) = ap (λ (l : List ℕ). block_entry l (4 * n) i) e
  handed-own (stayed a b e) = ap (λ (l : List ℕ). block_entry l (4 * n) i) e
  handed-own (lowered a b e) =
      let r = up.rise i h (omega arith) in
      let d : 4 * n + i ≢ 4 * n + block_entry cells n i = λ q. absurd (omega arith) in
      ap (λ (l : List ℕ). block_entry l (4 * n) i) e ∙ get_or-set_other cells (4 * n + block_entry cells n i) (4 * n + i) given 0 d

  -- and each node has its least label through one node more
  pub handed-labels :
      {label : ℕ → ℕ} {after : List ℕ} → LeastThrough P count i label (block_entry cells (4 * n)) → Handed n i cells after →
      LeastThrough P count (i + 1) label (block_entry after (4 * n))
  handed-labels {label} k (top a e) =
      subst (λ (l : List ℕ). LeastThrough P count (i + 1) label (block_entry l (4 * n))) (sym e)
      (labels-top (fathers-rise few up) h k (omega arith) (λ a b. refl))
  handed-labels {label} k (stayed a b e) =
      let q = ap (block_entry cells (4 * n)) same in
      subst (λ (l : List ℕ). LeastThrough P count (i + 1) label (block_entry l (4 * n))) (sym e)
      (labels-more (fathers-rise few up) h k (up.within i h (omega arith)) (omega arith) (λ a b d. refl))
  handed-labels {label} k (lowered a b e) =
      let q = ap (block_entry cells (4 * n)) same in
      let within = up.within i h (omega arith) in
      let lesser : given ≡ min (block_entry cells (4 * n) (P i)) given = omega arith in
      subst (λ (l : List ℕ). LeastThrough P count (i + 1) label (block_entry l (4 * n)))
      (sym (e ∙ ap (λ (z : ℕ). set cells (4 * n + z) given) same))
      (labels-more (fathers-rise few up) h k within
      (get_or-set_same cells (4 * n + P i) given 0 (omega arith) ∙ lesser)
      (λ a b q.
      let d : 4 * n + a ≢ 4 * n + P i = λ z. q (omega arith) in
      get_or-set_other cells (4 * n + P i) (4 * n + a) given 0 d))

-- the labels handed up to the node m: none, one more, all before m
pub handed-start : (n m : ℕ) (work : List ℕ) → HandedBefore n m 0 work work
handed-start n m work =
    record { kept = untouched-refl (4 * n) n work; labels = λ count few b up. labels-start (λ a h. refl) }

pub handed-more :
    {n m i : ℕ} {work cells after : List ℕ} → length work ≡ 5 * n → i < m → HandedBefore n m i work cells → Handed n i cells after →
    HandedBefore n m (i + 1) work after
handed-more {n} {m} {i} {work} {cells} {after} long h k g =
    let size = k.kept.size in
    record {
      kept = untouched-trans (4 * n) n work cells after k.kept (handed-kept g);
      labels =
          λ count few b up.
          handed-labels n count i work cells few (omega arith) up (omega arith) (k.kept.outside (n + i) (inl (omega arith))) (k.labels count few b up) g;
    }

pub handed-least : {n m i : ℕ} {work after : List ℕ} → m ≤ i → HandedBefore n m i work after → LeastLabel n m work (block_entry after (4 * n) m)
handed-least {m = m} h k count few b up = labels-final (fathers-rise few up) (k.labels count few b up) m b h
