-- A pixel is lowerable if the labels of its neighbours in the section below it agree.
use mathlib.Core.Path.{◌≡◌, refl, sym, ap, ◌∙◌}
use mathlib.Core.Bool.{Bool, true, false, ◌&&◌, not}
use mathlib.Core.Logic.{◌⊎◌, inl, inr, ⊎_elim, ◌≢◌}
use mathlib.Core.List.{List}
use Prim.Native.Nat.{ℕ, suc, ◌+◌, ◌≤◌, ◌<◌}
use native.Mathlib.Omega.{arith}
use lib.Dec.{eqb}
use lib.ListN.{length, get_or}
use borrow.Author.Count.{below_more}
use borrow.Author.Tests.{eqb-true, eqb-false, ne_eqb}
use Rattle.lists.specs.Lists.{pick}
use Rattle.picture.specs.Pictures.{Picture, places, value_at}
use Rattle.picture.specs.Labels.{labels}
use Rattle.picture.specs.Geometry.{neighbours_in}
use Rattle.picture.specs.Watersheds.{lowerable}
use Rattle.picture.proofs.Neighbours.{neighbour-at, neighbour-index}
use Rattle.lists.proofs.Tests.{on-pick, test-false}
use Rattle.topology.proofs.Adjacency.{Adj, At, Joined}
use Rattle.topology.proofs.Reached.{first-at}
use Rattle.topology.proofs.Parts.{is_first}
use Rattle.topology.proofs.Bridge.{lowerable-lowers, lowers-lowerable, lowerable-above}
use Rattle.topology.proofs.ComponentNumbers.{at-dec, number-some, number-less, number_same, same_number, labels_at, labels-none}
use Rattle.lists.proofs.Positions.{tally-bound}

-- the label common to some places, 0 for none and 65,535 for several, when a place with the label v joins them
abbrev pub agreed : ℕ → ℕ → ℕ
agreed m v = pick (eqb v 0) m (pick (eqb m 0) v (pick (eqb m v) m 65535))

-- exactly one label
abbrev pub is_single : ℕ → Bool
is_single m = not (eqb m 0) && not (eqb m 65535)

-- m is the label common to the first i places of ns: 0 for none, 65,535 for several
pub data Common (l ns : List ℕ) (i m : ℕ) : Type 0 where
  none : m ≡ 0 → ((j : ℕ) → j < i → get_or l (get_or ns j 0) 0 ≡ 0) → Common l ns i m
  one :
      m ≢ 0 → m ≢ 65535 → (j : ℕ) → j < i → get_or l (get_or ns j 0) 0 ≡ m →
      ((h : ℕ) → h < i → (get_or l (get_or ns h 0) 0 ≡ 0) ⊎ (get_or l (get_or ns h 0) 0 ≡ m)) → Common l ns i m
  many :
      m ≡ 65535 → (j h : ℕ) → j < i → h < i → get_or l (get_or ns j 0) 0 ≢ 0 → get_or l (get_or ns h 0) 0 ≢ 0 →
      get_or l (get_or ns j 0) 0 ≢ get_or l (get_or ns h 0) 0 → Common l ns i m

module _ (l ns : List ℕ) where
  pub common-start : Common l ns 0 0
  common-start = none refl (λ j h. absurd (omega arith))

  module _ (i v : ℕ) (e : get_or l (get_or ns i 0) 0 ≡ v) where
    common-same : (m : ℕ) → v ≡ 0 → Common l ns i m → Common l ns (i + 1) m
    common-same m z (none q f) = none q (below_more (λ j. get_or l (get_or ns j 0) 0 ≡ 0) i f (e ∙ z))
    common-same m z (one a b j h g f) =
        let d : j < i + 1 = omega arith in
        one a b j d g (below_more (λ j. (get_or l (get_or ns j 0) 0 ≡ 0) ⊎ (get_or l (get_or ns j 0) 0 ≡ m)) i f (inl (e ∙ z)))
    common-same m z (many q j h a b r s t) =
        let c : j < i + 1 = omega arith in let d : h < i + 1 = omega arith in many q j h c d r s t

    common-first : (m : ℕ) → v ≢ 0 → v ≢ 65535 → m ≡ 0 → Common l ns i m → Common l ns (i + 1) v
    common-first m z s q (none w f) =
        one z s i (omega arith) e
        (below_more (λ j. (get_or l (get_or ns j 0) 0 ≡ 0) ⊎ (get_or l (get_or ns j 0) 0 ≡ v)) i (λ j h. inl (f j h)) (inr e))
    common-first m z s q (one a b j h g f) = absurd (a q)
    common-first m z s q (many w j h a b r u t) = absurd (omega arith)

    common-more : (m : ℕ) → m ≢ 0 → m ≡ v → v ≢ 65535 → Common l ns i m → Common l ns (i + 1) m
    common-more m z q s (none w f) = absurd (z w)
    common-more m z q s (one a b j h g f) =
        let d : j < i + 1 = omega arith in
        one a b j d g (below_more (λ j. (get_or l (get_or ns j 0) 0 ≡ 0) ⊎ (get_or l (get_or ns j 0) 0 ≡ m)) i f (inr (e ∙ sym q)))
    common-more m z q s (many w j h a b r u t) = absurd (s (sym q ∙ w))

    common-other : (m : ℕ) → v ≢ 0 → m ≢ 0 → m ≢ v → Common l ns i m → Common l ns (i + 1) 65535
    common-other m z y q (none w f) = absurd (y w)
    common-other m z y q (one a b j h g f) =
        let d : j < i + 1 = omega arith in
        many refl j i d (omega arith) (λ n. a (sym g ∙ n)) (λ n. z (sym e ∙ n)) (λ n. q (sym g ∙ (n ∙ e)))
    common-other m z y q (many w j h a b r u t) =
        let c : j < i + 1 = omega arith in let d : h < i + 1 = omega arith in many refl j h c d r u t

    pub common-turn : (m : ℕ) → v ≢ 65535 → Common l ns i m → Common l ns (i + 1) (agreed m v)
    common-turn m s c =
        on-pick (Common l ns (i + 1)) (eqb v 0)
        (λ z. common-same m (eqb-true v 0 z) c)
        (λ z.
        on-pick (Common l ns (i + 1)) (eqb m 0)
        (λ y. common-first m (eqb-false v 0 z) s (eqb-true m 0 y) c)
        (λ y.
        on-pick (Common l ns (i + 1)) (eqb m v)
        (λ q. common-more m (eqb-false m 0 y) (eqb-true m v q) s c)
        (λ q. common-other m (eqb-false v 0 z) (eqb-false m 0 y) (eqb-false m v q) c)))

-- a pixel of value 0 is not lowerable
pub not-lowerable : (p : Picture) (x : ℕ) → x < places p → value_at p x ≡ 0 → lowerable p x ≡ false
not-lowerable p x b e =
    test-false (lowerable p x) (λ h. let (k, q) = lowerable-above p x b h in absurd (omega arith))

module _ (p : Picture) (k : ℕ) where
  -- a label is not 65,535 where there are fewer places, and is not 0 only in the section
  pub label_small : places p ≤ 1600 → (y : ℕ) → y < places p → get_or (labels p k) y 0 ≢ 65535
  label_small n y b e =
      ⊎_elim
      (λ a.
      let q = labels_at p k y a in
      let r = number-less p k y (places p) a (first-at p k y a).within in
      let m = tally-bound (is_first p k) (places p) in
      absurd (omega arith))
      (λ a. let q = labels-none p k y b a in absurd (omega arith))
      (at-dec p k y)

  label-section : (y : ℕ) → y < places p → get_or (labels p k) y 0 ≢ 0 → At p k y
  label-section y b h = ⊎_elim (λ a. a) (λ a. absurd (h (labels-none p k y b a))) (at-dec p k y)

  section-label : (y : ℕ) → At p k y → get_or (labels p k) y 0 ≢ 0
  section-label y a e = let q = labels_at p k y a in let r = number-some p k y in absurd (omega arith)

  label-joined : (y z : ℕ) → At p k y → At p k z → get_or (labels p k) y 0 ≡ get_or (labels p k) z 0 → Joined p k y z
  label-joined y z a b e = same_number p k y z a b (sym (labels_at p k y a) ∙ (e ∙ labels_at p k z b))

  joined-label : (y z : ℕ) → At p k y → At p k z → Joined p k y z → get_or (labels p k) y 0 ≡ get_or (labels p k) z 0
  joined-label y z a b c = labels_at p k y a ∙ (number_same p k c ∙ sym (labels_at p k z b))

  module _ (x : ℕ) (some : 1 ≤ p.width) (b : x < places p) (value : value_at p x ≡ suc k) where
    -- the label of the j-th neighbour
    label : ℕ → ℕ
    label j = get_or (labels p k) (get_or (neighbours_in p x) j 0) 0

    near-at : (j : ℕ) → j < length (neighbours_in p x) → label j ≢ 0 → At p k (get_or (neighbours_in p x) j 0) × Adj p x (get_or (neighbours_in p x) j 0)
    unfolding label
    near-at j h d = let q = neighbour-at p x j h in (label-section (get_or (neighbours_in p x) j 0) q.0 d, q.1)

    pub common-end : (m : ℕ) → Common (labels p k) (neighbours_in p x) (length (neighbours_in p x)) m → is_single m ≡ lowerable p x
    unfolding label
    common-end m (none e f) =
        ap is_single e ∙
        sym
        (test-false (lowerable p x)
        (λ h.
        let w = lowerable-lowers p x b k value h in
        let (j, i, q) = neighbour-index p x w.near some w.below.within w.touches in
        section-label w.near w.below (ap (λ z. get_or (labels p k) z 0) (sym q) ∙ f j i)))
    common-end m (one z s j h e f) =
        let t : is_single m ≡ true = rw (ne_eqb m 0 z, ne_eqb m 65535 s) in
        let (a, r) = near-at j h (λ d. z (sym e ∙ d)) in
        t ∙
        sym
        (lowers-lowerable p x b k
        (record {
          within = b;
          value = value;
          near = get_or (neighbours_in p x) j 0;
          touches = r;
          below = a;
          joined =
              λ y g c.
              let (i, o, q) = neighbour-index p x y some c.within g in
              let same : get_or (labels p k) y 0 ≡ label i = ap (λ u. get_or (labels p k) u 0) (sym q) in
              label-joined (get_or (neighbours_in p x) j 0) y a c
              (⊎_elim (λ n. absurd (section-label y c (same ∙ n))) (λ n. e ∙ sym (same ∙ n)) (f i o));
        }))
    common-end m (many e j h i o r s d) =
        ap is_single e ∙
        sym
        (test-false (lowerable p x)
        (λ g.
        let w = lowerable-lowers p x b k value g in
        let (a, t) = near-at j i r in
        let (c, u) = near-at h o s in
        d
        (sym (joined-label w.near (get_or (neighbours_in p x) j 0) w.below a (w.joined (get_or (neighbours_in p x) j 0) t a)) ∙
        joined-label w.near (get_or (neighbours_in p x) h 0) w.below c (w.joined (get_or (neighbours_in p x) h 0) u c))))
