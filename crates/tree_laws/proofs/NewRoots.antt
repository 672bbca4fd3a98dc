-- The new roots of a height: at its end the first places of the components that are no branch; their rising list is the definition's.
use mathlib.Core.Path.{◌≡◌, sym, ap, subst, ◌∙◌}
use mathlib.Core.Bool.{Bool, true, false, not}
use mathlib.Core.Logic.{by_cases}
use mathlib.Core.List.Memᴰ
use mathlib.Core.List.{List, map, map-map, Memᴰ}
use Prim.Native.Nat.{ℕ, suc, ◌+◌, ◌-◌, ◌≤◌, ◌<◌}
use native.Mathlib.Decide.{ℕ_discrete}
use native.Mathlib.Omega.{arith}
use lib.ListN.{length, get_or, length-map}
use Rattle.lists.specs.Lists.{tally, select, range, is_in}
use Rattle.picture.specs.Pictures.{Picture, places}
use Rattle.picture.specs.Components.{component_at}
use Rattle.picture.specs.Trees.{Node, is_branch, nodes_at, node_at}
use Rattle.lists.proofs.Tests.{and_left, and_right, and_both, same_test, not_of_false, clash}
use Rattle.lists.proofs.Lists.{select-mem, mem-select, length-select, tally-stronger, tally-equal, in_mem, mem-in, length-range, range-mem, mem-range, get_or-map-range}
use Rattle.lists.proofs.Rising.{rising-select, rising-equal, rising-map}
use borrow.Author.Tests.{not-true}
use Rattle.topology.proofs.Adjacency.{At, Joined, joined-sym}
use Rattle.topology.proofs.Reached.{first_at, first-joined, first-least, first-at}
use Rattle.topology.proofs.Parts.{is_first, first-is, is-first}
use Rattle.topology.proofs.Nodes.{node, is_node, nodes-at}
use Rattle.topology.proofs.Descent.{under}
use Rattle.tree_laws.proofs.Counts.{so_far, so-places, so-next, so-at}
use Rattle.tree_laws.proofs.Beneath.{low-at, none-fork, many-fork, one-branch}
use Rattle.tree_laws.proofs.Levels.{State, nothing, single, several, Level, class-joined, HeightJoined, upto_all, edges-joined, number-few}
use Rattle.tree_laws.proofs.States.{node_state, listed_state, several_state}

-- y stands in f from c on, before d
pub record Member (f : ℕ → ℕ) (c d y : ℕ) : Type 0 where
  pub at : ℕ
  pub from : c ≤ at
  pub to : at < d
  pub is : f at ≡ y

-- from c on, before d, f has roots that no branch has, rising
pub record NewRoots (p : Picture) (k c d : ℕ) (f root st : ℕ → ℕ) : Type 0 where
  pub order : c ≤ d
  pub rising : (i j : ℕ) → c ≤ i → i < j → j < d → f i < f j
  pub place : (i : ℕ) → c ≤ i → i < d → At p k (f i)
  pub fixed : (i : ℕ) → c ≤ i → i < d → root (f i) ≡ f i
  pub free : (i : ℕ) → c ≤ i → i < d → several_state ≤ st (f i)

-- all of them
pub record RootsListed (p : Picture) (k c d : ℕ) (f root st : ℕ → ℕ) : Type 0 where
  pub roots : NewRoots p k c d f root st
  pub complete : (y : ℕ) → At p k y → root y ≡ y → several_state ≤ st y → Member f c d y

pub roots-none : (p : Picture) (k c : ℕ) (f root st : ℕ → ℕ) → NewRoots p k c c f root st
roots-none p k c f root st =
    record {
      order = omega arith;
      rising = λ i j a b h. absurd (omega arith);
      place = λ i a b. absurd (omega arith);
      fixed = λ i a b. absurd (omega arith);
      free = λ i a b. absurd (omega arith);
    }

module _ (p : Picture) (k c : ℕ) (root st fa : ℕ → ℕ) (whole : HeightJoined p k c root st fa) where
  abbrev v : Level p k root st fa
  v = whole.level

  low : k ≤ 255
  low = whole.low

  pub joined-root : {y z : ℕ} → Joined p k y z → root y ≡ root z
  joined-root j = edges-joined p k (places p) root whole.edges k (λ y s. upto_all p k (places p) y (omega arith) s) j

  -- at the end of a height the root of a class is the first place of the component
  pub root-first : (y : ℕ) → At p k y → root y ≡ first_at p k y
  root-first y s =
      let a = joined-root (first-joined p k y s) in
      let b = v.first (first_at p k y) (first-at p k y s).within in
      let g = first-least p k (v.own y s) in
      omega arith

  -- and its state says whether the component is a branch, and of which node
  pub data Ended (y : ℕ) : Type 0 where
    new : several_state ≤ st y → is_branch p k (component_at p k y) ≡ false → Ended y
    old : st y ≡ node_state (under p k y) → st y < listed_state → Ended y

  pub ended : (y : ℕ) → At p k y → root y ≡ y → Ended y
  ended y s r = by (v.state y s r)
    where
      in-class : (z : ℕ) → Joined p k y z → root z ≡ y
      in-class z j = sym (joined-root j) ∙ r

      by : State p k root y (st y) → Ended y
      by (nothing q f) = new (omega arith) (none-fork p k y s (λ z l j. f z l (in-class z j)))
      by (several z w q l m a b d) =
          new (omega arith)
          (many-fork p k y z w l m
          (joined-sym p k (class-joined v (low-at p l) a))
          (joined-sym p k (class-joined v (low-at p m) b))
          d)
      by (single z l a q f) =
          let j = joined-sym p k (class-joined v (low-at p l) a) in
          let (t, g) = one-branch p k y z (omega (arith, low)) l j (λ w m i. f w m (in-class w i)) in
          let h = number-few p whole.ok k low z l in
          old (omega arith) (omega arith)

  pub free-fork : (y : ℕ) → At p k y → root y ≡ y → several_state ≤ st y → is_branch p k (component_at p k y) ≡ false
  free-fork y s r h = by (ended y s r)
    where
      by : Ended y → is_branch p k (component_at p k y) ≡ false
      by (new a b) = b
      by (old a b) = absurd (omega arith)

  pub fork-free : (y : ℕ) → At p k y → is_branch p k (component_at p k y) ≡ false → root y ≡ y → several_state ≤ st y
  fork-free y s h r = by (v.state y s r)
    where
      by : State p k root y (st y) → several_state ≤ st y
      by (nothing q f) = omega arith
      by (several z w q l m a b d) = omega arith
      by (single z l a q f) =
          let j = joined-sym p k (class-joined v (low-at p l) a) in
          absurd (clash (one-branch p k y z (omega (arith, low)) l j (λ w m i. f w m (sym (joined-root i) ∙ r))).0 h)

  node-test : (y : ℕ) → At p k y → root y ≡ y → several_state ≤ st y → is_node p k y ≡ true
  unfolding is_node
  node-test y s r h =
      and_both
      (is-first p k y s (sym (root-first y s) ∙ r))
      (not_of_false (is_branch p k (component_at p k y)) (free-fork y s r h))

  test-node : (y : ℕ) → y < places p → is_node p k y ≡ true → At p k y × (root y ≡ y) × (several_state ≤ st y)
  unfolding is_node
  test-node y b h =
      let (s, q) = first-is p k y b (and_left (is_first p k y) (not (is_branch p k (component_at p k y))) h) in
      let r = root-first y s ∙ q in
      (s, r, fork-free y s (not-true (is_branch p k (component_at p k y)) (and_right (is_first p k y) (not (is_branch p k (component_at p k y))) h)) r)

  -- a list of some new roots that lacks one is shorter than the definition's
  pub nodes-more :
      (d : ℕ) (f : ℕ → ℕ) → NewRoots p k c d f root st →
      (r : ℕ) → At p k r → root r ≡ r → several_state ≤ st r → (Member f c d r → ⊥) → d - c < length (nodes_at p k)
  nodes-more d f l r s q g lacks =
      let order = l.order in
      let all = range 0 (places p) in
      let size = ap length (nodes-at p k) ∙ (length-map defined (node k) ∙ length-select (is_node p k) all) in
      let part = sym (length-range c (d - c)) ∙ (sym (length-map (range c (d - c)) f) ∙ (ap length as-select ∙ length-select here all)) in
      let less = tally-stronger here (is_node p k) all sound in
      by_cases (ℕ_discrete (tally here all) (tally (is_node p k) all))
      (λ e.
      absurd
      (lacks
      (member_of r
      (in_mem r listed
      (tally-equal here (is_node p k) all sound e
      (mem-range 0 (places p) (omega arith) (omega (arith, s.within)))
      (node-test r s q g))))))
      (λ e. omega arith)
    where
      defined : List ℕ
      defined = select (is_node p k) (range 0 (places p))

      listed : List ℕ
      listed = map f (range c (d - c))

      here : ℕ → Bool
      here y = is_in y listed

      member_of : (y : ℕ) → Memᴰ y listed → Member f c d y
      member_of y m =
          let order = l.order in
          let (i, n, e) = Memᴰ.of_map f (range c (d - c)) m in
          let (a, b) = range-mem c (d - c) n in
          record { at = i; from = a; to = omega arith; is = e }

      sound : (y : ℕ) → here y ≡ true → is_node p k y ≡ true
      sound y h =
          let t = member_of y (in_mem y listed h) in
          subst (λ (z : ℕ). is_node p k z ≡ true) t.is
          (node-test (f t.at) (l.place t.at t.from t.to) (l.fixed t.at t.from t.to) (l.free t.at t.from t.to))

      within : (y : ℕ) → here y ≡ true → y < places p
      within y h =
          let t = member_of y (in_mem y listed h) in
          subst (λ (z : ℕ). z < places p) t.is (l.place t.at t.from t.to).within

      as-select : listed ≡ select here (range 0 (places p))
      as-select =
          let order = l.order in
          rising-equal
          (rising-map f 0 c (d - c) (λ i a b. omega arith) (λ i j a b h. l.rising i j a b (omega arith)))
          (rising-select here 0 (places p))
          (λ y.
          same_test (is_in y listed) (is_in y (select here (range 0 (places p))))
          (λ h. mem-in y (select here (range 0 (places p))) (mem-select here (range 0 (places p)) (mem-range 0 (places p) (omega arith) (omega (arith, within y h))) h))
          (λ h. (select-mem here (range 0 (places p)) (in_mem y (select here (range 0 (places p))) h)).1))

  module _ (d : ℕ) (f : ℕ → ℕ) (l : RootsListed p k c d f root st) where
    abbrev listed : List ℕ
    listed = map f (range c (d - c))

    abbrev defined : List ℕ
    defined = select (is_node p k) (range 0 (places p))

    list_same : listed ≡ defined
    list_same =
        let o = l.roots.order in
        rising-equal
        (rising-map f 0 c (d - c) (λ i a b. omega arith) (λ i j a b q. l.roots.rising i j a b (omega arith)))
        (rising-select (is_node p k) 0 (places p))
        (λ y. same_test (is_in y listed) (is_in y defined) (λ h. mem-in y defined (forth y (in_mem y listed h))) (λ h. mem-in y listed (back y (in_mem y defined h))))
      where
        forth : (y : ℕ) → Memᴰ y listed → Memᴰ y defined
        forth y m =
            let o = l.roots.order in
            let (i, n, q) = Memᴰ.of_map f (range c (d - c)) m in
            let (a, b) = range-mem c (d - c) n in
            let b : i < d = omega arith in
            subst (λ (z : ℕ). Memᴰ z defined) q
            (mem-select (is_node p k) (range 0 (places p))
            (mem-range 0 (places p) (omega arith) (omega (arith, (l.roots.place i a b).within)))
            (node-test (f i) (l.roots.place i a b) (l.roots.fixed i a b) (l.roots.free i a b)))

        back : (y : ℕ) → Memᴰ y defined → Memᴰ y listed
        back y m =
            let (n, h) = select-mem (is_node p k) (range 0 (places p)) m in
            let b = range-mem 0 (places p) n in
            let (s, r, g) = test-node y (omega arith) h in
            let t = l.complete y s r g in
            let a = t.from in
            let w = t.to in
            subst (λ (z : ℕ). Memᴰ z listed) t.is (Memᴰ.map f (mem-range c (d - c) a (omega arith)))

    nodes-listed : nodes_at p k ≡ map (λ i. node k (f i)) (range c (d - c))
    nodes-listed =
        nodes-at p k ∙ (sym (ap (map (node k)) list_same) ∙ map-map (node k) f (range c (d - c)))

    count-listed : length (nodes_at p k) ≡ d - c
    count-listed =
        ap length nodes-listed ∙ (length-map (range c (d - c)) (λ i. node k (f i)) ∙ length-range c (d - c))

    pub count_next : d ≡ so_far p (suc k)
    count_next =
        let o = l.roots.order in
        let n = whole.count in
        let a = so-next p k in
        let b = count-listed in
        omega arith

    pub number-new : (i : ℕ) → c ≤ i → i < d → node_at p i ≡ node k (f i)
    number-new i a b =
        let n = whole.count in
        let h : i ≡ so_far p k + (i - c) = omega arith in
        let g : c + (i - c) ≡ i = omega arith in
        let m = count-listed in
        ap (node_at p) h ∙
        (so-at p k (i - c) low (omega arith) ∙
        (ap (λ (ns : List Node). get_or ns (i - c) (node 0 0)) nodes-listed ∙
        (get_or-map-range (λ j. node k (f j)) (node 0 0) c (d - c) (i - c) (omega arith) ∙ ap (λ (j : ℕ). node k (f j)) g)))

    -- the list ends within the places
    pub count-few : d ≤ places p
    count-few =
        let a = so-places p (suc k) (let b = low in omega arith) in let b = count_next in omega arith
