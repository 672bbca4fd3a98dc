-- Partners: keeping parts keeps the nodes of the tree, one for one, with their fathers.
use mathlib.Core.Path.{◌≡◌, refl, sym, ap, ap₂, subst, ◌∙◌}
use mathlib.Core.Bool.{true, false}
use mathlib.Core.Logic.{by_cases}
use mathlib.Core.List.{List}
use Prim.Native.Nat.{ℕ, suc, ◌≤◌, ◌<◌}
use native.Mathlib.Decide.{ℕ_discrete, dec_lt}
use native.Mathlib.Omega.{arith}
use lib.Dec.{eqb}
use lib.ListN.{length}
use borrow.Author.Tests.{eqb-true, eq-eqb}
use Rattle.lists.specs.Lists.{tally, all_within}
use Rattle.picture.specs.Pictures.{Picture, places, value_at, with_pixels}
use Rattle.picture.specs.Components.{component_at}
use Rattle.picture.specs.Trees.{Node, is_branch, nodes, node_at, component_of, number_of, father_of}
use Rattle.picture.specs.Kept.{partners}
use Rattle.lists.proofs.Tests.{and_left, and_right, and_both, clash}
use Rattle.topology.proofs.Connected.{start, conn-target, conn-trans}
use Rattle.topology.proofs.Keeping.{Keeps, sec-mono}
use Rattle.topology.proofs.Adjacency.{Adj, At, Joined, joined-sym, joined-mono}
use Rattle.topology.proofs.Reached.{first_at, first-joined, first-same}
use Rattle.topology.proofs.Bridge.{within-joined, joined-within}
use Rattle.topology.proofs.Accepted.{Accepted}
use Rattle.topology.proofs.Branches.{joined-kept, branch_same}
use Rattle.lists.proofs.Indices.{one_index, index-one}
use Rattle.topology.proofs.Nodes.{node, IsNode, node-is, node-equal, number-found}
use Rattle.topology.proofs.Climb.{root_is}
use Rattle.topology.proofs.Fathers.{NodeFrom, top, fork, father-is, number_small}

-- a picture that keeps f's parts, in the same frame
module _ (f : Picture) (xs : List ℕ) (keeps : (k : ℕ) → Keeps (places f) (Adj f) (value_at f) (value_at (with_pixels f xs)) k) where
  abbrev a : Picture
  a = with_pixels f xs

  -- partners are nodes of one height whose first places are joined in a
  module _ (n m : Node) (s : At f n.height n.first) (t : At a m.height m.first) where
    pub partners-joined : partners f a n m ≡ true → (n.height ≡ m.height) × Joined a n.height n.first m.first
    unfolding partners
    partners-joined h =
        let e = eqb-true n.height m.height (and_left (eqb n.height m.height) (all_within (component_of f n) (component_of a m)) h) in
        let w = and_right (eqb n.height m.height) (all_within (component_of f n) (component_of a m)) h in (
          e,
          at-height m.height (sym e) t w,
        )
      where
        at-height :
            (k : ℕ) → k ≡ n.height → At a k m.first → all_within (component_of f n) (component_at a k m.first) ≡ true →
            Joined a n.height n.first m.first
        at-height k e u w =
            let u' = subst (λ (j : ℕ). At a j m.first) e u in
            let w' = subst (λ (j : ℕ). all_within (component_of f n) (component_at a j m.first) ≡ true) e w in
            joined-sym a n.height (within-joined f a n.height n.first m.first s u' w' n.first (start s))

    joined-partners : n.height ≡ m.height → Joined a n.height n.first m.first → partners f a n m ≡ true
    unfolding partners
    joined-partners e c =
        and_both (eq-eqb n.height m.height e)
        (subst (λ (j : ℕ). all_within (component_of f n) (component_at a j m.first) ≡ true) e
        (joined-within f a n.height n.first m.first s (conn-target c)
        (λ z d. conn-trans (joined-sym a n.height c) (joined-kept f xs keeps d))))

  -- the node of z's component is the only one of its height whose first place is joined to z
  node-only :
      (p : Picture) (l i k z : ℕ) → l < length (nodes p) → (i < length (nodes p)) × (node_at p i ≡ node k (first_at p k z)) →
      (node_at p l).height ≡ k → Joined p k (node_at p l).first z → l ≡ i
  node-only p l i k z b found w c =
      node-equal p l i b found.0
      (ap₂ node w
      (sym (node-is p l b).first ∙ (ap (λ (v : ℕ). first_at p v (node_at p l).first) w ∙ first-same p k c)) ∙
      sym found.1)

  module _ (k y : ℕ) (g : IsNode f (node k y)) where
    one_found : tally (λ m. partners f a (node k y) m) (nodes a) ≡ 1
    one_found =
        one_index (λ m. partners f a (node k y) m) (node 0 0) (nodes a) j found.0
        (subst (λ (m : Node). partners f a (node k y) m ≡ true) (sym found.1)
        (joined-partners (node k y) (node k (first_at a k y)) g.place (conn-target c) refl c))
        (λ l b e.
        let (w, d) = partners-joined (node k y) (node_at a l) g.place (node-is a l b).place e in
        node-only a l j k y b found (sym w) (joined-sym a k d))
      where
        t : At a k y
        t = (keeps k).subset y g.place

        c : Joined a k y (first_at a k y)
        c = first-joined a k y t

        free : is_branch a k (component_at a k y) ≡ false
        free = sym (branch_same f xs keeps k g.place (start t)) ∙ g.fork

        j : ℕ
        j = number_of a k (component_at a k y)

        found : (j < length (nodes a)) × (node_at a j ≡ node k (first_at a k y))
        found = number-found a k y g.low t free

  module _ (k y : ℕ) (g : IsNode a (node k y)) where
    one_of : tally (λ n. partners f a n (node k y)) (nodes f) ≡ 1
    one_of =
        one_index (λ n. partners f a n (node k y)) (node 0 0) (nodes f) i found.0
        (subst (λ (n : Node). partners f a n (node k y) ≡ true) (sym found.1)
        (joined-partners (node k (first_at f k z)) (node k y) (conn-target first) g.place refl
        (conn-trans (joined-sym a k (joined-kept f xs keeps first)) (joined-sym a k c))))
        (λ l b e.
        let q = (node-is f l b).place in
        let (w, d) = partners-joined (node_at f l) (node k y) q g.place e in
        let d' = subst (λ (v : ℕ). Joined a v (node_at f l).first y) w d in
        let s' = subst (λ (v : ℕ). At f v (node_at f l).first) w q in
        node-only f l i k z b found w ((keeps k).separates (node_at f l).first z s' s (conn-trans d' c)))
      where
        reached : (z : ℕ) × At f k z × Joined a k y z
        reached = (keeps k).reaches y g.place

        z : ℕ
        z = reached.0

        s : At f k z
        s = reached.1

        c : Joined a k y z
        c = reached.2

        first : Joined f k z (first_at f k z)
        first = first-joined f k z s

        free : is_branch f k (component_at f k z) ≡ false
        free = branch_same f xs keeps k s (joined-sym a k c) ∙ g.fork

        i : ℕ
        i = number_of f k (component_at f k z)

        found : (i < length (nodes f)) × (node_at f i ≡ node k (first_at f k z))
        found = number-found f k z g.low s free

  -- each node of f has exactly one partner
  pub partner-found : (i : ℕ) → i < length (nodes f) → tally (λ m. partners f a (node_at f i) m) (nodes a) ≡ 1
  partner-found i h = one_found (node_at f i).height (node_at f i).first (node-is f i h)

  -- and each node of a is the partner of exactly one
  pub partner-of : (j : ℕ) → j < length (nodes a) → tally (λ n. partners f a n (node_at a j)) (nodes f) ≡ 1
  partner-of j h = one_of (node_at a j).height (node_at a j).first (node-is a j h)

  -- the least nodes above joined places have one height in f and in a, or there is none in either
  data Both (y z k r q : ℕ) : Type 0 where
    neither : r ≡ 65535 → q ≡ 65535 → Both y z k r q
    forks :
        (h : ℕ) → k ≤ h → h ≤ 255 →
        is_branch f h (component_at f h y) ≡ false → is_branch a h (component_at a h z) ≡ false →
        r ≡ number_of f h (component_at f h y) → q ≡ number_of a h (component_at a h z) → Both y z k r q

  both-above : {y z k r q : ℕ} → At f k y → Joined a k y z → NodeFrom f y (suc k) r → NodeFrom a z (suc k) q → Both y z (suc k) r q
  both-above {y} {z} {k} s c = pair
    where
      same : (h : ℕ) → k ≤ h → is_branch f h (component_at f h y) ≡ is_branch a h (component_at a h z)
      same h b = branch_same f xs keeps h (sec-mono b y s) (joined-mono a b c)

      pair : {r q : ℕ} → NodeFrom f y (suc k) r → NodeFrom a z (suc k) q → Both y z (suc k) r q
      pair (top e u) (top g v) = neither e g
      pair (top e u) (fork h b d n v g) = absurd (clash (sym (same h (omega arith)) ∙ u h b d) n)
      pair (fork h b d n u e) (top g v) = absurd (clash (same h (omega arith) ∙ v h b d) n)
      pair (fork h b d n u e) (fork i b' d' n' v g) =
          by_cases (ℕ_discrete i h)
          (λ w.
          forks h b d n
          (subst (λ (m : ℕ). is_branch a m (component_at a m z) ≡ false) w n')
          e
          (g ∙ ap (λ (m : ℕ). number_of a m (component_at a m z)) w))
          (λ w.
          by_cases (dec_lt h i)
          (λ l. absurd (clash (same h (omega arith) ∙ v h b l) n))
          (λ l. absurd (clash (sym (same i (omega arith)) ∙ u i b' (omega arith)) n')))

  -- the fathers of partners
  module _ (i j : ℕ) (h : i < length (nodes f)) (l : j < length (nodes a)) (e : partners f a (node_at f i) (node_at a j) ≡ true) where
    fathers-both : Both (node_at f i).first (node_at a j).first (suc (node_at f i).height) (father_of f (node_at f i)) (father_of a (node_at a j))
    fathers-both =
        let g = node-is f i h in
        let g' = node-is a j l in
        let (w, c) = partners-joined (node_at f i) (node_at a j) g.place g'.place e in
        both-above g.place c (father-is f (node_at f i) g.low)
        (subst (λ (k : ℕ). NodeFrom a (node_at a j).first (suc k) (father_of a (node_at a j))) (sym w) (father-is a (node_at a j) g'.low))

    father-joined : Joined a (node_at f i).height (node_at f i).first (node_at a j).first
    father-joined =
        (partners-joined (node_at f i) (node_at a j) (node-is f i h).place (node-is a j l).place e).1

    pub fathers-partners :
        Accepted a → father_of f (node_at f i) < 65535 →
        (father_of a (node_at a j) < 65535) ×
        (partners f a (node_at f (father_of f (node_at f i))) (node_at a (father_of a (node_at a j))) ≡ true)
    fathers-partners ok = paired fathers-both
      where
        y : ℕ
        y = (node_at f i).first

        z : ℕ
        z = (node_at a j).first

        paired :
            {r q : ℕ} → Both y z (suc (node_at f i).height) r q → r < 65535 →
            (q < 65535) × (partners f a (node_at f r) (node_at a q) ≡ true)
        paired (neither u v) b = absurd (omega arith)
        paired {r} {q} (forks k b d nf na u v) c =
            let above : (node_at f i).height ≤ k = omega arith in
            let sf = sec-mono above y (node-is f i h).place in
            let yz = joined-mono a above father-joined in
            let (fl, fe) = number-found f k y d sf nf in
            let (al, ae) = number-found a k z d (conn-target yz) na in
            let first-f = first-joined f k y sf in
            let first-a = first-joined a k z (conn-target yz) in
            let s = number_small a ok (number_of a k (component_at a k z)) al in (
              omega arith,
              subst (λ (n : Node). partners f a n (node_at a q) ≡ true) (sym (ap (node_at f) u ∙ fe))
                  (subst (λ (n : Node). partners f a (node k (first_at f k y)) n ≡ true) (sym (ap (node_at a) v ∙ ae))
                  (joined-partners (node k (first_at f k y)) (node k (first_at a k z)) (conn-target first-f) (conn-target first-a) refl
                  (conn-trans (joined-sym a k (joined-kept f xs keeps first-f)) (conn-trans yz first-a)))),
            )

    pub roots-partners : Accepted f → father_of f (node_at f i) ≡ 65535 → father_of a (node_at a j) ≡ 65535
    roots-partners ok = paired fathers-both
      where
        paired : {r q : ℕ} → Both (node_at f i).first (node_at a j).first (suc (node_at f i).height) r q → r ≡ 65535 → q ≡ 65535
        paired (neither u v) b = v
        paired (forks k b d nf na u v) c =
            let above : (node_at f i).height ≤ k = omega arith in
            let sf = sec-mono above (node_at f i).first (node-is f i h).place in
            let fl = (number-found f k (node_at f i).first d sf nf).0 in
            absurd (let s = number_small f ok (number_of f k (component_at f k (node_at f i).first)) fl in omega arith)

  -- the roots are partners: the root's partner is a root, and there is one
  pub roots-joined :
      Accepted f → Accepted a → (i j : ℕ) → i < length (nodes f) → j < length (nodes a) →
      father_of f (node_at f i) ≡ 65535 → father_of a (node_at a j) ≡ 65535 → partners f a (node_at f i) (node_at a j) ≡ true
  roots-joined ok a-ok i j h l e g =
      let o = index-one (λ m. partners f a (node_at f i) m) (node 0 0) (nodes a) (partner-found i h) in
      let r = roots-partners i o.0 h o.1 o.2 ok e in
      let q : o.0 ≡ j = root_is a a-ok o.0 o.1 r ∙ sym (root_is a a-ok j l g) in
      subst (λ (m : ℕ). partners f a (node_at f i) (node_at a m) ≡ true) q o.2
