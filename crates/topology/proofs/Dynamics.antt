-- The climb from a patch to a deeper one, by the tree: a patch is deeper if its leaf has a smaller number, and its climb ends at the first ancestor with a smaller leaf below it.
use mathlib.Core.Path.{◌≡◌, sym, ap, ap₂, subst, ◌∙◌}
use mathlib.Core.Bool.{true, false, ◌&&◌}
use mathlib.Core.Logic.{◌⊎◌, inl, inr, ⊎_elim, ◌≢◌, by_cases}
use mathlib.Core.List.Memᴰ
use mathlib.Core.List.{List, map, Memᴰ}
use Prim.Native.Nat.{ℕ, ◌-◌, ◌≤◌, ◌<◌}
use native.Mathlib.Decide.{ℕ_discrete, dec_le, dec_lt}
use native.Mathlib.Omega.{arith}
use lib.Dec.{eqb, ltb}
use lib.ListN.{length}
use borrow.Author.Tests.{eqb-true, ltb-true, eq-eqb, lt-ltb}
use Rattle.lists.specs.Lists.{select, is_in, highest, lowest}
use Rattle.picture.specs.Pictures.{Picture, places, value_at}
use Rattle.picture.specs.Passes.{pass}
use Rattle.picture.specs.Trees.{Node, nodes, node_at, component_of}
use Rattle.picture.specs.Patches.{patch_nodes, patch_at, deeper, deeper_passes, climb_of, depth_of, Pass-to-patch, Passes-of-patches, Climbs-above, Deepest, Deepest-one}
use Rattle.lists.proofs.Tests.{and_left, and_right, and_both, or_cases, or_left, or_right, test-false, clash}
use Rattle.lists.proofs.Lists.{select-mem, mem-select, select-none}
use Rattle.lists.proofs.Sums.{lowest-is, on-lowest, highest-least, highest-most}
use Rattle.topology.proofs.Connected.{start, conn-source, conn-target, conn-trans}
use Rattle.topology.proofs.Adjacency.{Joined, at_own, joined-sym, joined-mono}
use Rattle.topology.proofs.Accepted.{Accepted, accepted-is, places-some, value-byte}
use Rattle.topology.proofs.Reached.{in-joined}
use Rattle.topology.proofs.Nodes.{node-is, node-order}
use Rattle.topology.proofs.Descent.{under-is, map_found}
use Rattle.topology.proofs.Climb.{stay, rise, up-trans, up-chain, up_from, father, last-root}
use Rattle.topology.proofs.Passes.{pass-most, pass-byte, pass-joined}
use Rattle.topology.proofs.Leaves.{leaf-sound}
use Rattle.topology.proofs.PatchFigures.{bottom-rise}
use Rattle.topology.proofs.LeafNodes.{leaf_node, leaf-bottom}
use Rattle.topology.proofs.LeavesBelow.{Below, Least, up-height, up-joined, joined-up, leaf-value, least-leaf, root-above, patch-leaf-node, leaf-node-patch}

-- what deeper says
module _ (p : Picture) (m n : Node) where
  abbrev IsDeeper : Type 0
  IsDeeper = (m.height < n.height) ⊎ ((m.height ≡ n.height) × (patch_at p m.first < patch_at p n.first))

  deeper-is : deeper p m n ≡ true → IsDeeper
  unfolding deeper
  deeper-is h =
      let high = eqb m.height n.height in
      let number = ltb (patch_at p m.first) (patch_at p n.first) in
      ⊎_elim
      (λ e. inl (ltb-true m.height n.height e))
      (λ e.
      inr (
        eqb-true m.height n.height (and_left high number e),
        ltb-true (patch_at p m.first) (patch_at p n.first) (and_right high number e),
      ))
      (or_cases (ltb m.height n.height) (high && number) h)

  is-deeper : IsDeeper → deeper p m n ≡ true
  unfolding deeper
  is-deeper (inl h) = or_left (eqb m.height n.height && ltb (patch_at p m.first) (patch_at p n.first)) (lt-ltb m.height n.height h)
  is-deeper (inr h) =
      or_right (ltb m.height n.height)
      (and_both (eq-eqb m.height n.height h.0) (lt-ltb (patch_at p m.first) (patch_at p n.first) h.1))

module _ (p : Picture) (ok : Accepted p) where
  -- patches are numbered by first place
  numbers-rise :
      (i j : ℕ) → i < length (nodes p) → j < length (nodes p) → leaf_node p i ≡ true → leaf_node p j ≡ true →
      (node_at p i).first < (node_at p j).first → patch_at p (node_at p i).first < patch_at p (node_at p j).first
  numbers-rise i j a b l k h =
      bottom-rise p ok (node_at p i).first (node_at p j).first (node-is p i a).place.within (node-is p j b).place.within
      (leaf-bottom p ok i a l).1
      (leaf-bottom p ok j b k).1
      h

  -- a patch is deeper exactly if its leaf has a smaller number
  module _ (i j : ℕ) (a : i < length (nodes p)) (b : j < length (nodes p)) (l : leaf_node p i ≡ true) (k : leaf_node p j ≡ true) where
    less-deeper : i < j → deeper p (node_at p i) (node_at p j) ≡ true
    less-deeper h =
        is-deeper p (node_at p i) (node_at p j)
        (⊎_elim (λ g. inl g) (λ g. inr (g.0, numbers-rise i j a b l k g.1)) (node-order p i j h b))

    deeper-less : deeper p (node_at p i) (node_at p j) ≡ true → i < j
    deeper-less h =
        by_cases (dec_lt i j)
        (λ g. g)
        (λ g. absurd (⊎_elim (λ d. no_less g d) (λ d. no_same g d.0 d.1) (deeper-is p (node_at p i) (node_at p j) h)))
      where
        no_less : (i < j → ⊥) → (node_at p i).height < (node_at p j).height → ⊥
        no_less g d =
            by_cases (ℕ_discrete i j)
            (λ q. let u = ap (λ (z : ℕ). (node_at p z).height) q in absurd (omega arith))
            (λ q. ⊎_elim (λ z. omega arith) (λ z. let y = z.0 in omega arith) (node-order p j i (omega arith) a))

        no_same : (i < j → ⊥) → (node_at p i).height ≡ (node_at p j).height → patch_at p (node_at p i).first < patch_at p (node_at p j).first → ⊥
        no_same g d e =
            by_cases (ℕ_discrete i j)
            (λ q. let v = ap (λ (z : ℕ). patch_at p (node_at p z).first) q in absurd (omega arith))
            (λ q.
            ⊎_elim
            (λ z. omega arith)
            (λ z. let r = numbers-rise j i b a k l z.1 in omega arith)
            (node-order p j i (omega arith) a))

  -- a pass to a deeper patch is one to a leaf of a smaller number
  deeper-pass :
      (j : ℕ) → j < length (nodes p) → leaf_node p j ≡ true → {v : ℕ} → Memᴰ v (deeper_passes p (node_at p j)) →
      (k : ℕ) × (k < length (nodes p)) × (leaf_node p k ≡ true) × (k < j) × (pass p (node_at p j).first (node_at p k).first ≡ v)
  deeper-pass j jb jl m =
      let (n, i, e) = Memᴰ.of_map (λ m. pass p (node_at p j).first m.first) (select (λ m. deeper p m (node_at p j)) (patch_nodes p)) m in
      let (q, t) = select-mem (λ m. deeper p m (node_at p j)) (patch_nodes p) i in
      let (k, kb, kl, g) = patch-leaf-node p q in (
        k,
        kb,
        kl,
        deeper-less k j kb jb kl jl (subst (λ (n : Node). deeper p n (node_at p j) ≡ true) (sym g) t),
        ap (λ (n : Node). pass p (node_at p j).first n.first) g ∙ e,
      )

  -- the node s, of which j is the least
  module _ (s j : ℕ) (sb : s < length (nodes p)) (l : Least p s j) where
    jb : j < length (nodes p)
    jb = up_from sb l.below

    jl : leaf_node p j ≡ true
    jl = least-leaf p ok s j sb l

    y : ℕ
    y = (node_at p j).first

    -- a pass from j below the father of s stays below s, so it reaches no smaller leaf
    father-bound :
        father p s < length (nodes p) → (k : ℕ) → k < length (nodes p) → leaf_node p k ≡ true → k < j →
        (node_at p (father p s)).height ≤ pass p y (node_at p k).first
    unfolding y
    father-bound fb k kb kl h =
        by_cases (dec_le (node_at p (father p s)).height v)
        (λ g. g)
        (λ g.
        let c = pass-joined p ok y z yw zw in
        let low = pass-byte p ok y z yw zw in
        let t = under-is p v y low (conn-source c) in
        let hj = (conn-source c).low in
        let hk = (conn-target c).low in
        let vj = leaf-value p ok j jb jl in
        let vk = leaf-value p ok k kb kl in
        let uj = joined-up p ok v y j low jb (omega arith) (start (conn-source c)) in
        let uk = joined-up p ok v y k low kb (omega arith) c in
        absurd (⊎_elim (λ d. apart (up-trans d uk)) (λ d. higher t.low d uk g) (up-chain l.below uj)))
      where
        z : ℕ
        z = (node_at p k).first

        v : ℕ
        v = pass p y z

        yw : y < places p
        yw = (node-is p j jb).place.within

        zw : z < places p
        zw = (node-is p k kb).place.within

        apart : Below p s k → ⊥
        apart d = let q = l.least k d in omega arith

        higher : {c : ℕ} → (node_at p c).height ≤ v → Below p c s → Below p c k → ((node_at p (father p s)).height ≤ v → ⊥) → ⊥
        higher b stay w g = apart w
        higher b (rise a f u) w g = let q = up-height p ok u in g (omega arith)

    -- with another least node below the father, the climb ends there
    pub climb-father :
        father p s < length (nodes p) → (w : ℕ) → Least p (father p s) w → w ≢ j → climb_of p (node_at p j) ≡ (node_at p (father p s)).height
    unfolding climb_of y
    climb-father fb w k d =
        lowest-is (highest p.pixels) (deeper_passes p (node_at p j))
        (subst (λ (v : ℕ). Memᴰ v (deeper_passes p (node_at p j))) ends
        (Memᴰ.map (λ m. pass p y m.first)
        (mem-select (λ m. deeper p m (node_at p j)) (patch_nodes p) (leaf-node-patch p w wb wl) (less-deeper w j wb jb wl jl less))))
        (λ v m.
        let (i, ib, il, h, e) = deeper-pass j jb jl m in
        subst (λ (v : ℕ). (node_at p f).height ≤ v) e (father-bound fb i ib il h))
      where
        f : ℕ
        f = father p s

        under : Below p f j
        under = up-trans (rise sb fb stay) l.below

        wb : w < length (nodes p)
        wb = up_from fb k.below

        wl : leaf_node p w ≡ true
        wl = least-leaf p ok f w fb k

        less : w < j
        less = let q = k.least j under in by_cases (dec_lt w j) (λ g. g) (λ g. absurd (d (omega arith)))

        joined : Joined p (node_at p f).height y (node_at p w).first
        joined = conn-trans (up-joined p ok fb jb under) (joined-sym p (node_at p f).height (up-joined p ok fb wb k.below))

        ends : pass p y (node_at p w).first ≡ (node_at p f).height
        ends =
            let a = pass-most p y (node_at p w).first (node_at p f).height (node-is p f fb).low joined in
            let b = father-bound fb w wb wl less in
            omega arith

    -- the least node of the root is the deepest patch, whose climb is the largest value
    pub climb-root : father p s ≡ 65535 → climb_of p (node_at p j) ≡ highest p.pixels
    unfolding climb_of
    climb-root e =
        ap (λ (ns : List Node). lowest (highest p.pixels) (map (λ m. pass p (node_at p j).first m.first) ns))
        (select-none (λ m. deeper p m (node_at p j)) (patch_nodes p)
        (λ n m.
        test-false (deeper p n (node_at p j))
        (λ h.
        let (k, kb, kl, g) = patch-leaf-node p m in
        let less = deeper-less k j kb jb kl jl (subst (λ (n : Node). deeper p n (node_at p j) ≡ true) (sym g) h) in
        let q = l.least k (root-above p ok k s kb sb e) in
        omega arith)))

  -- a climb ends no lower than its patch, at a byte
  climb-between : (j : ℕ) → j < length (nodes p) → leaf_node p j ≡ true → ((node_at p j).height ≤ climb_of p (node_at p j)) × (climb_of p (node_at p j) ≤ 255)
  unfolding climb_of
  climb-between j b l =
      let v = leaf-value p ok j b l in
      on-lowest (λ (u : ℕ). ((node_at p j).height ≤ u) × (u ≤ 255)) (highest p.pixels) (deeper_passes p (node_at p j))
      (let h = highest-least p.pixels (node_at p j).first in (omega arith, highest-most 255 p.pixels (value-byte p ok)))
      (λ u m.
      let (k, kb, kl, h, e) = deeper-pass j b l m in
      let yw = (node-is p j b).place.within in
      let zw = (node-is p k kb).place.within in
      let low = (conn-source (pass-joined p ok (node_at p j).first (node_at p k).first yw zw)).low in
      let high = pass-byte p ok (node_at p j).first (node_at p k).first yw zw in
      (omega arith, omega arith))

  pub depth-byte : (j : ℕ) → j < length (nodes p) → leaf_node p j ≡ true → depth_of p (node_at p j) ≤ 255
  unfolding depth_of
  depth-byte j b l = let c = (climb-between j b l).1 in omega arith

  -- the pass is no higher between places that two places are joined to at their own values
  pass-moved :
      (x y u v : ℕ) → x < places p → y < places p → Joined p (value_at p x) x u → Joined p (value_at p y) y v → pass p u v ≤ pass p x y
  pass-moved x y u v xb yb a b =
      let c = pass-joined p ok x y xb yb in
      pass-most p u v (pass p x y) (pass-byte p ok x y xb yb)
      (conn-trans (joined-sym p (pass p x y) (joined-mono p (conn-source c).low a))
      (conn-trans c (joined-mono p (conn-target c).low b)))

  -- a place of a patch is joined to the first place at the value of both
  member-joined :
      (k x : ℕ) → k < length (nodes p) → leaf_node p k ≡ true → is_in x (component_of p (node_at p k)) ≡ true →
      Joined p (value_at p (node_at p k).first) (node_at p k).first x × Joined p (value_at p x) x (node_at p k).first
  unfolding leaf_node
  member-joined k x b l i =
      let s = (node-is p k b).place in
      let c = in-joined p (node_at p k).height (node_at p k).first x s i in
      let v = leaf-sound p (node_at p k).height (node_at p k).first s l x c in (
        subst (λ (z : ℕ). Joined p z (node_at p k).first x) (sym (leaf-value p ok k b l)) c,
        subst (λ (z : ℕ). Joined p z x (node_at p k).first) (sym v) (joined-sym p (node_at p k).height c),
      )

  member-pass :
      (k l x y : ℕ) → k < length (nodes p) → l < length (nodes p) → leaf_node p k ≡ true → leaf_node p l ≡ true →
      is_in x (component_of p (node_at p k)) ≡ true → is_in y (component_of p (node_at p l)) ≡ true →
      pass p x y ≡ pass p (node_at p k).first (node_at p l).first
  member-pass k l x y kb lb kl ll i j =
      let u = (node_at p k).first in
      let v = (node_at p l).first in
      let (c, d) = member-joined k x kb kl i in
      let (e, f) = member-joined l y lb ll j in
      let low = pass-moved x y u v (conn-source d).within (conn-source f).within d f in
      let high = pass-moved u v x y (conn-source c).within (conn-source e).within c e in
      omega arith

pub pass-to-patch : Pass-to-patch
pass-to-patch p h n m x y b i =
    let ok = accepted-is p h in
    let (k, kb, kl, e) = patch-leaf-node p m in
    let (c, d) = member-joined p ok k y kb kl (subst (λ (o : Node). is_in y (component_of p o) ≡ true) (sym e) i) in
    let own = start (at_own p x b) in
    let low = pass-moved p ok x y x (node_at p k).first b (conn-source d).within own d in
    let high = pass-moved p ok x (node_at p k).first x y b (conn-source c).within own c in
    let q = ap (λ (o : Node). pass p x o.first) e in
    omega arith

pub climbs-above : Climbs-above
climbs-above p h n m =
    let ok = accepted-is p h in
    let (k, b, l, e) = patch-leaf-node p m in
    subst (λ (n : Node). n.height ≤ climb_of p n) e (climb-between p ok k b l).0

pub passes-of-patches : Passes-of-patches
passes-of-patches p h m n a b x y i j =
    let (k, kb, kl, e) = patch-leaf-node p a in
    let (l, lb, ll, q) = patch-leaf-node p b in
    member-pass p (accepted-is p h) k l x y kb lb kl ll
    (subst (λ (o : Node). is_in x (component_of p o) ≡ true) (sym e) i)
    (subst (λ (o : Node). is_in y (component_of p o) ≡ true) (sym q) j) ∙
    ap₂ (λ (u v : Node). pass p u.first v.first) e q

-- the deepest patch is the leaf of number 0
pub deepest-one : Deepest-one
deepest-one p h = (node_at p 0, record { patch = patch; none = none; others = others }, only)
  where
    ok : Accepted p
    ok = accepted-is p h

    root : ℕ
    root = length (nodes p) - 1

    b : 0 < length (nodes p)
    b = let m = map_found p ok 0 (places-some p ok) in omega arith

    l : leaf_node p 0 ≡ true
    l =
        let c : root < length (nodes p) = omega (arith, b) in
        least-leaf p ok root 0 c
        (record { below = root-above p ok 0 root b c (last-root p ok root (omega (arith, b))); least = λ k u. omega arith })

    patch : Memᴰ (node_at p 0) (patch_nodes p)
    patch = leaf-node-patch p 0 b l

    none : (m : Node) → Memᴰ m (patch_nodes p) → deeper p m (node_at p 0) ≡ false
    none m i =
        let (k, kb, kl, e) = patch-leaf-node p i in
        test-false (deeper p m (node_at p 0))
        (λ d. let q = deeper-less p ok k 0 kb b kl l (subst (λ (n : Node). deeper p n (node_at p 0) ≡ true) (sym e) d) in omega arith)

    others : (m : Node) → Memᴰ m (patch_nodes p) → m ≢ node_at p 0 → deeper p (node_at p 0) m ≡ true
    others m i d =
        let (k, kb, kl, e) = patch-leaf-node p i in
        let z : k ≢ 0 = λ q. d (sym e ∙ ap (node_at p) q) in
        subst (λ (n : Node). deeper p (node_at p 0) n ≡ true) e (less-deeper p ok 0 k b kb l kl (omega (arith, z)))

    only : (m : Node) → Deepest p m → m ≡ node_at p 0
    only m d =
        let (k, kb, kl, e) = patch-leaf-node p d.patch in
        by_cases (ℕ_discrete k 0)
        (λ q. sym e ∙ ap (node_at p) q)
        (λ q.
        absurd
        (clash
        (subst (λ (n : Node). deeper p (node_at p 0) n ≡ true) e (less-deeper p ok 0 k b kb l kl (omega (arith, q))))
        (d.none (node_at p 0) patch)))
