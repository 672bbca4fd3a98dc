-- The nodes below a node: which has the least number, that it is a leaf, and where it ceases to be the least on the way up.
use mathlib.Core.Path.{◌≡◌, refl, sym, ap, subst}
use mathlib.Core.Bool.{Bool, true}
use mathlib.Core.Logic.{⊎_elim, by_cases}
use mathlib.Core.List.{Memᴰ}
use Prim.Native.Nat.{ℕ, zero, suc, ◌+◌, ◌-◌, ◌≤◌, ◌<◌}
use native.Mathlib.Decide.{ℕ_discrete, dec_lt}
use native.Mathlib.Omega.{arith}
use lib.Dec.{eqb}
use lib.ListN.{length}
use borrow.Author.Tests.{eqb-true, eq-eqb}
use Rattle.lists.specs.Lists.{any, select, range}
use Rattle.picture.specs.Pictures.{Picture, value_at}
use Rattle.picture.specs.Trees.{Node, nodes, node_at, is_leaf}
use Rattle.picture.specs.Patches.{patch_nodes}
use Rattle.lists.proofs.Tests.{on_test, clash}
use Rattle.lists.proofs.Lists.{any-mem, mem-any, select-mem, mem-select, range-mem, mem-range}
use Rattle.lists.proofs.Indices.{mem_index, index-mem}
use Rattle.topology.proofs.Keeping.{sec-mono}
use Rattle.topology.proofs.Adjacency.{Joined}
use Rattle.topology.proofs.Accepted.{Accepted}
use Rattle.topology.proofs.Nodes.{node, node-is}
use Rattle.topology.proofs.Fathers.{number_small}
use Rattle.topology.proofs.Descent.{under, under_same}
use Rattle.topology.proofs.Grid.{picture-joined}
use Rattle.topology.proofs.Climb.{Up, stay, rise, up-trans, up-chain, up_from, up_same, up-rises, father, father-higher, father-greater, root_is, under-node, under-climbs, Reach, up-reach, reach-joined}
use Rattle.topology.proofs.ByFirst.{by-first-mem, mem-by-first}
use Rattle.topology.proofs.Leaves.{leaf_at}
use Rattle.topology.proofs.LeafNodes.{leaf_node, leaf-bottom, father-leaf, childless-leaf}

-- j has the least number of s and the nodes below it, by the fathers P of m nodes
pub record LeastBelow (P : ℕ → ℕ) (m s j : ℕ) : Type 0 where
  pub below : Up P m s j
  pub least : (k : ℕ) → Up P m s k → j ≤ k

module _ {P : ℕ → ℕ} {m : ℕ} where
  pub least-same-fathers : {Q : ℕ → ℕ} → ((i : ℕ) → i < m → P i ≡ Q i) → {a j : ℕ} → LeastBelow P m a j → LeastBelow Q m a j
  least-same-fathers e l =
      record { below = up_same e l.below; least = λ k u. l.least k (up_same (λ i h. sym (e i h)) u) }

  pub least-one : {s j k : ℕ} → LeastBelow P m s j → LeastBelow P m s k → j ≡ k
  least-one a b = let x = a.least _ b.below in let y = b.least _ a.below in omega arith

  -- on the way from s up to a node with the same least node it stays the least
  least-between : {a s j : ℕ} → s < m → P s < m → LeastBelow P m s j → LeastBelow P m a j → Up P m a (P s) → LeastBelow P m (P s) j
  least-between h f l k u =
      record { below = up-trans (rise h f stay) l.below; least = λ i v. k.least i (up-trans u v) }

-- fathers with greater numbers
module _ {P : ℕ → ℕ} {m : ℕ} (rises : (i : ℕ) → i < m → P i < m → i < P i) where
  -- a node up to i with the same least node, whose father has another or comes behind i, is i
  pub least-last : {i s j : ℕ} → LeastBelow P m i j → LeastBelow P m s j → s ≤ i → (LeastBelow P m (P s) j → i < P s) → s ≡ i
  least-last {i} {s} {j} k l h f = ⊎_elim (λ u. above u l f) (λ u. let q = up-rises rises u in omega arith) (up-chain k.below l.below)
    where
      above : {s : ℕ} → Up P m i s → LeastBelow P m s j → (LeastBelow P m (P s) j → i < P s) → s ≡ i
      above stay l f = refl
      above (rise x y u) l f = let q = f (least-between x y l k u) in let w = up-rises rises u in absurd (omega arith)

  -- a node of which j is the least, whose father has another least or is no node
  pub record ChainEnd (j : ℕ) : Type 0 where
    pub last : ℕ
    pub within : last < m
    pub least : LeastBelow P m last j
    pub ends : LeastBelow P m (P last) j → m ≤ P last

  chain-from :
      ((a : ℕ) → a < m → (w : ℕ) × LeastBelow P m a w) → (l s j : ℕ) → m ≤ l + s → s < m → LeastBelow P m s j → ChainEnd j
  chain-from f zero s j a b c = absurd (omega arith)
  chain-from f (suc l) s j a b c =
      by_cases (dec_lt (P s) m)
      (λ h.
      let (w, k) = f (P s) h in
      let g = rises s b h in
      by_cases (ℕ_discrete w j)
      (λ e. chain-from f l (P s) j (omega arith) h (subst (LeastBelow P m (P s)) e k))
      (λ e. record { last = s; within = b; least = c; ends = λ d. absurd (e (least-one k d)) }))
      (λ h. record { last = s; within = b; least = c; ends = λ d. omega arith })

  pub chain-end : ((a : ℕ) → a < m → (w : ℕ) × LeastBelow P m a w) → (j : ℕ) → j < m → LeastBelow P m j j → ChainEnd j
  chain-end f j b c = chain-from f m j j (omega arith) b c

module _ (p : Picture) where
  -- j is the node a or lies below it
  abbrev pub Below : ℕ → ℕ → Type 0
  Below a j = Up (father p) (length (nodes p)) a j

  -- j has the least number of the node a and those below it
  abbrev pub Least : ℕ → ℕ → Type 0
  Least a j = LeastBelow (father p) (length (nodes p)) a j

  -- the patches are the leaves
  pub patch-leaf-node : {n : Node} → Memᴰ n (patch_nodes p) → (k : ℕ) × (k < length (nodes p)) × (leaf_node p k ≡ true) × (node_at p k ≡ n)
  unfolding patch_nodes leaf_node leaf_at is_leaf
  patch-leaf-node {n} m =
      let (i, l) = select-mem (is_leaf p) (nodes p) (by-first-mem (select (is_leaf p) (nodes p)) m) in
      let (k, b, e) = mem_index (node 0 0) i in
      (k, b, subst (λ (q : Node). is_leaf p q ≡ true) (sym e) l, e)

  pub leaf-node-patch : (k : ℕ) → k < length (nodes p) → leaf_node p k ≡ true → Memᴰ (node_at p k) (patch_nodes p)
  unfolding patch_nodes leaf_node leaf_at is_leaf
  leaf-node-patch k b l =
      mem-by-first (select (is_leaf p) (nodes p)) (mem-select (is_leaf p) (nodes p) (index-mem (node 0 0) (nodes p) k b) l)

module _ (p : Picture) (ok : Accepted p) where
  pub up-height : {a i : ℕ} → Below p a i → (node_at p i).height ≤ (node_at p a).height
  up-height stay = omega arith
  up-height (rise {a} h f u) =
      let g = father-higher p a h (number_small p ok (father p a) f) in
      let w = up-height u in
      omega arith

  -- a node is joined to each ancestor at the ancestor's height
  pub up-joined :
      {a i : ℕ} → a < length (nodes p) → i < length (nodes p) → Below p a i →
      Joined p (node_at p a).height (node_at p i).first (node_at p a).first
  up-joined {a} {i} b c u =
      let n = node-is p i c in
      let own : Reach p ok (node_at p i).first i =
      record { height = (node_at p i).height; low = n.low; place = n.place; is = under-node p ok i c } in
      reach-joined p ok (node_at p i).first a (up-reach p ok (node_at p i).first own u) (node_at p a).height (node-is p a b).low (omega arith)
      (sec-mono (up-height u) (node_at p i).first n.place)

  -- a node in a component lies below the node that the component goes down to
  pub joined-up :
      (k x i : ℕ) → k ≤ 255 → i < length (nodes p) → (node_at p i).height ≤ k → Joined p k x (node_at p i).first →
      Below p (under p k x) i
  joined-up k x i b c h j =
      let g : (k - (node_at p i).height) + (node_at p i).height ≡ k = omega arith in
      subst (λ (r : ℕ). Below p r i) (sym (under_same p j))
      (subst (λ (r : ℕ). Below p (under p k (node_at p i).first) r) (under-node p ok i c)
      (subst (λ (r : ℕ). Below p (under p r (node_at p i).first) (under p (node_at p i).height (node_at p i).first)) g
      (under-climbs p ok (k - (node_at p i).height) (node_at p i).height (node_at p i).first (omega arith) (node-is p i c).place)))

  -- a leaf's height is the value of its first place
  pub leaf-value : (j : ℕ) → j < length (nodes p) → leaf_node p j ≡ true → value_at p (node_at p j).first ≡ (node_at p j).height
  leaf-value j b l = sym (ap (λ (n : Node). n.height) (leaf-bottom p ok j b l).0)

  -- nothing else lies below a leaf
  pub leaf-alone : {a j : ℕ} → leaf_node p a ≡ true → Below p a j → j ≡ a
  leaf-alone l stay = refl
  leaf-alone {a} l (rise {a = i} h f u) =
      let e = leaf-alone l u in
      absurd (clash l (father-leaf p ok a i (omega arith) h e))

  pub leaf-least : (j : ℕ) → leaf_node p j ≡ true → Least p j j
  leaf-least j l = record { below = stay; least = λ k u. let e = leaf-alone l u in omega arith }

  -- some leaf lies below each node
  leaf-below : (l i : ℕ) → i < l → i < length (nodes p) → (j : ℕ) × (leaf_node p j ≡ true) × Below p i j
  leaf-below zero i h b = absurd (omega arith)
  leaf-below (suc l) i h b =
      on_test (any son (range 0 (length (nodes p))))
      (λ e.
      let (s, m, t) = any-mem son (range 0 (length (nodes p))) e in
      let r = range-mem 0 (length (nodes p)) m in
      let q = eqb-true (father p s) i t in
      let sb : s < length (nodes p) = omega arith in
      let fb : father p s < length (nodes p) = omega arith in
      let g = father-greater p ok s sb fb in
      let (j, k, u) = leaf-below l s (omega arith) sb in
      (j, k, up-trans {a = j} (subst (λ (z : ℕ). Below p z s) q (rise sb fb stay)) u))
      (λ e. (i, childless-leaf p ok i b (λ j c q. clash (is-son j c q) e), stay))
    where
      son : ℕ → Bool
      son j = eqb (father p j) i

      is-son : (j : ℕ) → j < length (nodes p) → father p j ≡ i → any son (range 0 (length (nodes p))) ≡ true
      is-son j c q = mem-any son (mem-range 0 (length (nodes p)) (omega arith) (omega arith)) (eq-eqb (father p j) i q)

  pub some-leaf : (i : ℕ) → i < length (nodes p) → (j : ℕ) × (leaf_node p j ≡ true) × Below p i j
  some-leaf i b = leaf-below (suc i) i (omega arith) b

  -- the least node below another is a leaf
  pub least-leaf : (s j : ℕ) → s < length (nodes p) → Least p s j → leaf_node p j ≡ true
  least-leaf s j b l =
      let jb = up_from b l.below in
      let (k, t, u) = some-leaf j jb in
      let low = up-rises (father-greater p ok) u in
      let high = l.least k (up-trans l.below u) in
      let e : k ≡ j = omega arith in
      subst (λ (z : ℕ). leaf_node p z ≡ true) e t

  -- every node lies below the root
  pub root-above : (j s : ℕ) → j < length (nodes p) → s < length (nodes p) → father p s ≡ 65535 → Below p s j
  root-above j s b c e =
      let n = node-is p j b in
      subst (λ (r : ℕ). Below p r j) (sym (root_is p ok s c e))
      (joined-up 255 0 j (omega arith) b n.low (picture-joined p ok (node_at p j).first n.place.within))
