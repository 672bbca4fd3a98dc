-- The patches of a picture are the minima, found at their first places, rising.
use mathlib.Core.Path.{◌≡◌, refl, sym, ap, ap₂, subst, ◌∙◌}
use mathlib.Core.Bool.{Bool, true, false, ◌&&◌}
use mathlib.Core.Logic.{⊎_elim, ◌≢◌}
use mathlib.Core.List.Memᴰ
use mathlib.Core.List.{List, [], ◌∷◌, map, Memᴰ}
use Prim.Native.Nat.{ℕ, zero, suc, ◌<◌}
use native.Mathlib.Omega.{arith}
use lib.Dec.{eqb}
use lib.ListN.{length}
use borrow.Author.Tests.{eqb-true, eq-eqb}
use Rattle.lists.specs.Lists.{select, range, is_in, head_of}
use Rattle.picture.specs.Pictures.{Picture, places, value_at}
use Rattle.picture.specs.Components.{component_at, components}
use Rattle.picture.specs.Trees.{Node, below, is_branch, nodes, is_leaf}
use Rattle.picture.specs.Patches.{by_first, patch_nodes}
use Rattle.lists.proofs.Tests.{and_left, and_right, and_both, on_test, test-false}
use Rattle.lists.proofs.Lists.{select_in, select-out, select-mem, mem-select, length-select, tally-none}
use Rattle.lists.proofs.Rising.{rising-is-select}
use Rattle.topology.proofs.Connected.{start, conn-target}
use Rattle.topology.proofs.Adjacency.{At, Joined}
use Rattle.topology.proofs.Accepted.{Accepted, value-byte}
use Rattle.topology.proofs.Reached.{first_at, component-same, first-joined, first-same, first-first}
use Rattle.topology.proofs.Parts.{is_first, first-is, is-first, components-mem}
use Rattle.topology.proofs.Branches.{below-joined}
use Rattle.lists.proofs.Indices.{mem_index}
use Rattle.topology.proofs.Nodes.{node, nodes-mem, mem-nodes, Sorted, end, next, nodes-sorted, sorted-later}
use Rattle.topology.proofs.ByFirst.{Apart, alone, beside, firsts, by-first-mem, by-first-rising, mem-by-first}
use Rattle.topology.proofs.Minima.{leaf-flat}

-- the component of height k with x contains none of the height below
unfoldable pub leaf_at : Picture → ℕ → ℕ → Bool
leaf_at p k x = eqb (length (below p k (component_at p k x))) 0

-- x is the first place of a minimum
unfoldable pub bottom : Picture → ℕ → Bool
bottom p x = is_first p (value_at p x) x && leaf_at p (value_at p x) x

-- the leaf whose first place is x
abbrev pub leaf : Picture → ℕ → Node
leaf p x = node (value_at p x) x

module _ (p : Picture) where
  pub leaf-sound : (k x : ℕ) → At p k x → leaf_at p k x ≡ true → (y : ℕ) → Joined p k x y → value_at p y ≡ k
  unfolding leaf_at
  leaf-sound k x s h = leaf-flat p k x s (eqb-true (length (below p k (component_at p k x))) 0 h)

  pub leaf-complete : (k x : ℕ) → At p k x → ((y : ℕ) → Joined p k x y → value_at p y ≡ k) → leaf_at p k x ≡ true
  unfolding leaf_at
  leaf-complete zero x s f = refl
  leaf-complete (suc j) x s f =
      eq-eqb (length (below p (suc j) (component_at p (suc j) x))) 0
      (length-select inside (components p j) ∙
      tally-none inside (components p j)
      (λ c m.
      let (y, t, e) = components-mem p j m in
      test-false (inside c)
      (λ h.
      let g = below-joined p j x s y t (subst (λ (d : List ℕ). inside d ≡ true) (sym e) h) in
      let v = f y g in
      let l = t.low in
      omega arith)))
    where
      inside : List ℕ → Bool
      inside d = is_in (head_of d) (component_at p (suc j) x)

  pub leaf-same : {k x y : ℕ} → Joined p k x y → leaf_at p k x ≡ leaf_at p k y
  unfolding leaf_at
  leaf-same {k} c = ap (λ (d : List ℕ). eqb (length (below p k d)) 0) (component-same p k c)

  pub leaf-no-branch : (k x : ℕ) → leaf_at p k x ≡ true → is_branch p k (component_at p k x) ≡ false
  unfolding leaf_at is_branch
  leaf-no-branch k x h =
      test-false (eqb (length (below p k (component_at p k x))) 1)
      (λ g.
      let a = eqb-true (length (below p k (component_at p k x))) 0 h in
      let b = eqb-true (length (below p k (component_at p k x))) 1 g in
      omega arith)

  -- what the first place of a minimum is
  pub bottom-is : (x : ℕ) → x < places p → bottom p x ≡ true → At p (value_at p x) x × (first_at p (value_at p x) x ≡ x) × (leaf_at p (value_at p x) x ≡ true)
  unfolding bottom
  bottom-is x b h =
      let (s, e) = first-is p (value_at p x) x b (and_left (is_first p (value_at p x) x) (leaf_at p (value_at p x) x) h) in
      (s, e, and_right (is_first p (value_at p x) x) (leaf_at p (value_at p x) x) h)

  -- the same by the height of the minimum
  pub bottom-at :
      (k x : ℕ) → x < places p → bottom p x ≡ true → value_at p x ≡ k → At p k x × (first_at p k x ≡ x) × (leaf_at p k x ≡ true)
  bottom-at k x b h v = subst (λ (l : ℕ). At p l x × (first_at p l x ≡ x) × (leaf_at p l x ≡ true)) v (bottom-is x b h)

  -- first places of minima of one height that are joined are the same
  pub bottom-one :
      (k x y : ℕ) → x < places p → y < places p → bottom p x ≡ true → bottom p y ≡ true → value_at p x ≡ k → value_at p y ≡ k →
      Joined p k x y → x ≡ y
  bottom-one k x y xb yb bx by vx vy c =
      sym (bottom-at k x xb bx vx).1 ∙ (first-same p k c ∙ (bottom-at k y yb by vy).1)

  pub is-bottom : (k x : ℕ) → At p k x → first_at p k x ≡ x → leaf_at p k x ≡ true → bottom p x ≡ true
  unfolding bottom
  is-bottom k x s e l =
      subst (λ (j : ℕ). is_first p j x && leaf_at p j x ≡ true) (sym (leaf-sound k x s l x (start s))) (and_both (is-first p k x s e) l)

  -- the first place of the minimum of a pixel
  pub first-bottom : (k x : ℕ) → At p k x → leaf_at p k x ≡ true → (bottom p (first_at p k x) ≡ true) × (value_at p (first_at p k x) ≡ k)
  first-bottom k x s l =
      let c = first-joined p k x s in (
        is-bottom k (first_at p k x) (conn-target c) (first-first p k x s) (sym (leaf-same c) ∙ l),
        leaf-sound k x s l (first_at p k x) c,
      )

  -- a leaf of the tree is known by its first place
  pub leaf-node : {n : Node} → Memᴰ n (nodes p) → is_leaf p n ≡ true → (n ≡ leaf p n.first) × (bottom p n.first ≡ true)
  unfolding is_leaf leaf_at
  leaf-node {n} m l =
      let i = nodes-mem p m in (
        ap (λ (k : ℕ). node k n.first) (sym (leaf-sound n.height n.first i.place l n.first (start i.place))),
        is-bottom n.height n.first i.place i.first l,
      )

  bottom-node : Accepted p → (x : ℕ) → x < places p → bottom p x ≡ true → Memᴰ (leaf p x) (nodes p) × (is_leaf p (leaf p x) ≡ true)
  unfolding is_leaf leaf_at
  bottom-node ok x b h =
      let (s, e, l) = bottom-is x b h in (
        subst (λ (y : ℕ). Memᴰ (node (value_at p x) y) (nodes p)) e
            (mem-nodes p (value_at p x) x (value-byte p ok x) s (leaf-no-branch (value_at p x) x l)),
        l,
      )

-- two leaves of the sorted nodes have different first places
leaves-apart :
    (p : Picture) {k y : ℕ} {ns : List Node} → Sorted k y ns → ((n : Node) → Memᴰ n ns → is_leaf p n ≡ true → n.height ≡ value_at p n.first) →
    Apart (select (is_leaf p) ns)
leaves-apart p end f = alone
leaves-apart p (next {n = n} {ns} g s) f =
    let r = leaves-apart p s (λ m i. f m (Memᴰ.tail i)) in
    on_test (is_leaf p n)
    (λ e. subst Apart (sym (select_in (is_leaf p) n ns e)) (beside (λ m i. distinct m i e) r))
    (λ e. subst Apart (sym (select-out (is_leaf p) n ns e)) r)
  where
    distinct : (m : Node) → Memᴰ m (select (is_leaf p) ns) → is_leaf p n ≡ true → m.first ≢ n.first
    distinct m i e q =
        let (j, l) = select-mem (is_leaf p) ns i in
        let hm = f m (Memᴰ.tail j) l in
        let hn = f n (Memᴰ.head refl) e in
        let v = ap (value_at p) q in
        let (c, b, w) = mem_index (node 0 0) j in
        let wh = ap (λ (z : Node). z.height) w in
        let wf = ap (λ (z : Node). z.first) w in
        ⊎_elim (λ a. omega arith) (λ a. let z = a.1 in omega arith) (sorted-later s c b)

-- the leaves by first place
pub patch-nodes-are : (p : Picture) → Accepted p → patch_nodes p ≡ map (leaf p) (select (bottom p) (range 0 (places p)))
unfolding patch_nodes
patch-nodes-are p ok =
    known (by_first leaves) (λ n i. by-first-mem leaves i) ∙
    ap (map (leaf p)) (rising-is-select (bottom p) (places p) (by-first-rising apart) begins begun)
  where
    leaves : List Node
    leaves = select (is_leaf p) (nodes p)

    apart : Apart leaves
    apart = leaves-apart p (nodes-sorted p) (λ n i l. ap (λ (m : Node). m.height) (leaf-node p i l).0)

    known : (ns : List Node) → ((n : Node) → Memᴰ n ns → Memᴰ n leaves) → ns ≡ map (leaf p) (firsts ns)
    known [] f = refl
    known (n ∷ ns) f =
        let (j, l) = select-mem (is_leaf p) (nodes p) (f n (Memᴰ.head refl)) in
        ap₂ (λ (m : Node) (ms : List Node). m ∷ ms) (leaf-node p j l).0 (known ns (λ m i. f m (Memᴰ.tail i)))

    begins : (y : ℕ) → Memᴰ y (firsts (by_first leaves)) → (y < places p) × (bottom p y ≡ true)
    begins y h =
        let (n, i, e) = Memᴰ.of_map (λ m. m.first) (by_first leaves) h in
        let (j, l) = select-mem (is_leaf p) (nodes p) (by-first-mem leaves i) in
        let b = (nodes-mem p j).place.within in
        (omega arith, subst (λ (z : ℕ). bottom p z ≡ true) e (leaf-node p j l).1)

    begun : (y : ℕ) → y < places p → bottom p y ≡ true → Memᴰ y (firsts (by_first leaves))
    begun y b h =
        let (j, l) = bottom-node p ok y b h in
        Memᴰ.map (λ m. m.first) (mem-by-first leaves (mem-select (is_leaf p) (nodes p) j l))
