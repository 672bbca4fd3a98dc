-- The nodes of the tree: which components they are, each found by its number, no more of them than places.
use mathlib.Core.Path.{◌≡◌, refl, sym, ap, ap₂, subst, ◌∙◌}
use mathlib.Core.Bool.{Bool, false, ◌&&◌, not}
use mathlib.Core.Logic.{◌⊎◌, inl, inr, ⊎_elim, by_cases}
use mathlib.Core.List.Memᴰ
use mathlib.Core.List.{List, [], ◌∷◌, ◌++◌, map, map-map, Memᴰ}
use Prim.Native.Nat.{ℕ, zero, suc, ◌+◌, ◌≤◌, ◌<◌}
use native.Mathlib.Decide.{dec_lt}
use native.Mathlib.Omega.{arith}
use lib.Dec.{eqb}
use lib.ListN.{length, get_or}
use borrow.Author.Tests.{eqb-true, eqb-false, eq-eqb, not-true}
use Rattle.lists.specs.Lists.{select, range, head_of}
use Rattle.picture.specs.Pictures.{Picture, places, value_at}
use Rattle.picture.specs.Components.{component_at}
use Rattle.picture.specs.Trees.{Node, is_branch, nodes_at, nodes_from, nodes, node_at, component_of, number_from, number_of}
use Rattle.lists.proofs.Tests.{and_left, and_right, and_both, on_test, on-elim, not_of_false, clash}
use Rattle.lists.proofs.Lists.{select-map, select-select}
use Rattle.lists.proofs.Rising.{Rising, none, more, rising-select, select-below, below-select}
use Rattle.topology.proofs.Connected.{conn-target}
use Rattle.topology.proofs.Adjacency.{At}
use Rattle.topology.proofs.Reached.{first_at, component-same, first-joined, first-same, first-at}
use Rattle.topology.proofs.Parts.{is_first, first-is, first-true, components-are}
use Rattle.topology.proofs.Branches.{own-pixel}
use Rattle.lists.proofs.Indices.{mem_index, index-mem, map_same, pigeonhole}

-- the node of a height and a first place
abbrev pub node : ℕ → ℕ → Node
node k y = record { height = k; first = y }

-- y is the first place of a leaf or a fork of height k
unfoldable pub is_node : Picture → ℕ → ℕ → Bool
is_node p k y = is_first p k y && not (is_branch p k (component_at p k y))

-- what a node of the tree is
pub record IsNode (p : Picture) (n : Node) : Type 0 where
  pub low : n.height ≤ 255
  pub place : At p n.height n.first
  pub first : first_at p n.height n.first ≡ n.first
  pub fork : is_branch p n.height (component_of p n) ≡ false

module _ (p : Picture) where
  pub nodes-at : (k : ℕ) → nodes_at p k ≡ map (node k) (select (is_node p k) (range 0 (places p)))
  unfolding nodes_at is_node first_at
  nodes-at k =
      ap (λ (l : List (List ℕ)). map named (select free l)) (components-are p k) ∙
      (ap (map named) (select-map free (component_at p k) (select (is_first p k) (range 0 (places p)))) ∙
      (map-map named (component_at p k) (select (λ x. free (component_at p k x)) (select (is_first p k) (range 0 (places p)))) ∙
      (ap (map (λ x. named (component_at p k x))) (select-select (is_first p k) (λ x. free (component_at p k x)) (range 0 (places p))) ∙
      map_same (λ x. named (component_at p k x)) (node k) (select (is_node p k) (range 0 (places p)))
      (λ x m.
      let (b, h) = select-below (is_node p k) (places p) m in
      ap (node k) (first-is p k x b (and_left (is_first p k x) (free (component_at p k x)) h)).1))))
    where
      named : List ℕ → Node
      named c = node k (head_of c)

      free : List ℕ → Bool
      free c = not (is_branch p k c)

  mem-at : (k : ℕ) {n : Node} → k ≤ 255 → Memᴰ n (nodes_at p k) → IsNode p n
  unfolding is_node
  mem-at k {n} b m =
      let (y, i, e) =
      Memᴰ.of_map (node k) (select (is_node p k) (range 0 (places p)))
      (subst (λ (l : List Node). Memᴰ n l) (nodes-at k) m)
      in
      let (c, h) = select-below (is_node p k) (places p) i in
      let (s, q) = first-is p k y c (and_left (is_first p k y) (not (is_branch p k (component_at p k y))) h) in
      subst (IsNode p) e
      (record {
        low = b;
        place = s;
        first = q;
        fork = not-true (is_branch p k (component_at p k y)) (and_right (is_first p k y) (not (is_branch p k (component_at p k y))) h);
      })

  at_mem : (k y : ℕ) → At p k y → is_branch p k (component_at p k y) ≡ false → Memᴰ (node k (first_at p k y)) (nodes_at p k)
  unfolding is_node
  at_mem k y s h =
      let z = first_at p k y in
      subst (λ (l : List Node). Memᴰ (node k z) l) (sym (nodes-at k))
      (Memᴰ.map (node k)
      (below-select (is_node p k) (places p) (first-at p k y s).within
      (and_both
      (first-true p k y s)
      (not_of_false (is_branch p k (component_at p k z))
      (ap (is_branch p k) (sym (component-same p k (first-joined p k y s))) ∙ h)))))

  mem-from : (l k : ℕ) {n : Node} → l + k ≤ 256 → Memᴰ n (nodes_from l k p) → IsNode p n
  mem-from zero k b m = absurd (Memᴰ.not-nil m)
  mem-from (suc l) k b m =
      ⊎_elim (λ i. mem-at k (omega arith) i) (λ i. mem-from l (suc k) (omega arith) i)
      (Memᴰ.append_cases (nodes_at p k) m)

  from-mem : (l k h y : ℕ) → k ≤ h → h < l + k → At p h y → is_branch p h (component_at p h y) ≡ false → Memᴰ (node h (first_at p h y)) (nodes_from l k p)
  from-mem zero k h y a b s e = absurd (omega arith)
  from-mem (suc l) k h y a b s e =
      on_test (eqb k h)
      (λ q.
      Memᴰ.append_left (nodes_from l (suc k) p)
      (subst (λ (j : ℕ). Memᴰ (node h (first_at p h y)) (nodes_at p j)) (sym (eqb-true k h q)) (at_mem h y s e)))
      (λ q.
      let d = eqb-false k h q in
      Memᴰ.append_right (nodes_at p k) (from-mem l (suc k) h y (omega arith) (omega arith) s e))

  pub nodes-mem : {n : Node} → Memᴰ n (nodes p) → IsNode p n
  unfolding nodes
  nodes-mem m = mem-from 256 0 (omega arith) m

  pub mem-nodes : (k y : ℕ) → k ≤ 255 → At p k y → is_branch p k (component_at p k y) ≡ false → Memᴰ (node k (first_at p k y)) (nodes p)
  unfolding nodes
  mem-nodes k y b s e = from-mem 256 0 k y (omega arith) (omega arith) s e

  pub node-is : (i : ℕ) → i < length (nodes p) → IsNode p (node_at p i)
  node-is i h = nodes-mem (index-mem (node 0 0) (nodes p) i h)

-- by height, then by first place, from (k, y) on
pub data Sorted : ℕ → ℕ → List Node → Type 0 where
  end : {k y : ℕ} → Sorted k y []
  next : {k y : ℕ} {n : Node} {ns : List Node} → (k < n.height) ⊎ ((k ≡ n.height) × (y ≤ n.first)) → Sorted n.height (suc n.first) ns → Sorted k y (n ∷ ns)

sorted-weaken : {j k y : ℕ} {ns : List Node} → j < k → (x : ℕ) → Sorted k y ns → Sorted j x ns
sorted-weaken h x end = end
sorted-weaken {j} h x (next {n = n} g s) =
    let q : j < n.height = ⊎_elim (λ a. omega arith) (λ a. let b = a.0 in omega arith) g in next (inl q) s

sorted-append : {a k : ℕ} {l : List ℕ} {ms : List Node} → Rising a l → Sorted (suc k) 0 ms → Sorted k a (map (node k) l ++ ms)
sorted-append none s = sorted-weaken (omega arith) _ s
sorted-append (more h r) s = next (inr (refl, h)) (sorted-append r s)

sorted-from : (p : Picture) (l k : ℕ) → Sorted k 0 (nodes_from l k p)
sorted-from p zero k = end
sorted-from p (suc l) k =
    subst (λ (ns : List Node). Sorted k 0 (ns ++ nodes_from l (suc k) p)) (sym (nodes-at p k))
    (sorted-append (rising-select (is_node p k) 0 (places p)) (sorted-from p l (suc k)))

pub nodes-sorted : (p : Picture) → Sorted 0 0 (nodes p)
unfolding nodes
nodes-sorted p = sorted-from p 256 0

pub sorted-later : {k y : ℕ} {ns : List Node} → Sorted k y ns → (i : ℕ) → i < length ns → (k < (get_or ns i (node 0 0)).height) ⊎ ((k ≡ (get_or ns i (node 0 0)).height) × (y ≤ (get_or ns i (node 0 0)).first))
sorted-later end i h = absurd (omega arith)
sorted-later (next g s) zero h = g
sorted-later {k} {y} (next {n = n} {ns} g s) (suc i) h =
    ⊎_elim
    (λ a. inl (⊎_elim (λ b. omega arith) (λ b. let c = b.0 in omega arith) g))
    (λ a.
    let e = a.0 in
    let q = a.1 in
    ⊎_elim (λ b. inl (omega arith)) (λ b. let c = b.0 in let d = b.1 in inr (omega arith, omega arith)) g)
    (sorted-later s i (omega arith))

sorted-order :
    {k y : ℕ} {ns : List Node} → Sorted k y ns → (i j : ℕ) → i < j → j < length ns →
    ((get_or ns i (node 0 0)).height < (get_or ns j (node 0 0)).height) ⊎
    (((get_or ns i (node 0 0)).height ≡ (get_or ns j (node 0 0)).height) × ((get_or ns i (node 0 0)).first < (get_or ns j (node 0 0)).first))
sorted-order end i j a b = absurd (omega arith)
sorted-order (next g s) i zero a b = absurd (omega arith)
sorted-order (next g s) zero (suc j) a b = sorted-later s j (omega arith)
sorted-order (next g s) (suc i) (suc j) a b = sorted-order s i j (omega arith) (omega arith)

-- the number of a node is its index
number-index : {k y : ℕ} {ns : List Node} → Sorted k y ns → (b i : ℕ) → i < length ns → number_from b (get_or ns i (node 0 0)).height (get_or ns i (node 0 0)).first ns ≡ b + i
number-index end b i h = absurd (omega arith)
number-index (next {n = n} {ns} g s) b zero h =
    on-elim (λ (m : ℕ). m ≡ b + 0) (eqb n.height n.height && eqb n.first n.first)
    (λ e. omega arith)
    (λ e.
    absurd
    (clash
    (and_both (eq-eqb n.height n.height refl) (eq-eqb n.first n.first refl))
    e))
number-index (next {n = n} {ns} g s) b (suc i) h =
    on-elim (λ (m : ℕ). m ≡ b + suc i) (eqb n.height (get_or ns i (node 0 0)).height && eqb n.first (get_or ns i (node 0 0)).first)
    (λ e.
    let p = eqb-true n.height (get_or ns i (node 0 0)).height (and_left (eqb n.height (get_or ns i (node 0 0)).height) _ e) in
    let q = eqb-true n.first (get_or ns i (node 0 0)).first (and_right (eqb n.height (get_or ns i (node 0 0)).height) _ e) in
    absurd (⊎_elim (λ a. omega arith) (λ a. let c = a.1 in omega arith) (sorted-later s i (omega arith))))
    (λ e. number-index s (suc b) i (omega arith) ∙ omega arith)

module _ (p : Picture) where
  pub number_at : (i : ℕ) → i < length (nodes p) → number_from 0 (node_at p i).height (node_at p i).first (nodes p) ≡ i
  number_at i h = number-index (nodes-sorted p) 0 i h ∙ omega arith

  -- a node of a smaller number is lower, or as high with a smaller first place
  pub node-order :
      (i j : ℕ) → i < j → j < length (nodes p) →
      ((node_at p i).height < (node_at p j).height) ⊎ (((node_at p i).height ≡ (node_at p j).height) × ((node_at p i).first < (node_at p j).first))
  node-order i j a b = sorted-order (nodes-sorted p) i j a b

  -- heights rise with the numbers
  pub heights-rise : (i j : ℕ) → i ≤ j → j < length (nodes p) → (node_at p i).height ≤ (node_at p j).height
  heights-rise i j a b =
      by_cases (dec_lt i j)
      (λ h. ⊎_elim (λ g. omega arith) (λ g. let e = g.0 in omega arith) (node-order i j h b))
      (λ h. let e : i ≡ j = omega arith in let q = ap (λ (k : ℕ). (node_at p k).height) e in omega arith)

  pub node-equal : (i j : ℕ) → i < length (nodes p) → j < length (nodes p) → node_at p i ≡ node_at p j → i ≡ j
  node-equal i j a b e =
      sym (number_at i a) ∙ (ap (λ (n : Node). number_from 0 n.height n.first (nodes p)) e ∙ number_at j b)

  -- a component that is no branch has a number, and the node of that number is it
  pub number-found :
      (k y : ℕ) → k ≤ 255 → At p k y → is_branch p k (component_at p k y) ≡ false →
      (number_of p k (component_at p k y) < length (nodes p)) × (node_at p (number_of p k (component_at p k y)) ≡ node k (first_at p k y))
  unfolding first_at
  number-found k y b s e =
      let (i, h, q) = mem_index (node 0 0) (mem-nodes p k y b s e) in
      let w : number_of p k (component_at p k y) ≡ i =
      sym (ap (λ (n : Node). number_from 0 n.height n.first (nodes p)) q) ∙ number_at i h
      in
      (omega arith, ap (node_at p) w ∙ q)

  -- a pixel of a node's own height that is in its component belongs to no other node
  Owns : ℕ → ℕ → Type 0
  Owns i z = node_at p i ≡ node (value_at p z) (first_at p (value_at p z) z)

  -- no more nodes than places
  pub nodes-few : length (nodes p) ≤ places p
  unfolding Owns
  nodes-few =
      pigeonhole (places p) (length (nodes p)) Owns
      (λ i h.
      let n = node-is p i h in
      let (z, c, v) = own-pixel p (node_at p i).height (node_at p i).first n.place n.fork in (
        z,
        (conn-target c).within,
        ap₂ node (sym v)
            (sym n.first ∙ (first-same p (node_at p i).height c ∙ ap (λ (k : ℕ). first_at p k z) (sym v))),
      ))
      (λ i j z a b r s. node-equal i j a b (r ∙ sym s))
