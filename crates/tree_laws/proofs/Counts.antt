-- How many nodes lie below a height, that those of the height follow them, and where a node of a height stands.
use mathlib.Core.Path.{◌≡◌, refl, sym, ap, subst, ◌∙◌}
use mathlib.Core.Logic.{⊎_elim, by_cases}
use mathlib.Core.List.{List, [], ◌++◌, append_assoc}
use Prim.Native.Nat.{ℕ, zero, suc, ◌+◌, ◌-◌, ◌≤◌, ◌<◌}
use native.Mathlib.Decide.{dec_lt, le_ind}
use native.Mathlib.Omega.{arith}
use lib.ListN.{length, get_or, length-append, length-map, get_or-append}
use lib.Seq.{get_or-append-add}
use Rattle.picture.specs.Pictures.{Picture, places}
use Rattle.picture.specs.Trees.{Node, nodes_at, nodes_from, nodes, node_at}
use Rattle.lists.specs.Lists.{select, range}
use Rattle.lists.proofs.Lists.{get_d_map}
use Rattle.topology.proofs.Nodes.{node, is_node, nodes-at, nodes-few, node-order}

-- the number of nodes below height k
unfoldable pub so_far : Picture → ℕ → ℕ
so_far p k = length (nodes_from k 0 p)

module _ (p : Picture) where
  from-split : (a b k : ℕ) → nodes_from (a + b) k p ≡ nodes_from a k p ++ nodes_from b (a + k) p
  from-split zero b k =
      let e : zero + b ≡ b = omega arith in
      let g : zero + k ≡ k = omega arith in
      ap (λ (m : ℕ). nodes_from m k p) e ∙ sym (ap (λ (m : ℕ). nodes_from b m p) g)
  from-split (suc a) b k =
      let e : suc a + b ≡ suc (a + b) = omega arith in
      let g : a + suc k ≡ suc a + k = omega arith in
      ap (λ (m : ℕ). nodes_from m k p) e ∙
      (ap (λ (l : List Node). nodes_at p k ++ l) (from-split a b (suc k)) ∙
      (sym (append_assoc (nodes_at p k) (nodes_from a (suc k) p) (nodes_from b (a + suc k) p)) ∙
      ap (λ (m : ℕ). (nodes_at p k ++ nodes_from a (suc k) p) ++ nodes_from b m p) g))

  nodes-split : (k : ℕ) → k ≤ 256 → nodes p ≡ nodes_from k 0 p ++ nodes_from (256 - k) k p
  unfolding nodes
  nodes-split k b =
      let e : 256 ≡ k + (256 - k) = omega arith in
      let g : k + 0 ≡ k = omega arith in
      ap (λ (m : ℕ). nodes_from m 0 p) e ∙
      (from-split k (256 - k) 0 ∙ ap (λ (m : ℕ). nodes_from k 0 p ++ nodes_from (256 - k) m p) g)

  pub so-none : so_far p 0 ≡ 0
  unfolding so_far
  so-none = refl

  pub so-all : so_far p 256 ≡ length (nodes p)
  unfolding so_far nodes
  so-all = refl

  pub so-few : (k : ℕ) → k ≤ 256 → so_far p k ≤ length (nodes p)
  unfolding so_far
  so-few k b =
      let e = ap length (nodes-split k b) in
      let g = length-append (nodes_from k 0 p) (nodes_from (256 - k) k p) in
      omega arith

  pub so-places : (k : ℕ) → k ≤ 256 → so_far p k ≤ places p
  so-places k b = let a = so-few k b in let c = nodes-few p in omega arith

  rest-split : (k : ℕ) → k ≤ 255 → nodes_from (256 - k) k p ≡ nodes_at p k ++ nodes_from (255 - k) (suc k) p
  rest-split k b =
      let e : 256 - k ≡ suc (255 - k) = omega arith in ap (λ (m : ℕ). nodes_from m k p) e

  pub so-next : (k : ℕ) → so_far p (suc k) ≡ so_far p k + length (nodes_at p k)
  unfolding so_far
  so-next k =
      let e : suc k ≡ k + 1 = omega arith in
      let g : k + 0 ≡ k = omega arith in
      ap (λ (m : ℕ). length (nodes_from m 0 p)) e ∙
      (ap length (from-split k 1 0) ∙
      (length-append (nodes_from k 0 p) (nodes_from 1 (k + 0) p) ∙
      ap (λ (m : ℕ). length (nodes_from k 0 p) + m)
      (length-append (nodes_at p (k + 0)) [] ∙
      let h : length (nodes_at p (k + 0)) ≡ length (nodes_at p k) = ap (λ (m : ℕ). length (nodes_at p m)) g in
      omega arith)))

  -- the nodes of height k follow those below it
  pub so-at : (k j : ℕ) → k ≤ 255 → j < length (nodes_at p k) → node_at p (so_far p k + j) ≡ get_or (nodes_at p k) j (node 0 0)
  unfolding so_far
  so-at k j b h =
      ap (λ (l : List Node). get_or l (length (nodes_from k 0 p) + j) (node 0 0)) (nodes-split k (omega arith)) ∙
      (get_or-append-add (nodes_from k 0 p) (nodes_from (256 - k) k p) j (node 0 0) ∙
      (ap (λ (l : List Node). get_or l j (node 0 0)) (rest-split k b) ∙
      get_or-append (nodes_at p k) (nodes_from (255 - k) (suc k) p) (node 0 0) j h))

  -- the nodes below a height are no more than those below a greater one
  so-mono : (j k : ℕ) → j ≤ k → so_far p j ≤ so_far p k
  so-mono j k h = le_ind (λ m. so_far p j ≤ so_far p m) (omega arith) (λ m b g. let e = so-next m in omega arith) k h

  -- the number of a node lies among those of its height
  record AtHeight (i : ℕ) : Type 0 where
    from : so_far p (node_at p i).height ≤ i
    to : i < so_far p (suc (node_at p i).height)

  node-stands : (k i : ℕ) → k ≤ 256 → i < so_far p k → AtHeight i
  node-stands zero i b h = absurd (let e = so-none in omega arith)
  node-stands (suc k) i b h =
      by_cases (dec_lt i (so_far p k))
      (λ g. node-stands k i (omega arith) g)
      (λ g.
      let chosen : List ℕ = select (is_node p k) (range 0 (places p)) in
      let j : i ≡ so_far p k + (i - so_far p k) = omega arith in
      let size : length (nodes_at p k) ≡ length chosen = ap length (nodes-at p k) ∙ length-map chosen (node k) in
      let next = so-next k in
      let is : node_at p i ≡ node k (get_or chosen (i - so_far p k) 0) =
      ap (node_at p) j ∙
      (so-at k (i - so_far p k) (omega arith) (omega arith) ∙
      (ap (λ (l : List Node). get_or l (i - so_far p k) (node 0 0)) (nodes-at p k) ∙
      get_d_map (node k) 0 (node 0 0) chosen (i - so_far p k) (omega arith)))
      in
      let e : k ≡ (node_at p i).height = ap (λ (n : Node). n.height) (sym is) in
      record { from = subst (λ (m : ℕ). so_far p m ≤ i) e (omega arith); to = subst (λ (m : ℕ). i < so_far p (suc m)) e h })

  -- from the first number of height k on, heights are at least k
  pub height-least : (k i : ℕ) → so_far p k ≤ i → i < length (nodes p) → k ≤ (node_at p i).height
  height-least k i h b =
      let s = node-stands 256 i (omega arith) (let e = so-all in omega arith) in
      let to = s.to in
      by_cases (dec_lt (node_at p i).height k)
      (λ g. absurd (let a = so-mono (suc (node_at p i).height) k g in omega arith))
      (λ g. omega arith)

  -- before the first number of height k, heights are below k
  pub height-below : (k i : ℕ) → i < so_far p k → i < length (nodes p) → (node_at p i).height < k
  height-below k i h b =
      let s = node-stands 256 i (omega arith) (let e = so-all in omega arith) in
      let from = s.from in
      by_cases (dec_lt (node_at p i).height k)
      (λ g. g)
      (λ g. absurd (let a = so-mono k (node_at p i).height (omega arith) in omega arith))

-- first places rise within a height
pub firsts-rise : (p : Picture) (i j : ℕ) → i < j → j < length (nodes p) → (node_at p i).height ≡ (node_at p j).height → (node_at p i).first < (node_at p j).first
firsts-rise p i j h b e = ⊎_elim (λ g. absurd (omega arith)) (λ g. g.1) (node-order p i j h b)
