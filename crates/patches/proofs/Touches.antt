-- The nearest patch from the arrays: the least number of the leaves at or below the node of a place; which numbers of handbooks touch alike.
use Rattle.std.proofs.Common.{◌≡◌, refl, sym, ap, subst, ◌∙◌, Bool, true, false, ◌&&◌, List, ℕ, ◌*◌, ◌<◌, arith, eqb, length}
use Rattle.lists.specs.Lists.{pick}
use Rattle.lists.specs.Blocks.{block_entry}
use Rattle.picture.specs.Pictures.{Picture, places}
use Rattle.picture.specs.Trees.{nodes, node_at, map_of}
use Rattle.picture.specs.Patches.{patch_at, nearest_patch, touched_patch}
use Rattle.lists.proofs.Tests.{on_test}
use Rattle.topology.proofs.Accepted.{Accepted, accepted-is}
use Rattle.topology.proofs.Nodes.{node-is}
use Rattle.topology.proofs.Descent.{map_found}
use Rattle.topology.proofs.Climb.{Up, up_same, up_from}
use Rattle.topology.proofs.PatchSums.{patch-most}
use Rattle.topology.proofs.LeafNodes.{leaf_node}
use Rattle.topology.proofs.LeavesBelow.{Below, some-leaf}
use Rattle.topology.proofs.Nearest.{nearest-leaf}
use Rattle.least_labels.specs.LeastLabels.{LeastOf, LeastLabel}
use Rattle.least_labels.proofs.Labels.{least-same}
use Rattle.tree.specs.Arrays.{TreeIn}
use Rattle.patch_numbers.specs.Numbers.{Leaves}
use Rattle.patches.specs.Figures.{TreeInWork}
use Rattle.patches.proofs.LeafNumbers.{leaf-number, fork-number}
use Rattle.patches.proofs.FigureLaws.{tree-few, numbered-tree, numbered-rise}

-- the leaves numbered, and every other node with v, which is above every patch number
module _ (p : Picture) (count : ℕ) (work : List ℕ) (t : TreeInWork p count work) (v r : ℕ) (a : List ℕ) (l : Leaves (places p) count v work r a) (above : places p < v) where
  ok : Accepted p
  ok = accepted-is p t.accepted

  label : ℕ → ℕ
  label = block_entry a (4 * places p)

  leaf-label : (j : ℕ) → j < length (nodes p) → leaf_node p j ≡ true → label j ≡ patch_at p (node_at p j).first
  unfolding label
  leaf-label j b f = leaf-number p ok work t.tree count v r a t.number l j b f

  fork-label : (j : ℕ) → j < length (nodes p) → leaf_node p j ≡ false → label j ≡ v
  unfolding label
  fork-label j b f = fork-number p ok work t.tree count v r a t.number l j b f

  -- the least label at or below the node of a place is that of its nearest patch
  module _ (x q : ℕ) (b : x < places p) (least : LeastOf (Below p (map_of p x)) label q) where
    node-few : map_of p x < length (nodes p)
    node-few = map_found p ok x b

    -- some leaf is there, and its number is below v
    low : q < v
    low =
        let (j, f, u) = some-leaf p ok (map_of p x) node-few in
        let c = up_from node-few u in
        let m = patch-most p ok (node_at p j).first (node-is p j c).place.within in
        omega (arith, least.least j u, leaf-label j c f)

    least-nearest : q ≡ nearest_patch p x
    least-nearest =
        on_test (leaf_node p j)
        (λ f.
        sym least.is ∙
        (leaf-label j c f ∙
        sym (nearest-leaf p ok x b j f least.within
        (λ k g u.
        let kb = up_from node-few u in
        omega (arith, least.least k u, least.is, leaf-label j c f, leaf-label k kb g)))))
        (λ f. absurd (omega (arith, low, least.is, fork-label j c f)))
      where
        j : ℕ
        j = least.node

        c : j < length (nodes p)
        c = up_from node-few least.within

  -- the same by the fathers in the array
  module _ (x : ℕ) (b : x < places p) where
    abbrev here : ℕ
    here = block_entry a (2 * places p) x

    tree : TreeIn p a
    tree = numbered-tree p count work t v r a l

    there : (j : ℕ) → Up (block_entry a (places p)) count here j → Below p (map_of p x) j
    there j u =
        subst (λ (m : ℕ). Below p m j) (tree.map x b)
        (up_same tree.fathers (subst (λ (c : ℕ). Up (block_entry a (places p)) c here j) t.number u))

    back : (j : ℕ) → Below p (map_of p x) j → Up (block_entry a (places p)) count here j
    back j u =
        subst (λ (c : ℕ). Up (block_entry a (places p)) c here j) (sym t.number)
        (up_same (λ i h. sym (tree.fathers i h)) (subst (λ (m : ℕ). Below p m j) (sym (tree.map x b)) u))

    pub numbered-nearest : (m q : ℕ) → m ≡ here → LeastLabel (places p) m a q → q ≡ nearest_patch p x
    unfolding label
    numbered-nearest m q e k =
        let node = map_found p ok x b in
        least-nearest x q b
        (least-same there back refl
        (subst (λ (m : ℕ). LeastOf (Up (block_entry a (places p)) count m) (block_entry a (4 * places p)) q) e
        (k count (tree-few p count work t) (omega (arith, tree.map x b, t.number)) (numbered-rise p count work t v r a l))))

-- the patch of a touch depends on the handbook by whether it is 5 alone
pub touched-alike : (a b : ℕ) (p : Picture) (x : ℕ) → eqb a 5 ≡ eqb b 5 → touched_patch a p x ≡ touched_patch b p x
unfolding touched_patch
touched-alike a b p x e = ap (λ (five : Bool). pick (five && eqb (patch_at p x) 0) (nearest_patch p x) (patch_at p x)) e
