-- The arrays of a picture's tree give its patches: leaves by marks, patches by the numbers of leaves.
use Rattle.std.proofs.Common.{◌≡◌, sym, ap, subst, ◌∙◌, true, false, ◌⊎◌, inl, inr, List, ℕ, suc, ◌*◌, ◌≤◌, ◌<◌, zero-add, arith, length, get_or}
use Rattle.std.proofs.Math.Logic.{by_cases}
use Rattle.std.proofs.Math.Decide.{ℕ_discrete}
use Rattle.lists.specs.Lists.{tally, range}
use Rattle.picture.specs.Pictures.{Picture, places, value_at}
use Rattle.picture.specs.Trees.{Node, nodes, node_at, map_of}
use Rattle.picture.specs.Patches.{patch_at}
use Rattle.lists.specs.Blocks.{block_entry}
use Rattle.tree.specs.Arrays.{TreeIn}
use Rattle.lists.proofs.Tests.{on_test, same_test, clash, pick-in, pick_out}
use Rattle.lists.proofs.Lists.{tally-same, range-mem}
use Rattle.topology.proofs.Accepted.{Accepted}
use Rattle.topology.proofs.Nodes.{nodes-few, node-is}
use Rattle.topology.proofs.Descent.{map_found}
use Rattle.topology.proofs.Leaves.{bottom}
use Rattle.topology.proofs.PatchFigures.{bottom-number}
use Rattle.topology.proofs.LeafNodes.{leaf_node, leaf-bottom, bottom-map, bottom-leaf, leaf-mapped, map-bottom, patch-leaf, patch-line, father-leaf, childless-leaf}
use Rattle.patch_numbers.specs.Numbers.{starts, Leaves, patch_in}
use Rattle.patch_numbers.proofs.Numbering.{kept_row, starts-true, starts_is, patch-is}

-- the height of a node stands in the first block
pub height-at : (p : Picture) (work : List ℕ) → TreeIn p work → (i : ℕ) → i < length (nodes p) → get_or work i 0 ≡ (node_at p i).height
height-at p work t i h = ap (λ (j : ℕ). get_or work j 0) (sym (zero-add i)) ∙ t.heights i h

module _ (p : Picture) (ok : Accepted p) (work : List ℕ) (t : TreeIn p work) where
  abbrev n : ℕ
  n = places p

  pub map-in : (x : ℕ) → x < n → block_entry work (2 * n) x < n
  map-in x h =
      let a = t.map x h in
      let b = map_found p ok x h in
      let c = nodes-few p in
      omega arith

  module _ (count v r : ℕ) (after : List ℕ) (c : count ≡ length (nodes p)) (l : Leaves n count v work r after) where
    -- a node has no mark exactly if it is a leaf
    free-leaf : (m : ℕ) → m < length (nodes p) → get_or l.marks m 0 ≡ 0 → leaf_node p m ≡ true
    free-leaf m b z =
        let few = nodes-few p in
        childless-leaf p ok m b (λ j d q. l.mark.free m (omega arith) z j (omega arith) (t.fathers j d ∙ q))

    leaf-free : (m : ℕ) → m < length (nodes p) → leaf_node p m ≡ true → get_or l.marks m 0 ≡ 0
    leaf-free m b h =
        let few = nodes-few p in
        by_cases (ℕ_discrete (get_or l.marks m 0) 0) (λ z. z)
        (λ d.
        let s = l.mark.taken m (omega arith) d in
        let w = s.within in
        let i : s.son < length (nodes p) = omega arith in
        absurd (clash h (father-leaf p ok m s.son b i (sym (t.fathers s.son i) ∙ s.father))))

    same_map : (x : ℕ) → x < n → block_entry l.filled (2 * n) x ≡ map_of p x
    same_map x h = kept_row (4 * n) n (2 * n) x l.fill.kept (omega arith) ∙ t.map x h

    same_first : (m : ℕ) → m < length (nodes p) → block_entry l.filled (3 * n) m ≡ (node_at p m).first
    same_first m h = let few = nodes-few p in kept_row (4 * n) n (3 * n) m l.fill.kept (omega arith) ∙ t.firsts m h

    -- the places that start a leaf are the first places of minima
    starts-bottom : (x : ℕ) → x < n → starts n l.filled l.marks x ≡ bottom p x
    starts-bottom x b =
        let m = map_of p x in
        let i = map_found p ok x b in
        let e = same_map x b in
        same_test (starts n l.filled l.marks x) (bottom p x)
        (λ s.
        let q = starts_is n l.filled l.marks x s in
        map-bottom p ok x b
        (sym (same_first m i) ∙ (ap (block_entry l.filled (3 * n)) (sym e) ∙ q.0))
        (free-leaf m i (ap (λ (j : ℕ). get_or l.marks j 0) (sym e) ∙ q.1)))
        (λ s.
        starts-true n l.filled l.marks x
        (ap (block_entry l.filled (3 * n)) e ∙ (same_first m i ∙ ap (λ (k : Node). k.first) (bottom-map p ok x b s)))
        (ap (λ (j : ℕ). get_or l.marks j 0) e ∙ leaf-free m i (bottom-leaf p ok x b s)))

    same-tally : (x : ℕ) → x ≤ n → tally (starts n l.filled l.marks) (range 0 x) ≡ tally (bottom p) (range 0 x)
    same-tally x h =
        tally-same (starts n l.filled l.marks) (bottom p) (range 0 x)
        (λ y m. let b = range-mem 0 x m in starts-bottom y (omega arith))

    -- the number of a leaf is that of the patch that begins there
    pub leaf-number : (m : ℕ) → m < length (nodes p) → leaf_node p m ≡ true → block_entry after (4 * n) m ≡ patch_at p (node_at p m).first
    leaf-number m b h =
        let z = (node_at p m).first in
        let (k, q) = leaf-bottom p ok m b h in
        let zb = (node-is p m b).place.within in
        ap (block_entry after (4 * n)) (sym (same_map z zb ∙ leaf-mapped p ok m b h)) ∙
        (l.numbers.number z zb (starts-bottom z zb ∙ q) ∙ (ap suc (same-tally z (omega arith)) ∙ sym (bottom-number p ok z zb q)))

    -- and of every other node v
    pub fork-number : (m : ℕ) → m < length (nodes p) → leaf_node p m ≡ false → block_entry after (4 * n) m ≡ v
    fork-number m b h =
        let few = nodes-few p in
        l.numbers.other m (omega arith)
        (λ z zb s q.
        let i : map_of p z ≡ m = sym (same_map z zb) ∙ q in
        clash (subst (λ (j : ℕ). leaf_node p j ≡ true) i (bottom-leaf p ok z zb (sym (starts-bottom z zb) ∙ s))) h) ∙
        l.fill.inside m (omega arith)

    -- the place has its patch number, or it is on the line and has v, the number of a node that is no leaf
    pub leaves-patch : (x : ℕ) → x < n → (patch_in n p.pixels after x ≡ patch_at p x) ⊎ ((patch_in n p.pixels after x ≡ v) × (patch_at p x ≡ 0))
    leaves-patch x b =
        let m = map_of p x in
        let i = map_found p ok x b in
        let few = nodes-few p in
        let mapped : m ≡ block_entry after (2 * n) x =
        sym (kept_row (4 * n) n (2 * n) x l.numbers.kept (omega arith) ∙ same_map x b)
        in
        let own : get_or after m 0 ≡ (node_at p m).height =
        l.numbers.kept.outside m (inl (omega arith)) ∙ (l.fill.kept.outside m (inl (omega arith)) ∙ height-at p work t m i)
        in
        let is = sym (patch-is n p.pixels after x m mapped) in
        by_cases (ℕ_discrete (value_at p x) (get_or after m 0))
        (λ e.
        let same = is ∙ pick-in _ _ _ _ e in
        on_test (leaf_node p m)
        (λ f. inl (same ∙ (leaf-number m i f ∙ sym (patch-leaf p ok x b (sym (e ∙ own)) f))))
        (λ f. inr (same ∙ fork-number m i f, patch-line p ok x b (λ u. f))))
        (λ e. inl (is ∙ (pick_out _ _ _ _ e ∙ sym (patch-line p ok x b (λ u. absurd (e (sym (own ∙ u))))))))
