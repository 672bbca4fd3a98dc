-- The blocks of the tree copied into lists.
use Rattle.std.proofs.Common.{◌≡◌, sym, ap, subst, ◌∙◌, List, ℕ, ◌+◌, ◌*◌, ◌≤◌, ◌<◌, arith, length, get_or, take, get_or-take, length-take-le}
use Rattle.picture.specs.Pictures.{Picture, places}
use Rattle.picture.specs.Trees.{nodes, node_at, tree_of}
use Rattle.topology.proofs.Nodes.{nodes-few, node-is}
use Rattle.topology.proofs.TreeLists.{length-heights, length-fathers, length-firsts, length-map-of, heights-at, fathers-at, firsts_at, map_at}
use Rattle.lists.specs.Lists.{over}
use Rattle.lists.proofs.Cuts.{over-same}
use Rattle.lists.proofs.Blocks.{overwritten-front}
use Rattle.lists.specs.Blocks.{block_entry, Copied}
use Rattle.tree.specs.Built.{Built}
use Rattle.tree_lists.specs.Lists.{Bytes, TreeHanded}

module _ (p : Picture) (r : ℕ) (work after cells left : List ℕ) (built : Built p r work after cells left) where
  -- there are no more nodes than places, and their heights are bytes
  pub built-few : r ≤ places p
  built-few = let e = built.count in let f = nodes-few p in omega arith

  pub built-taken : 4 * places p ≤ length work → length (take r after) ≡ r
  built-taken h = length-take-le r after (omega (arith, built-few, built.room))

  taken-height : (i : ℕ) → i < r → get_or (take r after) i 0 ≡ (node_at p i).height
  taken-height i h =
      get_or-take r after i 0 h ∙
      (ap (λ (j : ℕ). get_or after j 0) {y = 0 + i} (omega arith) ∙ built.tree.heights i (subst (λ (n : ℕ). i < n) built.count h))

  pub built-bytes : Bytes r (take r after)
  built-bytes =
      record {
        byte =
            λ i h.
            let b : i < length (nodes p) = subst (λ (n : ℕ). i < n) built.count h in
            let l = (node-is p i b).low in
            omega (arith, taken-height i h, l);
      }

  -- the lists of the tree from its blocks
  module _ (old new : List ℕ) (room : places p ≤ length old) where
    enough : r ≤ length old
    enough = let f = built-few in omega arith

    below : (i : ℕ) → i < r → i < length (nodes p)
    below i h = subst (λ (n : ℕ). i < n) built.count h

    pub heights-handed : Copied (take r after) 0 r old new → new ≡ over (tree_of p).heights old
    heights-handed c =
        overwritten-front _ old new r (tree_of p).heights (length-heights p ∙ sym built.count) enough
        (λ i h.
        ap (λ (j : ℕ). get_or (take r after) j 0) {x = 0 + i} (omega arith) ∙ (taken-height i h ∙ sym (heights-at p i (below i h))))
        c

    pub fathers-handed : (n : ℕ) → n ≡ places p → Copied after n r old new → new ≡ over (tree_of p).fathers old
    fathers-handed n e c =
        overwritten-front _ old new r (tree_of p).fathers (length-fathers p ∙ sym built.count) enough
        (λ i h. ap (λ (k : ℕ). block_entry after k i) e ∙ (built.tree.fathers i (below i h) ∙ sym (fathers-at p i (below i h))))
        c

    pub firsts-handed : (n : ℕ) → n ≡ places p → Copied after (3 * n) r old new → new ≡ over (tree_of p).firsts old
    firsts-handed n e c =
        overwritten-front _ old new r (tree_of p).firsts (length-firsts p ∙ sym built.count) enough
        (λ i h. ap (λ (k : ℕ). block_entry after (3 * k) i) e ∙ (built.tree.firsts i (below i h) ∙ sym (firsts_at p i (below i h))))
        c

  -- the map stands where the union-find had its cells
  pub map-handed :
      (n : ℕ) (new : List ℕ) → n ≡ places p → places p ≤ length cells → Copied after (2 * n) n left new → new ≡ over (tree_of p).map cells
  map-handed n new e room c =
      let s = built.size in
      overwritten-front _ left new n (tree_of p).map (length-map-of p ∙ sym e) (omega (arith, s, e, room))
      (λ x h. let b : x < places p = omega (arith, e, h) in ap (λ (k : ℕ). block_entry after (2 * k) x) e ∙ (built.tree.map x b ∙ sym (map_at p x b)))
      c ∙
      over-same (places p) (tree_of p).map (length-map-of p) left cells built.rest

  pub handed-over : TreeHanded p r work after
  handed-over = record { count = built.count; room = built.room; beyond = built.beyond }
