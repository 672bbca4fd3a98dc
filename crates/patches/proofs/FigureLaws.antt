-- The laws of all figures together, and of the places on the line.
use Rattle.std.proofs.Common.{◌≡◌, refl, sym, ap, ◌∙◌, true, inl, inr, ⊎_elim, List, ℕ, ◌+◌, ◌*◌, ◌≤◌, ◌<◌, mul-le-mul_left, arith, eqb, length, get_or}
use Rattle.lists.specs.Lists.{pick, range, highest, tally}
use Rattle.picture.specs.Pictures.{Picture, places, is_picture}
use Rattle.picture.specs.Trees.{nodes, node_at}
use Rattle.picture.specs.Patches.{patches, patch_at, line_count}
use Rattle.tree.specs.Arrays.{TreeIn}
use Rattle.tree.specs.Built.{Built}
use Rattle.lists.proofs.Tests.{pick-in, pick_out}
use Rattle.lists.proofs.Lists.{tally-same, tally-map, by_index, range-mem}
use Rattle.topology.proofs.Accepted.{Accepted, accepted-is, places-bound}
use Rattle.topology.proofs.Nodes.{nodes-few, node-is}
use Rattle.topology.proofs.Fathers.{father-found}
use Rattle.topology.proofs.Climb.{father, father-greater}
use Rattle.topology.proofs.PatchFigures.{patches-count}
use Rattle.topology.proofs.PatchSums.{count-few, patch-most, patch-size, patch-columns, patch-rows}
use Rattle.lists.specs.Blocks.{block_entry, UntouchedOutside}
use Rattle.least_labels.specs.LeastLabels.{FathersRise}
use Rattle.climbs.specs.Climbs.{HeightsAndFathers, Climbs}
use Rattle.patch_numbers.specs.Numbers.{FiveBlocks, Mapped, Leaves, patch_in}
use Rattle.patch_sums.specs.Sums.{sizes, columns, rows, NumberedRows, Sums}
use Rattle.patches.specs.Figures.{TreeInWork, no_patch, PatchesNumbered, Patched, Figures, PatchMap}
use Rattle.patch_numbers.proofs.Numbering.{kept_row}
use Rattle.patches.proofs.LeafNumbers.{height-at, map-in, leaves-patch}

-- the tree is not touched by changes from the fifth block on
pub tree-kept : (p : Picture) (l m : List ℕ) → UntouchedOutside (4 * places p) (places p) l m → TreeIn p l → TreeIn p m
tree-kept p l m k t =
    let few = nodes-few p in
    record {
      heights = λ i h. kept_row (4 * places p) (places p) 0 i k (omega arith) ∙ t.heights i h;
      fathers = λ i h. kept_row (4 * places p) (places p) (places p) i k (omega arith) ∙ t.fathers i h;
      map = λ x h. kept_row (4 * places p) (places p) (2 * places p) x k (omega arith) ∙ t.map x h;
      firsts = λ i h. kept_row (4 * places p) (places p) (3 * places p) i k (omega arith) ∙ t.firsts i h;
    }

module _ (p : Picture) (count : ℕ) (work : List ℕ) (t : TreeInWork p count work) where
  ok : Accepted p
  ok = accepted-is p t.accepted

  pub tree-mapped : Mapped (places p) work
  tree-mapped = record { map = map-in p ok work t.tree }

  pub tree-few : count ≤ places p
  tree-few = let a = t.number in let b = nodes-few p in omega arith

  module _ (v r : ℕ) (a : List ℕ) (l : Leaves (places p) count v work r a) where
    pub numbered-tree : TreeIn p a
    numbered-tree = tree-kept p l.filled a l.numbers.kept (tree-kept p work l.filled l.fill.kept t.tree)

    pub numbered-mapped : Mapped (places p) a
    numbered-mapped = record { map = map-in p ok a numbered-tree }

    pub numbered-sizes : (cells : List ℕ) → FiveBlocks (places p) work cells → FiveBlocks (places p) a p.pixels
    numbered-sizes cells z =
        record { few = z.few; blocks = l.numbers.kept.size ∙ (l.fill.kept.size ∙ z.blocks); beside = ok.size }

    -- with 0 for the nodes that are no leaves they are the patches of the places; with a number above every patch's they are
    -- so where that is replaced by 0
    pub numbered-patch : v ≡ 0 → (x : ℕ) → x < places p → patch_in (places p) p.pixels a x ≡ patch_at p x
    numbered-patch zero x h = ⊎_elim (λ e. e) (λ e. e.0 ∙ (zero ∙ sym e.1)) (leaves-patch p ok work t.tree count v r a t.number l x h)

    pub numbered-or-0 :
        places p < v → (x : ℕ) → x < places p → pick (eqb (patch_in (places p) p.pixels a x) v) 0 (patch_in (places p) p.pixels a x) ≡ patch_at p x
    numbered-or-0 above x h =
        let most = patch-most p ok x h in
        ⊎_elim
        (λ e. pick_out _ v _ _ (λ q. absurd (omega arith)) ∙ e)
        (λ e. pick-in _ v _ _ e.0 ∙ sym e.1)
        (leaves-patch p ok work t.tree count v r a t.number l x h)

    -- what labels that are handed up ask
    pub numbered-rise : FathersRise (places p) count a
    numbered-rise =
        let q = t.number in
        record {
          rise =
              λ i h b.
              let ib : i < length (nodes p) = omega arith in
              let e = numbered-tree.fathers i ib in
              let g = father-greater p ok i ib (node-father i ib (omega arith)) in
              omega arith;
          within =
              λ i h b.
              let ib : i < length (nodes p) = omega arith in
              let e = numbered-tree.fathers i ib in
              let f = node-father i ib (omega arith) in
              omega arith;
        }
      where
        node-father : (i : ℕ) → i < length (nodes p) → father p i < places p → father p i < length (nodes p)
        node-father i b h =
            let bound = places-bound p ok in
            ⊎_elim (λ f. f) (λ f. let e = f.0 in absurd (omega arith)) (father-found p (node_at p i) (node-is p i b))

  -- the leaves numbered, and 0 for every other node
  module _ (r : ℕ) (a : List ℕ) (l : Leaves (places p) count 0 work r a) where
    -- what the climbs ask
    numbered-heights : (most : ℕ) → most ≡ highest p.pixels → HeightsAndFathers p (places p) count most a
    numbered-heights most e =
        record {
          accepted = t.accepted;
          size = refl;
          number = t.number;
          heights = height-at p a (numbered-tree 0 r a l);
          fathers = (numbered-tree 0 r a l).fathers;
          largest = e;
        }

    -- what they leave
    module _ (most : ℕ) (climbed : List ℕ) (k : Climbs (places p) count most a climbed) where
      climbed-map : (x : ℕ) → x < places p → block_entry climbed (2 * places p) x ≡ block_entry a (2 * places p) x
      climbed-map x h = k.kept.same (2 * places p + x) (inr (omega arith, omega arith))

      pub climbed-mapped : Mapped (places p) climbed
      climbed-mapped = record { map = λ x h. let e = climbed-map x h in let m = (numbered-mapped 0 r a l).map x h in omega arith }

      pub climbed-sizes : (cells : List ℕ) → FiveBlocks (places p) work cells → FiveBlocks (places p) climbed p.pixels
      climbed-sizes cells z =
          let s = numbered-sizes 0 r a l cells z in
          record { few = s.few; blocks = k.kept.size ∙ s.blocks; beside = s.beside }

    module _ (cells : List ℕ) (long : length cells ≡ places p) (m : (x : ℕ) → x < places p → get_or cells x 0 ≡ patch_in (places p) p.pixels a x) where
      mapped : PatchMap p cells
      mapped = record { size = long; patch = λ x h. m x h ∙ numbered-patch 0 r a l refl x h }

      patches-numbered :
          (most : ℕ) (climbed : List ℕ) → most ≡ highest p.pixels → Climbs (places p) count most a climbed →
          PatchesNumbered p (places p) p.pixels cells climbed
      patches-numbered most climbed e k =
          let few = nodes-few p in
          record {
            accepted = t.accepted;
            size = refl;
            same = refl;
            heights = λ i h. k.kept.same i (inl (omega arith)) ∙ height-at p a (numbered-tree 0 r a l) i h;
            mapped = λ x h. climbed-map most climbed k x h ∙ (numbered-tree 0 r a l).map x h;
            climbs = k.climbs p (numbered-heights most e);
            map = mapped;
          }

      pub patched-frame : NumberedRows p.width (places p) cells
      patched-frame =
          record {
            some = ok.some;
            wide = ok.wide;
            high = mul-le-mul_left p.width ok.high;
            size = long;
            most = λ x h. let q = mapped.patch x h in let u = patch-most p ok x h in omega arith;
          }

      pub figures-all :
          (most q : ℕ) (climbed b c : List ℕ) → most ≡ highest p.pixels → Climbs (places p) count most a climbed →
          Patched (places p) p.pixels cells (places p) climbed q b → Sums p.width (places p) (places p) cells b c → Figures p q c cells
      figures-all most q climbed b c e k f s =
          let g = f.begun p (patches-numbered most climbed e k) in
          let n : q ≡ length (patches p) = g.count ∙ sym (patches-count p ok) in
          let few = count-few p ok in
          record {
            count = n;
            size = λ i h. s.sum sizes i (omega arith) ∙ sym (patch-size p ok i no_patch (omega arith) cells mapped.patch);
            columns = λ i h. s.sum columns i (omega arith) ∙ sym (patch-columns p ok i no_patch (omega arith) cells mapped.patch);
            rows = λ i h. s.sum rows i (omega arith) ∙ sym (patch-rows p ok i no_patch (omega arith) cells mapped.patch);
            depth = λ i h. s.kept.outside (3 * places p + i) (inr (omega arith)) ∙ g.depth i h;
            height = λ i h. s.kept.outside (4 * places p + i) (inr (omega arith)) ∙ g.height i h;
            map = mapped;
          }

-- what the builder leaves
module _ (p : Picture) (r : ℕ) (work after cells left : List ℕ) (h : is_picture p ≡ true) (z : FiveBlocks (places p) work cells) (b : Built p r work after cells left) where
  pub built-tree : TreeInWork p r after
  built-tree = record { accepted = h; number = b.count; tree = b.tree }

  pub built-sizes : FiveBlocks (places p) after left
  built-sizes = record { few = z.few; blocks = b.room ∙ z.blocks; beside = b.size ∙ z.beside }

-- the places with no patch are those on the line
pub line-count : (p : Picture) (cells : List ℕ) → PatchMap p cells → tally (λ (v : ℕ). eqb v 0) cells ≡ line_count p
unfolding line_count
line-count p cells m =
    ap (tally (λ (v : ℕ). eqb v 0)) (sym (by_index 0 cells)) ∙
    (tally-map (λ (v : ℕ). eqb v 0) (λ (x : ℕ). get_or cells x 0) (range 0 (length cells)) ∙
    (ap (λ (n : ℕ). tally (λ x. eqb (get_or cells x 0) 0) (range 0 n)) m.size ∙
    tally-same (λ x. eqb (get_or cells x 0) 0) (λ x. eqb (patch_at p x) 0) (range 0 (places p))
    (λ x k.
    let b = range-mem 0 (places p) k in
    ap (λ (v : ℕ). eqb v 0) (m.patch x (omega arith)))))
