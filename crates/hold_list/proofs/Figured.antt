-- The lines of the patches of a picture are those of the blocks of its figures.
use mathlib.Core.List.{flat_map}
use Rattle.std.proofs.Common.{◌≡◌, refl, sym, ap, ap₂, ◌∙◌, List, [], ◌∷◌, ◌++◌, ℕ, suc, ◌+◌, ◌≤◌, ◌<◌, length, get_or, add-one, arith}
use Rattle.lists.specs.Lists.{range}
use Rattle.picture.specs.Pictures.{Picture, places}
use Rattle.picture.specs.Patches.{Patch, patches, line_count}
use Rattle.geometry.specs.declared.raster.Raster.{Raster}
use Rattle.geometry.specs.Rasters.{picture}
use Rattle.geometry.proofs.Listed.{raster-size}
use Rattle.topology.proofs.Accepted.{Accepted, accepted-is}
use Rattle.topology.proofs.PatchSums.{count-few, patch-number}
use Rattle.topology.proofs.PatchBounds.{line-few, size-some, height-fits, depth-fits}
use Rattle.patch_numbers.specs.Numbers.{FiveBlocks}
use Rattle.patches.specs.Figures.{no_patch, Figures}
use Rattle.patch_records.specs.Records.{Entry}
use Rattle.hold_lines.specs.Figures.{line_at, Figured}
use Rattle.hold_lines.specs.Lines.{head_lines}
use Rattle.hold_lines.proofs.Lengths.{line_at-is}
use Rattle.hold_list.specs.HoldText.{patch_line, patch_lines, patch_list}

-- lines one by one
pub lines_from :
    (d : Patch) (f : ℕ → List ℕ) (qs : List Patch) (x : ℕ) → ((i : ℕ) → i < length qs → f (x + i) ≡ patch_line (get_or qs i d)) →
    flat_map f (range x (length qs)) ≡ patch_lines qs
unfolding flat_map
lines_from d f [] x h = refl
lines_from d f (q ∷ qs) x h =
    let z : x + 0 ≡ x = omega arith in
    ap₂ (λ (a b : List ℕ). a ++ b) (sym (ap f z) ∙ h 0 (omega arith))
    (lines_from d f qs (suc x)
    (λ i b. let e : suc x + i ≡ x + suc i = omega arith in ap f e ∙ h (suc i) (omega arith)))

-- the figures of the patches of a raster
module _ (x : Raster) {r : ℕ} {work cells : List ℕ} (b : FiveBlocks (places (picture x)) work cells) (f : Figures (picture x) r work cells) where
  abbrev p : Picture
  p = picture x

  ok : Accepted p
  ok = accepted-is p x.accepted

  few : r ≤ places p
  few = omega (arith, f.count, count-few p ok)

  size-at : (i : ℕ) → i < r → get_or work i 0 ≡ (get_or (patches p) i no_patch).size
  size-at i h = let z : 0 + i ≡ i = omega arith in sym (ap (λ (j : ℕ). get_or work j 0) z) ∙ f.size i h

  -- a patch by its index
  module _ (i : ℕ) (h : i < r) where
    below : i < length (patches p)
    below = omega (arith, f.count, h)

    entry-is : Entry (places p) work i
    entry-is =
        record {
          few = omega (arith, few, b.few, h);
          last = omega (arith, few, b.blocks, h);
          depth = omega (arith, f.depth i h, depth-fits p ok i no_patch below);
          height = omega (arith, f.height i h, height-fits p ok i no_patch below);
        }

    line-is : line_at (places p) work i ≡ patch_line (get_or (patches p) i no_patch)
    line-is =
        line_at-is (places p) i work (add-one i ∙ sym (patch-number p ok i no_patch below)) (size-at i h) (f.height i h) (f.depth i h) (f.columns i h) (f.rows i h)

  -- the blocks are figures of the patches
  pub figured : Figured (length x.pixels.now) work r
  figured =
      rw (raster-size x)
      (record {
        few = omega (arith, few, b.few);
        entries = record { entry = entry-is };
        some = λ i h. omega (arith, size-at i h, size-some p ok i no_patch (below i h));
      })

  -- the lines of the blocks are those of the patches
  lines_are : flat_map (line_at (places p) work) (range 0 r) ≡ patch_lines (patches p)
  lines_are =
      let g = line_at (places p) work in
      ap (λ (m : ℕ). flat_map g (range 0 m)) f.count ∙
      lines_from no_patch g (patches p) 0
      (λ i b. let z : 0 + i ≡ i = omega arith in ap g z ∙ line-is i (omega (arith, f.count)))

  -- with the number of line pixels
  module _ {line : ℕ} (e : line ≡ line_count p) where
    -- all numbers of the head are small
    pub head-small : (p.width < 100000) × (p.height < 100000) × (r < 100000) × (line < 100000)
    head-small =
        (omega (arith, ok.wide), omega (arith, ok.high), omega (arith, few, b.few), omega (arith, e, line-few p, b.few))

    -- the whole list
    pub list-is : head_lines p.width p.height r line ++ flat_map (line_at (length x.pixels.now) work) (range 0 r) ≡ patch_list p
    unfolding patch_list
    list-is =
        rw (raster-size x) (ap₂ (λ (a b : List ℕ). a ++ b) (ap₂ (λ (c l : ℕ). head_lines p.width p.height c l) f.count e) lines_are)
