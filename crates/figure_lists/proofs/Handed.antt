-- The figures of patches as lists: each is copied from its block of work, and stands in front of what was lent.
use mathlib.Core.Path.{◌≡◌, refl, sym, ap, ◌∙◌}
use mathlib.Core.Logic.{by_cases}
use mathlib.Core.List.{List, map, map-map}
use Prim.Native.Nat.{ℕ, ◌+◌, ◌-◌, ◌*◌, ◌≤◌}
use native.Mathlib.Omega.{arith}
use native.Mathlib.Decide.{dec_lt}
use lib.ListN.{length, get_or, length-map}
use Rattle.lists.specs.Lists.{over, range}
use Rattle.lists.specs.Blocks.{block_entry, Copied}
use Rattle.lists.proofs.Lists.{length-range, get_or-map-range}
use Rattle.lists.proofs.Blocks.{overwritten-front}
use Rattle.picture.specs.Pictures.{Picture, places}
use Rattle.picture.specs.Patches.{Patch, patches}
use Rattle.patch_records.specs.declared.Patch.{Patch as PatchRecord}
use Rattle.patch_records.specs.Records.{record_at, records}
use Rattle.patch_lists.specs.PatchLists.{record_of}
use Rattle.patch_lists.specs.Steps.{Figured}
use Rattle.std.proofs.Common.{Ok, Err}
use Rattle.refusals.specs.declared.Refusal.{Refusal}
use Rattle.refusals.specs.Refusals.{number_of}
use Rattle.answers.specs.Answers.{answer_of, cleared}
use Rattle.answers.proofs.Calls.{error-left, written-left, work-error, work-done}
use Rattle.figure_lists.specs.Figures.{shortest, figures_fault, figures_after, FiguresSay}
use Rattle.figure_lists.specs.Steps.{Room}

-- one figure, which stands in the block that begins at b
pub handed :
    (figure : PatchRecord → ℕ) (n b : ℕ) (figures : List ℕ) {count : ℕ} {old new : List ℕ} →
    ((i : ℕ) → block_entry figures b i ≡ figure (record_at n figures i)) → count ≤ length old → Copied figures b count old new →
    new ≡ over (map figure (records n figures count)) old
handed figure n b figures {count} {old} {new} stands room c =
    let of : ℕ → ℕ = λ i. figure (record_at n figures i) in
    let e : map figure (records n figures count) ≡ map of (range 0 count) = map-map figure (record_at n figures) (range 0 count) in
    overwritten-front _ old new count (map of (range 0 count)) (length-map (range 0 count) of ∙ length-range 0 count) room
    (λ i h. let z : 0 + i ≡ i = omega arith in stands i ∙ sym (get_or-map-range of 0 0 count i h ∙ ap of z))
    c ∙
    ap (λ (l : List ℕ). over l old) (sym e)

-- the blocks of the five figures
module _ (n : ℕ) (figures : List ℕ) (i : ℕ) where
  pub size-stands : block_entry figures 0 i ≡ (record_at n figures i).size
  unfolding record_at
  size-stands = let z : 0 + i ≡ i = omega arith in ap (λ (j : ℕ). get_or figures j 0) z

  pub columns-stand : block_entry figures n i ≡ (record_at n figures i).columns
  unfolding record_at
  columns-stand = refl

  pub rows-stand : block_entry figures (2 * n) i ≡ (record_at n figures i).rows
  unfolding record_at
  rows-stand = refl

  pub depth-stands : block_entry figures (3 * n) i ≡ (record_at n figures i).depth
  unfolding record_at
  depth-stands = refl

  pub height-stands : block_entry figures (4 * n) i ≡ (record_at n figures i).height
  unfolding record_at
  height-stands = refl

-- the lists of a call: p the picture
module _ (p : Picture) (zs hs ds cs rs q : List ℕ) where
  abbrev fault : ℕ
  fault = figures_fault p zs hs ds cs rs q

  -- a refusal leaves every list as it was
  pub refused-lists : (e : Refusal) → number_of e ≡ fault → FiguresSay p zs zs hs hs ds ds cs cs rs rs q q (answer_of (Err e))
  refused-lists e n =
      record {
        call = work-error fault (length (patches p)) p q e n;
        sizes = error-left fault e n _ zs;
        heights = error-left fault e n _ hs;
        depths = error-left fault e n _ ds;
        columns = error-left fault e n _ cs;
        rows = error-left fault e n _ rs;
      }

  -- else the figures of count patches are left in work
  module _ (q' : List ℕ) (count : ℕ) (g : Figured p q q' count) where
    -- every list has room for as many entries as there are patches
    pub room : count ≤ shortest zs hs ds cs rs → 4 * length p.pixels ≤ length q' → Room (length p.pixels) count q' zs hs ds cs rs
    room fits long =
        record {
          blocks =
              by_cases (dec_lt 0 count)
              (λ u. omega (arith, (g.entries.entry (count - 1) (omega arith)).last))
              (λ u. omega arith);
          sizes = omega arith;
          heights = omega arith;
          depths = omega arith;
          columns = omega arith;
          rows = omega arith;
        }

    module _ (z : fault ≡ 0) where
      -- the figures of the records are those of the patches
      figures-left :
          (figure : PatchRecord → ℕ) (old new : List ℕ) → new ≡ over (map figure (records (length p.pixels) q' count)) old →
          new ≡ figures_after fault p (λ x. figure (record_of x)) old
      figures-left figure old new w =
          w ∙
          (ap (λ (l : List PatchRecord). over (map figure l) old) g.records ∙
          (ap (λ (l : List ℕ). over l old) (map-map figure record_of (patches p)) ∙
          written-left fault (over (map (λ (x : Patch). figure (record_of x)) (patches p)) old) old z))

      pub listed :
          {zs' hs' ds' cs' rs' q'' : List ℕ} → length p.pixels ≡ places p →
          let n = length p.pixels in
          let figures : (PatchRecord → ℕ) → List ℕ = λ figure. map figure (records n q' count) in
          zs' ≡ over (figures (λ x. x.size)) zs → hs' ≡ over (figures (λ x. x.height)) hs → ds' ≡ over (figures (λ x. x.depth)) ds →
          cs' ≡ over (figures (λ x. x.columns)) cs → rs' ≡ over (figures (λ x. x.rows)) rs → q'' ≡ cleared n q' →
          FiguresSay p zs zs' hs hs' ds ds' cs cs' rs rs' q q'' (answer_of (Ok count))
      listed {zs'} {hs'} {ds'} {cs'} {rs'} size a b c d e v =
          record {
            call = work-done fault (length (patches p)) count (length p.pixels) p q q' _ z g.count size g.rest v;
            sizes = figures-left (λ x. x.size) zs zs' a;
            heights = figures-left (λ x. x.height) hs hs' b;
            depths = figures-left (λ x. x.depth) ds ds' c;
            columns = figures-left (λ x. x.columns) cs cs' d;
            rows = figures-left (λ x. x.rows) rs rs' e;
          }
