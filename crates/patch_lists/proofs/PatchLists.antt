-- The laws of the call that lists the patches: its fault, the records read off the figures, and what the call leaves.
use mathlib.Core.Path.{◌≡◌, refl, sym, ap, subst, ◌∙◌}
use mathlib.Core.Bool.{true}
use mathlib.Core.List.{List, ◌++◌, map}
use Prim.Native.Nat.{ℕ, ◌+◌, ◌*◌, ◌≤◌, ◌<◌}
use native.Mathlib.Numerals.{add-one}
use native.Mathlib.Omega.{arith}
use lib.Dec.{ltb}
use lib.ListN.{length, get_or, take, drop, length-map, get_or-append, get_or-map}
use lib.Seq.{length_front, ext_get_or}
use borrow.Author.Tests.{ltb-false}
use Rattle.lists.specs.Lists.{range}
use Rattle.picture.specs.Pictures.{Picture, places, is_picture}
use Rattle.faults.specs.PictureFault.{first_of, when}
use Rattle.picture.specs.Patches.{patches}
use Rattle.lists.proofs.Lists.{length-range, get_or-map-range}
use Rattle.topology.proofs.Accepted.{Accepted, accepted-is, pixels-few}
use Rattle.topology.proofs.PatchSums.{count-few, patch-number}
use Rattle.topology.proofs.PatchBounds.{patches-few, height-fits, depth-fits}
use Rattle.patches.specs.Figures.{no_patch, Figures}
use Rattle.patch_records.specs.Records.{Entry, Entries, record_at, records}
use Rattle.faults.specs.Faults.{work_fault_of}
use Rattle.patch_lists.specs.PatchLists.{list_fault, record_of}
use Rattle.patch_lists.specs.Steps.{Figured}
use Rattle.faults.proofs.Faults.{then-none}
use Rattle.answers.proofs.Calls.{lent_length, behind-lent}

-- the fault, after that of the picture and of work
module _ (p : Picture) (room work : ℕ) where
  pub list-is : first_of (work_fault_of p work) (when (ltb room (length (patches p))) 9) ≡ list_fault p room work
  unfolding list_fault
  list-is = refl

  pub list-enough : list_fault p room work ≡ 0 → (work_fault_of p work ≡ 0) × (length (patches p) ≤ room)
  list-enough e = let z = then-none _ 8 _ _ list-is e in (z.0, ltb-false room (length (patches p)) z.1)

-- of an accepted picture
module _ (p : Picture) (h : is_picture p ≡ true) where
  ok : Accepted p
  ok = accepted-is p h

  -- among 1600 cells there is one for each pixel
  module _ (cells : List ℕ) (room : 1600 ≤ length cells) where
    pub cells-enough : length p.pixels ≤ length cells
    cells-enough = omega (arith, pixels-few p h, room)

    pub cells-lent : length p.pixels ≡ length (take (length p.pixels) cells)
    cells-lent = lent_length (length p.pixels) cells cells-enough

  -- the figures in the first 5 n entries of work, as records
  module _ (r : ℕ) (q ys cells : List ℕ) (room : 5 * length p.pixels ≤ length q) (long : length ys ≡ 5 * places p) (f : Figures p r ys cells) where
    abbrev after : List ℕ
    after = ys ++ drop (5 * length p.pixels) q

    few : r ≤ places p
    few = let a = count-few p ok in let e = f.count in omega arith

    inside : (j : ℕ) → j < 5 * places p → get_or after j 0 ≡ get_or ys j 0
    inside j b = get_or-append ys (drop (5 * length p.pixels) q) 0 j (omega (arith, b, long))

    total : length after ≡ length q
    total = let l = lent_length (5 * length p.pixels) q room in let e = ok.size in length_front q ys (5 * length p.pixels) (omega (arith, long, l, e))

    record_is : (i : ℕ) → i < r → record_at (places p) after i ≡ record_of (get_or (patches p) i no_patch)
    unfolding record_at
    record_is i b j =
        let zero-first : i ≡ 0 + i = omega arith in
        record {
          number = (add-one i ∙ sym (patch-number p ok i no_patch (omega (arith, f.count, b)))) j;
          size = (inside i (omega (arith, few, b)) ∙ (ap (λ (k : ℕ). get_or ys k 0) zero-first ∙ f.size i b)) j;
          height = (inside (4 * places p + i) (omega (arith, few, b)) ∙ f.height i b) j;
          depth = (inside (3 * places p + i) (omega (arith, few, b)) ∙ f.depth i b) j;
          columns = (inside (places p + i) (omega (arith, few, b)) ∙ f.columns i b) j;
          rows = (inside (2 * places p + i) (omega (arith, few, b)) ∙ f.rows i b) j;
        }

    entry-is : (i : ℕ) → i < r → Entry (places p) after i
    entry-is i b =
        let c : i < length (patches p) = subst (λ (m : ℕ). i < m) f.count b in
        let x = inside (3 * places p + i) (omega (arith, few, b)) ∙ f.depth i b in
        let y = inside (4 * places p + i) (omega (arith, few, b)) ∙ f.height i b in
        record {
          few = omega (arith, c, patches-few p ok);
          last = omega (arith, few, b, total, room, ok.size);
          depth = omega (arith, x, depth-fits p ok i no_patch c);
          height = omega (arith, y, height-fits p ok i no_patch c);
        }

    records-are : records (places p) after r ≡ map record_of (patches p)
    records-are =
        let a = length-map (range 0 r) (record_at (places p) after) ∙ length-range 0 r in
        let m = length-map (patches p) record_of in
        ext_get_or (record_of no_patch) (records (places p) after r) (map record_of (patches p)) (a ∙ (f.count ∙ sym m))
        (λ i b.
        let c : i < r = omega (arith, b, a) in
        let e : 0 + i ≡ i = omega arith in
        get_or-map-range (record_at (places p) after) (record_of no_patch) 0 r i c ∙
        (ap (record_at (places p) after) e ∙ (record_is i c ∙ sym (get_or-map record_of (patches p) i no_patch))))

    pub figured : Figured p q after r
    figured =
        record {
          count = f.count;
          entries = subst (λ (n : ℕ). Entries n after r) (sym ok.size) (record { entry = entry-is });
          records = subst (λ (n : ℕ). records n after r ≡ map record_of (patches p)) (sym ok.size) records-are;
          rest = behind-lent (5 * length p.pixels) (5 * length p.pixels) ys q (let l = lent_length (5 * length p.pixels) q room in let e = ok.size in omega (arith, long, l, e)) (omega arith) room;
        }
