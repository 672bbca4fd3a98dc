-- The records of the patches are written, and work is cleared.
use Rattle.std.proofs.Common.{◌≡◌, ◌∙◌, ap, List, ℕ, length, Ok, map}
use Rattle.lists.specs.Lists.{over}
use Rattle.picture.specs.Pictures.{Picture}
use Rattle.picture.specs.Patches.{patches}
use Rattle.patch_records.specs.declared.Patch.{Patch as PatchRecord}
use Rattle.patch_records.specs.Records.{records}
use Rattle.faults.proofs.Faults.{faultless}
use Rattle.patch_lists.specs.PatchLists.{list_fault, record_of}
use Rattle.patch_lists.specs.Steps.{Figured}
use Rattle.patch_lists.proofs.PatchLists.{list-enough}
use Rattle.answers.specs.Answers.{answer_of, cleared}
use Rattle.answers.proofs.Calls.{written-left, work-done}
use Rattle.board.specs.PatchLists.{PatchesSay}

pub listed :
    (p : Picture) (o o' : List PatchRecord) (q q' q'' : List ℕ) (count : ℕ) → list_fault p (length o) (length q) ≡ 0 → Figured p q q' count →
    o' ≡ over (records (length p.pixels) q' count) o → q'' ≡ cleared (length p.pixels) q' → PatchesSay p o o' q q'' (answer_of (Ok count))
listed p o o' q q' q'' count z g w v =
    let fault : ℕ = list_fault p (length o) (length q) in
    record {
      call = work-done fault (length (patches p)) count (length p.pixels) p q q' q'' z g.count (faultless p (length q) (list-enough p (length o) (length q) z).0).size g.rest v;
      output = w ∙ (ap (λ (l : List PatchRecord). over l o) g.records ∙ written-left fault (over (map record_of (patches p)) o) o z);
    }
