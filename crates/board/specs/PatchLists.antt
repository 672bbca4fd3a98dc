-- What the call that lists the patches promises.
-- p the picture, o output, q work, r the answer; a prime: after the call.
use Rattle.std.specs.Prelude.{◌≡◌, List, map, ℕ, length}
use Rattle.lists.specs.Lists.{over}
use Rattle.picture.specs.Pictures.{Picture}
use Rattle.picture.specs.Patches.{patches}
use Rattle.patch_records.specs.declared.Patch.{Patch as PatchRecord}
use Rattle.patch_lists.specs.PatchLists.{list_fault, record_of}
use Rattle.answers.specs.Answers.{Answer}
use Rattle.answers.specs.Answers.{after_call, WorkSays}

-- the records of the patches in front of what was in the list, and how many there are; all as it was after a refusal
pub record PatchesSay (p : Picture) (o o' : List PatchRecord) (q q' : List ℕ) (r : Answer) : Type 0 where
  pub call : WorkSays (list_fault p (length o) (length q)) (length (patches p)) p q q' r
  pub output : o' ≡ after_call (list_fault p (length o) (length q)) (over (map record_of (patches p)) o) o
