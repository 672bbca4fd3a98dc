-- What the call that lists the patches promises to a caller that lends it the first records of a list.
-- p the picture, l the list, q work, r the answer; a prime: after the call.
use Rattle.std.specs.Prelude.{◌≡◌, List, ℕ, take, drop}
use Rattle.picture.specs.Pictures.{Picture}
use Rattle.patch_records.specs.declared.Patch.{Patch as PatchRecord}
use Rattle.answers.specs.Answers.{Answer}
use Rattle.board.specs.PatchLists.{PatchesSay}

-- of the records that are lent what the call promises, and the others as they were
pub record LentSay (p : Picture) (room : ℕ) (l l' : List PatchRecord) (q q' : List ℕ) (r : Answer) : Type 0 where
  pub call : PatchesSay p (take room l) (take room l') q q' r
  pub behind : drop room l' ≡ drop room l
