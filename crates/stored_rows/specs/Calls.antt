-- What storing rows and restoring them promise.
-- w h the sides, pixels those of a picture, stored their stored form, out the lent output, result the answer; a prime: after the call.
use Rattle.std.specs.Prelude.{◌≡◌, List, ℕ, ◌*◌, ltb, length}
use Rattle.lists.specs.Lists.{over}
use Rattle.faults.specs.PictureFault.{first_of, when, sides_fault}
use Rattle.answers.specs.Answers.{Answer, after_call, Answered}
use Rattle.stored_rows.specs.Rows.{stored_rows, restored_rows}

-- the fault of two sides, a count of bytes and the room in the output: 3, 8, then 9
unfoldable pub rows_fault : ℕ → ℕ → ℕ → ℕ → ℕ
rows_fault w h count room = first_of (sides_fault w h count) (when (ltb room (w * h)) 9)

-- a call with that fault: its number with the value 0
-- the output: the list new in front of what was there, or all as it was after a refusal
pub record RowsSay (fault : ℕ) (new out out' : List ℕ) (result : Answer) : Type 0 where
  pub answer : Answered fault 0 result
  pub output : out' ≡ after_call fault (over new out) out

-- storing: the stored form of the pixels
abbrev pub StoreSays : ℕ → ℕ → List ℕ → List ℕ → List ℕ → Answer → Type 0
StoreSays w h pixels out out' result = RowsSay (rows_fault w h (length pixels) (length out)) (stored_rows w h pixels) out out' result

-- restoring: the pixels of a stored form
abbrev pub RestoreSays : ℕ → ℕ → List ℕ → List ℕ → List ℕ → Answer → Type 0
RestoreSays w h stored out out' result = RowsSay (rows_fault w h (length stored) (length out)) (restored_rows w h stored) out out' result
