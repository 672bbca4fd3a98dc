-- What saving a picture promises.
-- w h the sides, m the largest sample, xs the pixels, o output, r the answer; a prime: after the call.
use Rattle.std.specs.Prelude.{◌≡◌, ◌&&◌, not, List, ℕ, ◌*◌, eqb, ltb, length, Result, Ok, Err}
use Rattle.lists.specs.Lists.{pick, over}
use Rattle.picture.specs.Pictures.{side_fits}
use Rattle.p5.specs.Headers.{leading}
use Rattle.p5.specs.Files.{largest_fits, at_most}
use Rattle.faults.specs.PictureFault.{first_of, when}
use Rattle.answers.specs.Answers.{after_call}
use Rattle.saving.specs.ShortFiles.{file_of}
use Rattle.refusals.specs.declared.Refusal.{Refusal}
use Rattle.refusals.specs.Refusals.{number_of, place_of}

-- the number of a refusal, of 6 with the first place above the largest sample; or 0 with the count of bytes written
pub record Saved : Type 0 where
  pub number : ℕ
  pub place : ℕ
  pub count : ℕ

-- the answer of a call: the number 0 with its count, or a refusal's number and place with the count 0
abbrev pub saved_of : Result ℕ Refusal → Saved
saved_of (Ok n) = record { number = 0; place = 0; count = n }
saved_of (Err e) = record { number = number_of e; place = place_of e; count = 0 }

-- the first place above the largest sample, the number of pixels where there is none
abbrev pub first_above : ℕ → List ℕ → ℕ
first_above m xs = leading (at_most m) xs

-- the fault of what is to be saved: 3, 4, 8, then 6
unfoldable pub content_fault : ℕ → ℕ → ℕ → List ℕ → ℕ
content_fault w h m xs =
    first_of (when (not (side_fits w && side_fits h)) 3)
    (first_of (when (not (largest_fits m)) 4)
    (first_of (when (not (eqb (length xs) (w * h))) 8) (when (not (eqb (first_above m xs) (length xs))) 6)))

-- the same, then 9 for an output that is shorter than the file
unfoldable pub saving_fault : ℕ → ℕ → ℕ → List ℕ → ℕ → ℕ
saving_fault w h m xs out = first_of (content_fault w h m xs) (when (ltb out (length (file_of w h m xs))) 9)

-- the number, with 6 the first place above the largest sample, with 0 the count of bytes
-- the output: the file in front of what was there, or all as it was after a refusal
pub record SaveSays (w h m : ℕ) (xs o o' : List ℕ) (r : Saved) : Type 0 where
  pub number : r.number ≡ saving_fault w h m xs (length o)
  pub place : r.place ≡ pick (eqb (saving_fault w h m xs (length o)) 6) (first_above m xs) 0
  pub count : r.count ≡ pick (eqb (saving_fault w h m xs (length o)) 0) (length (file_of w h m xs)) 0
  pub output : o' ≡ after_call (saving_fault w h m xs (length o)) (over (file_of w h m xs) o) o
