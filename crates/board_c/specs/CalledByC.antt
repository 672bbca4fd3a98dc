-- What the calls for C promise, built on the definitions of the public calls: the result is 0 or the number of the refusal.
use Rattle.std.specs.Prelude.{◌≡◌, true, List, ◌++◌, ℕ, ◌*◌, ltb, leb, length, replicate}
use Rattle.lists.specs.Lists.{over}
use Rattle.picture.specs.Pictures.{Picture, places, value_at, all_bytes}
use Rattle.faults.specs.PictureFault.{first_of, when, picture_fault_of}
use Rattle.picture.specs.Watersheds.{watershed}
use Rattle.picture.specs.Patches.{patch_at}
use Rattle.p5.specs.Files.{read_file, outcome_number, header_of}
use Rattle.text.specs.Little.{little_endian}
use Rattle.picture.specs.Kept.{Kept, OthersFail}
use Rattle.board.specs.Demands.{left_by}
use Rattle.answers.specs.Answers.{after_call}

-- two numbers as eight bytes each, lowest first
abbrev pub pair : ℕ → ℕ → List ℕ
pair x y = little_endian 8 x ++ little_endian 8 y

-- reading for C: the refusals of reading, then 9 for output of fewer than 32 bytes
unfoldable pub read_fault_for_c : List ℕ → List ℕ → ℕ
read_fault_for_c f o = first_of (outcome_number (read_file f)) (when (ltb (length o) 32) 9)

-- width, height, largest sample and the pixels' offset
abbrev pub header_bytes : List ℕ → List ℕ
header_bytes f =
    let h = header_of (read_file f) in
    pair h.width h.height ++ pair h.largest h.offset

-- the result of reading for C, and what it leaves in the output
pub record ReadForC (f o o' : List ℕ) (r : ℕ) : Type 0 where
  pub number : r ≡ read_fault_for_c f o
  pub output : o' ≡ after_call (read_fault_for_c f o) (over (header_bytes f) o) o

-- the fault of a picture, then 9 for work of fewer than 10 n bytes
unfoldable pub work_fault_for_c : Picture → ℕ → ℕ
work_fault_for_c p work = first_of (picture_fault_of p) (when (ltb work (10 * places p)) 9)

-- the watershed for C: the same, then 9 for output of fewer than n bytes
unfoldable pub watershed_fault_for_c : Picture → ℕ → ℕ → ℕ
watershed_fault_for_c p out work = first_of (work_fault_for_c p work) (when (ltb out (places p)) 9)

-- what a call for C leaves in its work: 10 n zero bytes after success
abbrev pub bytes_after : ℕ → Picture → List ℕ → List ℕ
bytes_after f p q = after_call f (over (replicate (10 * places p) 0) q) q

-- the result of the watershed for C, and what it leaves in output and work
pub record WatershedForC (p : Picture) (o o' q q' : List ℕ) (r : ℕ) : Type 0 where
  pub number : r ≡ watershed_fault_for_c p (length o) (length q)
  pub output : o' ≡ after_call (watershed_fault_for_c p (length o) (length q)) (over (watershed p).pixels o) o
  pub work : q' ≡ bytes_after (watershed_fault_for_c p (length o) (length q)) p q

-- the place query for C: the fault of the picture and work, then 9 for output of fewer than 16 bytes, then 10
unfoldable pub place_fault_for_c : Picture → ℕ → ℕ → ℕ → ℕ
place_fault_for_c p out work x =
    first_of (first_of (work_fault_for_c p work) (when (ltb out 16) 9)) (when (leb (places p) x) 10)

-- the result of the place query for C, and what it leaves: the value and the patch's number, 0 for the line
pub record PlaceForC (p : Picture) (x : ℕ) (o o' q q' : List ℕ) (r : ℕ) : Type 0 where
  pub number : r ≡ place_fault_for_c p (length o) (length q) x
  pub output : o' ≡ after_call (place_fault_for_c p (length o) (length q) x) (over (pair (value_at p x) (patch_at p x)) o) o
  pub work : q' ≡ bytes_after (place_fault_for_c p (length o) (length q) x) p q

-- demand 3 of the watershed for C: what it leaves keeps the picture's parts, tree and passes, and every other picture nowhere above it fails to keep the parts
abbrev pub Demand-3-for-C : Type 0
Demand-3-for-C =
    (p : Picture) (o o' q q' : List ℕ) (r : ℕ) → all_bytes p.pixels ≡ true → WatershedForC p o o' q q' r → r ≡ 0 →
    Kept p (left_by p o') × OthersFail p (left_by p o')
