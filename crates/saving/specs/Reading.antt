-- What is shown of saving: reading yields the picture again, equal pictures yield equal bytes, no file of a picture is shorter, and 6 names the first place.
use Rattle.std.specs.Prelude.{◌≡◌, List, ℕ, ◌≤◌, ◌<◌, length, get_or, take, drop, Ok}
use Rattle.p5.specs.declared.header.Header.{Header}
use Rattle.p5.specs.Files.{read_file}
use Rattle.saving.specs.ShortFiles.{file_of, saved_again}
use Rattle.saving.specs.Calls.{content_fault, Saved, SaveSays}

-- a file is accepted and read as the picture with sides w and h, largest sample m and pixels xs
pub record ReadsAs (f : List ℕ) (w h m : ℕ) (xs : List ℕ) : Type 0 where
  pub header : Header
  pub read : read_file f ≡ Ok header
  pub width : header.width ≡ w
  pub height : header.height ≡ h
  pub largest : header.largest ≡ m
  pub pixels : drop header.offset f ≡ xs

-- the file of what may be saved is read as that picture
abbrev pub SavedReads : Type 0
SavedReads = (w h m : ℕ) (xs : List ℕ) → content_fault w h m xs ≡ 0 → ReadsAs (file_of w h m xs) w h m xs

-- so are the bytes that an unrefused call leaves, as many as it counts
abbrev pub CallReads : Type 0
CallReads =
    (w h m : ℕ) (xs o o' : List ℕ) (r : Saved) → SaveSays w h m xs o o' r → r.number ≡ 0 →
    ReadsAs (take r.count o') w h m xs

-- the picture of an accepted file may be saved
abbrev pub AcceptedSaves : Type 0
AcceptedSaves = (f : List ℕ) (w h m : ℕ) (xs : List ℕ) → ReadsAs f w h m xs → content_fault w h m xs ≡ 0

-- two accepted files with equal sides, largest sample and pixels yield equal bytes
abbrev pub EqualBytes : Type 0
EqualBytes =
    (f g : List ℕ) (w h m : ℕ) (xs : List ℕ) → ReadsAs f w h m xs → ReadsAs g w h m xs → saved_again f ≡ saved_again g

-- what was saved again is an accepted file with the same picture, and saved once more it is the same
abbrev pub SavedOnce : Type 0
SavedOnce =
    (f : List ℕ) (w h m : ℕ) (xs : List ℕ) → ReadsAs f w h m xs →
    ReadsAs (saved_again f) w h m xs × (saved_again (saved_again f) ≡ saved_again f)

-- no file that is read as the picture has fewer bytes
abbrev pub Shortest : Type 0
Shortest = (f : List ℕ) (w h m : ℕ) (xs : List ℕ) → ReadsAs f w h m xs → length (file_of w h m xs) ≤ length f

-- what an unrefused call leaves for the picture of an accepted file is that file saved again, in no more bytes than it has
abbrev pub CallSaves : Type 0
CallSaves =
    (f : List ℕ) (w h m : ℕ) (xs o o' : List ℕ) (r : Saved) → ReadsAs f w h m xs → SaveSays w h m xs o o' r → r.number ≡ 0 →
    (take r.count o' ≡ saved_again f) × (r.count ≤ length f)

-- x is the first place whose pixel is above m
pub record FirstPlaceAbove (m : ℕ) (xs : List ℕ) (x : ℕ) : Type 0 where
  pub within : x < length xs
  pub above : m < get_or xs x 0
  pub none : (i : ℕ) → i < x → get_or xs i 0 ≤ m

-- a call that is refused with 6 answers the first place above the largest sample
abbrev pub CallPlace : Type 0
CallPlace =
    (w h m : ℕ) (xs o o' : List ℕ) (r : Saved) → SaveSays w h m xs o o' r → r.number ≡ 6 → FirstPlaceAbove m xs r.place
