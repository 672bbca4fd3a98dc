-- What the program `resave` prints for a file, and what is shown of it.
use Rattle.std.specs.Prelude.{◌≡◌, List, ℕ, ◌≤◌, length}
use Rattle.file_text.specs.FileText.{file_fault, file_text}
use Rattle.saving.specs.ShortFiles.{saved_again}
use Rattle.saving.specs.Reading.{ReadsAs}

-- the text for a file: its picture saved again, or its refusal
unfoldable pub resaved_text : List ℕ → List ℕ
resaved_text f = file_text saved_again f

-- the text for an accepted file is an accepted file with the same picture and no more bytes, and its own text is itself
abbrev pub ResavedOnce : Type 0
ResavedOnce =
    (f : List ℕ) (w h m : ℕ) (xs : List ℕ) → file_fault f ≡ 0 → ReadsAs f w h m xs →
    ReadsAs (resaved_text f) w h m xs × (length (resaved_text f) ≤ length f) × (resaved_text (resaved_text f) ≡ resaved_text f)

-- two accepted files with equal sides, largest sample and pixels have equal texts
abbrev pub EqualTexts : Type 0
EqualTexts =
    (f g : List ℕ) (w h m : ℕ) (xs : List ℕ) → file_fault f ≡ 0 → file_fault g ≡ 0 → ReadsAs f w h m xs → ReadsAs g w h m xs →
    resaved_text f ≡ resaved_text g
