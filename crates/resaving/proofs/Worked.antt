-- Texts by computation: H3 with a comment and leading zeros, an empty file, one that is too long.
use mathlib.Core.Path.{◌≡◌, refl}
use mathlib.Core.List.{List, [], ◌∷◌, ◌++◌}
use Prim.Native.Nat.{ℕ}
use lib.ListN.{replicate}
use Rattle.p5.specs.Headers.{gap_end, digits_at, number_at, end_at, walk}
use Rattle.p5.specs.Files.{on_pixels, on_header, read_file}
use Rattle.text.specs.Decimal.{decimal}
use Rattle.file_text.specs.FileText.{file_fault, file_text}
use Rattle.saving.specs.ShortFiles.{short_header, file_of, saved_again}
use Rattle.resaving.specs.Resaved.{resaved_text}

-- P5, a space, a comment, byte 10, 05 01, byte 10, 9, a space, the pixels
abbrev signed : List ℕ
signed = 80 ∷ 53 ∷ 32 ∷ 35 ∷ 33 ∷ 10 ∷ 48 ∷ 53 ∷ 32 ∷ 48 ∷ 49 ∷ 10 ∷ 57 ∷ 32 ∷ 3 ∷ 1 ∷ 4 ∷ 0 ∷ 2 ∷ []

-- P5, byte 10, 5 1, byte 10, 9, byte 10, the pixels
abbrev short : List ℕ
short = 80 ∷ 53 ∷ 10 ∷ 53 ∷ 32 ∷ 49 ∷ 10 ∷ 57 ∷ 10 ∷ 3 ∷ 1 ∷ 4 ∷ 0 ∷ 2 ∷ []

-- the word refused, a space, a number in digits, byte 10
abbrev refused : List ℕ → List ℕ
refused digits = 114 ∷ 101 ∷ 102 ∷ 117 ∷ 115 ∷ 101 ∷ 100 ∷ 32 ∷ digits ++ 10 ∷ []

pub worked-texts :
    (resaved_text signed ≡ short) ×
    (resaved_text short ≡ short) ×
    (resaved_text [] ≡ refused (49 ∷ [])) ×
    (resaved_text (replicate 4097 0) ≡ refused (49 ∷ 50 ∷ []))
unfolding gap_end digits_at number_at end_at walk on_pixels on_header read_file decimal file_fault file_text short_header file_of saved_again resaved_text
worked-texts = (refl, refl, refl, refl)
