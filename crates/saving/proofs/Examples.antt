-- Files and faults by computation.
use mathlib.Core.Path.{◌≡◌, refl}
use mathlib.Core.List.{List, [], ◌∷◌}
use Prim.Native.Nat.{ℕ}
use lib.ListN.{replicate}
use Rattle.lists.specs.Lists.{over}
use Rattle.text.specs.Decimal.{decimal}
use Rattle.p5.specs.Headers.{gap_end, digits_at, number_at, end_at, walk}
use Rattle.p5.specs.Files.{on_pixels, on_header, read_file}
use Rattle.saving.specs.ShortFiles.{short_header, file_of, saved_again}
use Rattle.saving.specs.Calls.{first_above, content_fault, saving_fault}

-- the pixels of H3
abbrev h3 : List ℕ
h3 = 3 ∷ 1 ∷ 4 ∷ 0 ∷ 2 ∷ []

-- H3 with largest sample 9: P5, byte 10, 5 1, byte 10, 9, byte 10, the pixels
abbrev h3_file : List ℕ
h3_file = 80 ∷ 53 ∷ 10 ∷ 53 ∷ 32 ∷ 49 ∷ 10 ∷ 57 ∷ 10 ∷ 3 ∷ 1 ∷ 4 ∷ 0 ∷ 2 ∷ []

pub file-h3 : file_of 5 1 9 h3 ≡ h3_file
unfolding decimal short_header file_of
file-h3 = refl

-- the least numbers, and the greatest: P5, byte 10, 40 40, byte 10, 255, byte 10; a round number keeps its zeros
pub file-numbers :
    (file_of 1 1 1 (0 ∷ []) ≡ 80 ∷ 53 ∷ 10 ∷ 49 ∷ 32 ∷ 49 ∷ 10 ∷ 49 ∷ 10 ∷ 0 ∷ []) ×
    (short_header 40 40 255 ≡ 80 ∷ 53 ∷ 10 ∷ 52 ∷ 48 ∷ 32 ∷ 52 ∷ 48 ∷ 10 ∷ 50 ∷ 53 ∷ 53 ∷ 10 ∷ []) ×
    (short_header 10 9 100 ≡ 80 ∷ 53 ∷ 10 ∷ 49 ∷ 48 ∷ 32 ∷ 57 ∷ 10 ∷ 49 ∷ 48 ∷ 48 ∷ 10 ∷ [])
unfolding decimal short_header file_of
file-numbers = (refl, refl, refl)

-- H3 with a comment, leading zeros and other white space, saved again
pub file-again :
    saved_again (80 ∷ 53 ∷ 32 ∷ 35 ∷ 33 ∷ 13 ∷ 48 ∷ 53 ∷ 9 ∷ 10 ∷ 49 ∷ 32 ∷ 48 ∷ 48 ∷ 57 ∷ 13 ∷ h3) ≡ h3_file
unfolding gap_end digits_at number_at end_at walk on_pixels on_header read_file decimal short_header file_of saved_again
file-again = refl

-- each fault comes before those behind it: a side, the largest sample, the count of pixels, a pixel, the output
-- the file of one pixel has 10 bytes
pub faults-ordered :
    (saving_fault 0 1 0 (9 ∷ 9 ∷ []) 0 ≡ 3) ×
    (saving_fault 41 1 0 (9 ∷ 9 ∷ []) 0 ≡ 3) ×
    (saving_fault 1 0 0 (9 ∷ 9 ∷ []) 0 ≡ 3) ×
    (saving_fault 1 41 0 (9 ∷ 9 ∷ []) 0 ≡ 3) ×
    (saving_fault 1 1 0 (9 ∷ 9 ∷ []) 0 ≡ 4) ×
    (saving_fault 1 1 256 (9 ∷ 9 ∷ []) 0 ≡ 4) ×
    (saving_fault 1 1 8 (9 ∷ 9 ∷ []) 0 ≡ 8) ×
    (saving_fault 1 1 8 [] 0 ≡ 8) ×
    (saving_fault 1 1 8 (9 ∷ []) 0 ≡ 6) ×
    (saving_fault 1 1 9 (9 ∷ []) 9 ≡ 9) ×
    (saving_fault 1 1 9 (9 ∷ []) 10 ≡ 0)
unfolding decimal short_header file_of content_fault saving_fault
faults-ordered = (refl, refl, refl, refl, refl, refl, refl, refl, refl, refl, refl)

-- the longest file has 1,613 bytes
pub faults-longest :
    (saving_fault 40 40 255 (replicate 1600 255) 1612 ≡ 9) × (saving_fault 40 40 255 (replicate 1600 255) 1613 ≡ 0)
unfolding decimal short_header file_of content_fault saving_fault
faults-longest = (refl, refl)

-- the output after the file of one pixel: its 10 bytes, then two that were there
pub output-worked :
    over (file_of 1 1 9 (6 ∷ [])) (replicate 12 7) ≡ 80 ∷ 53 ∷ 10 ∷ 49 ∷ 32 ∷ 49 ∷ 10 ∷ 57 ∷ 10 ∷ 6 ∷ 7 ∷ 7 ∷ []
unfolding decimal short_header file_of
output-worked = refl

-- the first place above the largest sample, and that there is none
pub first-worked : (first_above 3 (3 ∷ 1 ∷ 4 ∷ 9 ∷ []) ≡ 2) × (first_above 9 (3 ∷ 1 ∷ 4 ∷ 9 ∷ []) ≡ 4)
first-worked = (refl, refl)
