-- The faults of files at the limit, by computation.
use mathlib.Core.Path.{◌≡◌, refl}
use mathlib.Core.List.{List, [], ◌∷◌, ◌++◌}
use Prim.Native.Nat.{ℕ}
use lib.ListN.{replicate}
use Rattle.p5.specs.Headers.{gap_end, digits_at, number_at, end_at, walk}
use Rattle.p5.specs.Files.{on_pixels, on_header, read_file}
use Rattle.file_text.specs.FileText.{file_fault}

-- one pixel of value 0, behind n spaces and 1 1 9: n + 9 bytes
abbrev spaced : ℕ → List ℕ
spaced n = (80 ∷ 53 ∷ replicate n 32) ++ 49 ∷ 32 ∷ 49 ∷ 32 ∷ 57 ∷ 10 ∷ 0 ∷ []

-- 4,096 bytes are read, 4,097 are too many: of bytes that are no P5 file, and of a file that reading accepts
pub faults-at-limit :
    (file_fault (replicate 4096 0) ≡ 1) ×
    (file_fault (replicate 4097 0) ≡ 12) ×
    (file_fault (spaced 4087) ≡ 0) ×
    (file_fault (spaced 4088) ≡ 12)
unfolding gap_end digits_at number_at end_at walk on_pixels on_header read_file file_fault
faults-at-limit = (refl, refl, refl, refl)
