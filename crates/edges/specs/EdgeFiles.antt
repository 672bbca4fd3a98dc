-- The files of the edge cases.
use mathlib.Core.List.{List, [], ◌∷◌, ◌++◌, flat_map}
use Rattle.std.specs.Prelude.{ℕ, ◌+◌, ◌*◌, ◌%◌, ltb, replicate}
use Rattle.lists.specs.Lists.{pick, range}
use Rattle.text.specs.Decimal.{fields}

-- how many values a pixel can have at a largest sample: one more than it, at most 256
abbrev pub values_of : ℕ → ℕ
values_of m = pick (ltb m 256) (m + 1) 256

-- the pixel number i, one of v values
abbrev pub edge_pixel : ℕ → ℕ → ℕ
edge_pixel v i = (i * i * 31 + i * 17) % v

-- as many pixels, each one of v values
abbrev pub edge_pixels : ℕ → ℕ → List ℕ
edge_pixels v count = flat_map (λ i. edge_pixel v i ∷ []) (range 0 count)

-- the line of the sides and that of the largest sample
abbrev pub number_lines : ℕ → ℕ → ℕ → List ℕ
number_lines w h m = fields (w ∷ h ∷ []) ++ fields (m ∷ [])

-- the letters P5 and byte 10, spaces, sides, largest sample, pixels
abbrev pub edge_file : ℕ → ℕ → ℕ → ℕ → ℕ → List ℕ
edge_file w h m count spaces =
    (80 ∷ 53 ∷ 10 ∷ []) ++ (replicate spaces 32 ++ (number_lines w h m ++ edge_pixels (values_of m) count))
