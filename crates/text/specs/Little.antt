-- Numbers as bytes, the lowest first.
use Rattle.std.specs.Prelude.{List, [], ◌∷◌, ℕ, zero, suc, ◌/◌, ◌%◌}

-- the l lowest bytes of n, the lowest first (little-endian)
abbrev pub little_endian : ℕ → ℕ → List ℕ
little_endian zero n = []
little_endian (suc l) n = n % 256 ∷ little_endian l (n / 256)
