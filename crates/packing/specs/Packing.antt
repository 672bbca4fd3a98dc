-- 16-bit entries packed in bytes, two bytes an entry, the lowest first.
use Rattle.std.specs.Prelude.{List, [], ◌∷◌, ◌++◌, map, ℕ, ◌+◌, ◌*◌, get_or}
use Rattle.lists.specs.Lists.{range}
use Rattle.text.specs.Little.{little_endian}

-- the entry number i of the bytes
abbrev pub entry_at : List ℕ → ℕ → ℕ
entry_at bytes i = get_or bytes (2 * i) 0 + 256 * get_or bytes (2 * i + 1) 0

-- the first m entries of the bytes
abbrev pub entries : ℕ → List ℕ → List ℕ
entries m bytes = map (entry_at bytes) (range 0 m)

-- entries as bytes
abbrev pub packed : List ℕ → List ℕ
packed [] = []
packed (x ∷ xs) = little_endian 2 x ++ packed xs
