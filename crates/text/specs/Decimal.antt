-- Numbers as text: decimal digits, fields parted by a space, lines that end with byte 10.
use Rattle.std.specs.Prelude.{true, false, List, [], ◌∷◌, ◌++◌, ℕ, zero, suc, ◌+◌, ◌/◌, ◌%◌, ltb}

-- the digits of n, at most l of them, the highest first
abbrev pub digits_by : ℕ → ℕ → List ℕ
digits_by zero n = []
digits_by (suc l) n = elim (ltb n 10) [ true ↦ (48 + n) ∷ [] | false ↦ digits_by l (n / 10) ++ ((48 + n % 10) ∷ []) ]

-- n in decimal digits with no leading zeros; n + 1 digits are always enough
unfoldable pub decimal : ℕ → List ℕ
decimal n = digits_by (suc n) n

-- numbers parted by single spaces, then byte 10
abbrev pub fields : List ℕ → List ℕ
fields [] = 10 ∷ []
fields (n ∷ []) = decimal n ++ (10 ∷ [])
fields (n ∷ (m ∷ ns)) = decimal n ++ (32 ∷ fields (m ∷ ns))
