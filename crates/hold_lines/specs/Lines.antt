-- The lines of the hold list, and the line of a refusal.
use Rattle.std.specs.Prelude.{List, [], ◌∷◌, ◌++◌, ℕ}
use Rattle.centres.specs.Centres.{centre}
use Rattle.text.specs.Decimal.{decimal, fields}

-- the word picture and a space
abbrev pub picture_word : List ℕ
picture_word = 112 ∷ 105 ∷ 99 ∷ 116 ∷ 117 ∷ 114 ∷ 101 ∷ 32 ∷ []

-- the word patches and a space
abbrev pub patches_word : List ℕ
patches_word = 112 ∷ 97 ∷ 116 ∷ 99 ∷ 104 ∷ 101 ∷ 115 ∷ 32 ∷ []

-- the word line between spaces
abbrev pub line_word : List ℕ
line_word = 32 ∷ 108 ∷ 105 ∷ 110 ∷ 101 ∷ 32 ∷ []

-- the word refused and a space
abbrev pub refused_word : List ℕ
refused_word = 114 ∷ 101 ∷ 102 ∷ 117 ∷ 115 ∷ 101 ∷ 100 ∷ 32 ∷ []

-- the two lines above those of the patches: the sides, and how many patches and line pixels there are
abbrev pub head_lines : ℕ → ℕ → ℕ → ℕ → List ℕ
head_lines w h count line =
    picture_word ++ (fields (w ∷ h ∷ []) ++ (patches_word ++ (decimal count ++ (line_word ++ fields (line ∷ [])))))

-- the line of a patch: number, size, height, depth, centre column and centre row in tenths, from the sums of columns and rows
abbrev pub line_of : ℕ → ℕ → ℕ → ℕ → ℕ → ℕ → List ℕ
line_of number size height depth columns rows =
    fields (number ∷ size ∷ height ∷ depth ∷ centre columns size ∷ centre rows size ∷ [])

-- the line of a refusal
abbrev pub refused_line : ℕ → List ℕ
refused_line n = refused_word ++ fields (n ∷ [])
