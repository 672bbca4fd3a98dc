-- The neighbours of a place as a list, in the fixed order of the eight steps.
use Rattle.std.specs.Prelude.{Bool, ◌&&◌, List, [], ◌∷◌, map, ℕ, ◌+◌, ◌-◌, ◌*◌, ◌/◌, ◌%◌, eqb, leb, ℤ, pos, negsuc}
use Rattle.picture.specs.declared.Step.{Step}
use Rattle.lists.specs.Lists.{pick, select}
use Rattle.picture.specs.Pictures.{Picture}

-- the step back by one
abbrev pub back : ℤ
back = negsuc 0

-- a step by columns and rows
abbrev pub step : ℤ → ℤ → Step
step c r = record { column = c; row = r }

-- the eight steps in their order, from the row above round by the right
abbrev pub steps : List Step
steps =
    step (pos 0) back ∷
    step (pos 1) back ∷
    step (pos 1) (pos 0) ∷
    step (pos 1) (pos 1) ∷
    step (pos 0) (pos 1) ∷
    step back (pos 1) ∷
    step back (pos 0) ∷
    step back back ∷
    []

-- a step of −1, 0 or 1 with one added
abbrev pub plus_one : ℤ → ℕ
plus_one (pos n) = n + 1
plus_one (negsuc n) = 0

-- a step with one added to its column and to its row, so that neither is negative
pub record Offset : Type 0 where
  pub column : ℕ
  pub row : ℕ

-- the offset of a step
abbrev pub offset : Step → Offset
offset s = record { column = plus_one s.column; row = plus_one s.row }

-- every second member, from the first on
abbrev pub every_second : List Step → List Step
every_second [] = []
every_second (s ∷ []) = s ∷ []
every_second (s ∷ (t ∷ ss)) = s ∷ every_second ss

-- the steps of a list that an adjacency uses: under 4 every second, else all
abbrev pub used : ℕ → List Step → List Step
used a ss = pick (eqb a 4) (every_second ss) ss

-- a column or a row plus one lies inside the edge
abbrev pub within : ℕ → ℕ → Bool
within side c = leb 1 c && leb c side

-- a step from the place x stays inside the edge
abbrev pub stays : ℕ → ℕ → ℕ → Offset → Bool
stays w h x o = within w (x % w + o.column) && within h (x / w + o.row)

-- the place that a step leads to from the place x
abbrev pub place_by : ℕ → ℕ → Offset → ℕ
place_by w x o = (x / w + o.row - 1) * w + (x % w + o.column - 1)

-- the places that steps of a list lead to from the place x, none beyond the edge
abbrev pub reached : ℕ → ℕ → ℕ → List Step → List ℕ
reached w h x ss = map (place_by w x) (select (stays w h x) (map offset ss))

-- the neighbours of the place x by adjacency, width and height, in the order of the steps
unfoldable pub neighbours_of : ℕ → ℕ → ℕ → ℕ → List ℕ
neighbours_of a w h x = reached w h x (used a steps)

-- the neighbours of a place of a picture
abbrev pub neighbours_in : Picture → ℕ → List ℕ
neighbours_in p x = neighbours_of p.adjacency p.width p.height x
