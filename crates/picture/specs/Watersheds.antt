-- Lowerable pixels and the watershed.
use Rattle.std.specs.Prelude.{Bool, true, false, ◌&&◌, ◌||◌, List, [], ◌∷◌, ℕ, zero, suc, ◌-◌, eqb, ltb, set}
use Rattle.lists.specs.Lists.{pick, tally, range, total}
use Rattle.picture.specs.Pictures.{Picture, places, value_at, with_pixels}
use Rattle.picture.specs.Components.{touches_some, components}

-- a pixel of value k is adjacent to exactly one component of height k - 1
abbrev pub lowerable_at : ℕ → Picture → ℕ → Bool
lowerable_at zero p x = false
lowerable_at (suc k) p x = eqb (tally (touches_some p x) (components p k)) 1

-- a pixel is lowerable (standard term: W-destructible)
unfoldable pub lowerable : Picture → ℕ → Bool
lowerable p x = lowerable_at (value_at p x) p x

-- the better of a place so far and the lowerable places of xs: of least value, then of smallest place; places are given and answered plus 1, 0 for none
abbrev pub best_from : Picture → ℕ → List ℕ → ℕ
best_from p best [] = best
best_from p best (x ∷ xs) =
    best_from p (pick (lowerable p x && (eqb best 0 || ltb (value_at p x) (value_at p (best - 1)))) (suc x) best) xs

-- the place to lower next, plus 1; 0 if no pixel is lowerable
unfoldable pub best : Picture → ℕ
best p = best_from p 0 (range 0 (places p))

-- a pixel lowered by 1
abbrev pub lowered : Picture → ℕ → Picture
lowered p x = with_pixels p (set p.pixels x (value_at p x - 1))

-- while a lowerable pixel exists, the best one lowered by 1, l times at most
abbrev pub watershed_from : ℕ → Picture → Picture
watershed_from zero p = p
watershed_from (suc l) p = elim (eqb (best p) 0) [ true ↦ p | false ↦ watershed_from l (lowered p (best p - 1)) ]

-- the watershed (standard term: topological watershed); the sum of the pixels bounds the number of lowerings
unfoldable pub watershed : Picture → Picture
watershed p = watershed_from (suc (total p.pixels)) p
