-- Sections and components.
use Rattle.std.specs.Prelude.{Bool, true, false, ◌&&◌, ◌||◌, not, List, [], ◌∷◌, ◌++◌, ℕ, zero, suc, eqb, leb, length}
use Rattle.lists.specs.Lists.{any, select, range, is_in}
use Rattle.picture.specs.Pictures.{Picture, places, value_at, touch}

-- a place is in the section at height k (standard terms: lower threshold set; height: level)
abbrev pub in_section : Picture → ℕ → ℕ → Bool
in_section p k x = leb (value_at p x) k

-- a place is a neighbour of some place of a list
abbrev pub touches_some : Picture → ℕ → List ℕ → Bool
touches_some p x c = any (touch p x) c

-- the places of c and those of the section that touch c, rising
abbrev pub grown : Picture → ℕ → List ℕ → List ℕ
grown p k c = select (λ x. is_in x c || in_section p k x && touches_some p x c) (range 0 (places p))

-- c grown until nothing is added, l times at most
abbrev pub spread : ℕ → Picture → ℕ → List ℕ → List ℕ
spread zero p k c = c
spread (suc l) p k c =
    let d = grown p k c in
    elim (eqb (length d) (length c)) [ true ↦ c | false ↦ spread l p k d ]

-- the component of height k that holds a place of the section: its places, rising (standard term: connected component)
unfoldable pub component_at : Picture → ℕ → ℕ → List ℕ
component_at p k x = spread (places p) p k (x ∷ [])

-- the components cs, then those of the places xs of the section that are in none so far
abbrev pub components_from : Picture → ℕ → List (List ℕ) → List ℕ → List (List ℕ)
components_from p k cs [] = cs
components_from p k cs (x ∷ xs) =
    elim (in_section p k x && not (any (is_in x) cs))
    [ true ↦ components_from p k (cs ++ (component_at p k x ∷ [])) xs | false ↦ components_from p k cs xs ]

-- the components of height k by first place
unfoldable pub components : Picture → ℕ → List (List ℕ)
components p k = components_from p k [] (range 0 (places p))
