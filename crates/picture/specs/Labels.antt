-- The labels of a section.
use Rattle.std.specs.Prelude.{List, map, ℕ, suc}
use Rattle.lists.specs.Lists.{index_from, range, is_in}
use Rattle.picture.specs.Pictures.{Picture, places}
use Rattle.picture.specs.Components.{components}

-- the number from i + 1 on of the first component that holds x, 0 for none
abbrev pub label_from : ℕ → ℕ → List (List ℕ) → ℕ
label_from i x cs = index_from 0 (suc i) (is_in x) cs

-- the labels of a section (standard term: connected-component labelling): its components numbered from 1 by first place, 0 outside
unfoldable pub labels : Picture → ℕ → List ℕ
labels p k = map (λ x. label_from 0 x (components p k)) (range 0 (places p))
