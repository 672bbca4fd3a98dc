-- The pass between two places.
use Rattle.std.specs.Prelude.{true, false, ◌&&◌, ℕ, zero, suc}
use Rattle.lists.specs.Lists.{is_in}
use Rattle.picture.specs.Pictures.{Picture}
use Rattle.picture.specs.Components.{in_section, component_at}

-- the least height of l heights from k on at which a component holds both places, k + l for none
abbrev pub pass_from : ℕ → ℕ → Picture → ℕ → ℕ → ℕ
pass_from zero k p x y = k
pass_from (suc l) k p x y =
    elim (in_section p k x && is_in y (component_at p k x)) [ true ↦ k | false ↦ pass_from l (suc k) p x y ]

-- the pass between two places: the least height at which a component holds both (standard terms: minimax path height, connection value)
unfoldable pub pass : Picture → ℕ → ℕ → ℕ
pass p x y = pass_from 256 0 p x y
