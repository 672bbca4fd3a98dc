-- What the check of a lent tree asks.
-- p the picture, hs fs ss m the lent heights, fathers, first places and map.
use Rattle.std.specs.Prelude.{◌≡◌, true, List, ℕ, ◌≤◌, length}
use Rattle.picture.specs.Pictures.{Picture, places, is_picture}

-- an accepted picture and four lists with an entry a place
pub record TreeLent (p : Picture) (hs fs ss m : List ℕ) : Type 0 where
  pub accepted : is_picture p ≡ true
  pub few : places p ≤ 1600
  pub heights : places p ≤ length hs
  pub fathers : places p ≤ length fs
  pub firsts : places p ≤ length ss
  pub map : places p ≤ length m
