-- The pass read off a lent tree.
-- p the picture, hs fs ss m the lent heights, fathers, first places and map.
use Rattle.std.specs.Prelude.{◌≡◌, true, List, ℕ, ◌<◌, ◌≤◌, length}
use Rattle.picture.specs.Pictures.{Picture, places, is_picture}
use Rattle.picture.specs.Passes.{pass}
use Rattle.lent_tree.specs.Lent.{HoldsTree}

-- a picture whose tree is lent, and two of its places
pub record PassReady (pixels hs fs m : List ℕ) (x y : ℕ) : Type 0 where
  pub p : Picture
  pub count : ℕ
  pub ss : List ℕ
  pub ok : is_picture p ≡ true
  pub is : p.pixels ≡ pixels
  pub tree : HoldsTree p count hs fs ss m
  pub left : x < places p
  pub right : y < places p
  pub heights : count ≤ length hs
  pub fathers : count ≤ length fs
  pub map : places p ≤ length m

-- r is the pass between two places
pub record PassOf (pixels hs fs m : List ℕ) (x y r : ℕ) : Type 0 where
  pub is :
      (p : Picture) (count : ℕ) (ss : List ℕ) → is_picture p ≡ true → p.pixels ≡ pixels → HoldsTree p count hs fs ss m → x < places p → y < places p →
      r ≡ pass p x y
