-- The fault of a picture's arguments.
use Rattle.std.specs.Prelude.{Bool, true, false, ◌&&◌, ◌||◌, not, ℕ, zero, suc, ◌*◌, eqb, length}
use Rattle.picture.specs.Pictures.{Picture, side_fits}

-- the first number that is not 0
abbrev pub first_of : ℕ → ℕ → ℕ
first_of zero b = b
first_of (suc a) b = suc a

-- a number if the test passes, else 0
abbrev pub when : Bool → ℕ → ℕ
when true n = n
when false n = 0

-- the fault of two sides and a number of pixels: 3 or 8, and 0 for none
unfoldable pub sides_fault : ℕ → ℕ → ℕ → ℕ
sides_fault w h l = first_of (when (not (side_fits w && side_fits h)) 3) (when (not (eqb l (w * h))) 8)

-- the fault of an adjacency, two sides and a number of pixels: 7, then 3 or 8, and 0 for none
unfoldable pub picture_fault : ℕ → ℕ → ℕ → ℕ → ℕ
picture_fault a w h l = first_of (when (not (eqb a 4 || eqb a 8)) 7) (sides_fault w h l)

-- the fault of a picture
abbrev pub picture_fault_of : Picture → ℕ
picture_fault_of p = picture_fault p.adjacency p.width p.height (length p.pixels)
