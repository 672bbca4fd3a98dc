-- Sides that fit, and their product.
use mathlib.Core.Path.{◌≡◌}
use mathlib.Core.Bool.{true, ◌&&◌}
use Prim.Native.Nat.{ℕ, ◌*◌, ◌≤◌}
use native.Mathlib.Nat.{mul-le-mul}
use lib.Dec.{leb}
use borrow.Author.Tests.{leb-true, le-leb}
use Rattle.picture.specs.Pictures.{side_fits}
use Rattle.picture.specs.Geometry.{within}
use Rattle.lists.proofs.Tests.{and_left, and_right, and_both}

-- a number from 1 to side
pub within-some : (side c : ℕ) → within side c ≡ true → 1 ≤ c
within-some side c e = leb-true 1 c (and_left (leb 1 c) _ e)

pub within-most : (side c : ℕ) → within side c ≡ true → c ≤ side
within-most side c e = leb-true c side (and_right (leb 1 c) _ e)

pub is_within : (side c : ℕ) → 1 ≤ c → c ≤ side → within side c ≡ true
is_within side c a b = and_both (le-leb 1 c a) (le-leb c side b)

-- a side that fits is at most 40
pub side-most : (w : ℕ) → side_fits w ≡ true → w ≤ 40
side-most = within-most 40

-- sides of at most 40 make at most 1,600 places
pub area-most : (w h : ℕ) → w ≤ 40 → h ≤ 40 → w * h ≤ 1600
area-most w h p q = mul-le-mul p q

pub sides-area : (w h : ℕ) → (side_fits w && side_fits h) ≡ true → w * h ≤ 1600
sides-area w h e = area-most w h (side-most w (and_left (side_fits w) _ e)) (side-most h (and_right (side_fits w) _ e))
