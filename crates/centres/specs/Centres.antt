-- The centre of a patch in tenths, and how near it is to the exact quotient.
use Rattle.std.specs.Prelude.{◌≡◌, true, ℕ, suc, ◌+◌, ◌*◌, ◌/◌, ◌%◌, ◌≤◌, ltb}
use mathlib.Core.List.{Memᴰ}
use Rattle.lists.specs.Lists.{pick}
use Rattle.picture.specs.Pictures.{Picture, distance, is_picture}
use Rattle.picture.specs.Patches.{Patch, patches}

-- a centre (standard term: centroid) in tenths: ten times a sum of columns or rows by the size, rounded to the nearest tenth
-- a half goes to the even tenth (standard term: round half to even), which is lower + lower % 2
unfoldable pub centre : ℕ → ℕ → ℕ
centre sum size =
    let lower = 10 * sum / size in
    let twice = 2 * (10 * sum % size) in
    pick (ltb twice size) lower (pick (ltb size twice) (suc lower) (lower + lower % 2))

-- a number of tenths is near the exact quotient of 10 * sum by size: twice the distance is at most one tenth, and where it is one tenth the number is even
-- all is multiplied by the size, so that the numbers are whole
pub record CentreNear (sum size tenths : ℕ) : Type 0 where
  pub near : 2 * distance (tenths * size) (10 * sum) ≤ size
  pub half : 2 * distance (tenths * size) (10 * sum) ≡ size → tenths % 2 ≡ 0

-- every centre is near
abbrev pub Centres-near : Type 0
Centres-near = (sum size : ℕ) → 1 ≤ size → CentreNear sum size (centre sum size)

-- no other number of tenths is near
abbrev pub Centres-only : Type 0
Centres-only = (sum size tenths : ℕ) → 1 ≤ size → CentreNear sum size tenths → tenths ≡ centre sum size

-- both centres of every patch of every picture are near
abbrev pub Patches-near : Type 0
Patches-near =
    (p : Picture) → is_picture p ≡ true → (q : Patch) → Memᴰ q (patches p) →
    CentreNear q.columns q.size (centre q.columns q.size) × CentreNear q.rows q.size (centre q.rows q.size)
