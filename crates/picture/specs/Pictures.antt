-- Pictures, places and adjacency.
use Rattle.std.specs.Prelude.{Bool, ◌&&◌, ◌||◌, List, ℕ, ◌+◌, ◌-◌, ◌*◌, ◌/◌, ◌%◌, eqb, ltb, leb, length, get_or}
use Rattle.lists.specs.Lists.{pick, all}

-- adjacency 4 or 8, width, height, and the pixels row by row
pub record Picture : Type 0 where
  pub adjacency : ℕ
  pub width : ℕ
  pub height : ℕ
  pub pixels : List ℕ

-- the picture of an adjacency, two sides and the pixels
abbrev pub picture_of : ℕ → ℕ → ℕ → List ℕ → Picture
picture_of a w h xs = record { adjacency = a; width = w; height = h; pixels = xs }

-- n, the number of places; a place is a number below it (standard term: raster index)
abbrev pub places : Picture → ℕ
places p = p.width * p.height

-- the value of the pixel at a place
abbrev pub value_at : Picture → ℕ → ℕ
value_at p x = get_or p.pixels x 0

-- the same adjacency and sides with other pixels
abbrev pub with_pixels : Picture → List ℕ → Picture
with_pixels p xs = picture_of p.adjacency p.width p.height xs

-- a side is 1 to 40
abbrev pub side_fits : ℕ → Bool
side_fits a = leb 1 a && leb a 40

-- every number is a byte
abbrev pub all_bytes : List ℕ → Bool
all_bytes xs = all (λ b. ltb b 256) xs

-- an accepted picture: adjacency 4 or 8, sides 1 to 40, n pixels, each a byte
unfoldable pub is_picture : Picture → Bool
is_picture p =
    (eqb p.adjacency 4 || eqb p.adjacency 8) &&
    (side_fits p.width && (side_fits p.height && (eqb (length p.pixels) (places p) && all_bytes p.pixels)))

-- the column of a place
abbrev pub column : Picture → ℕ → ℕ
column p x = x % p.width

-- the row of a place
abbrev pub row : Picture → ℕ → ℕ
row p x = x / p.width

-- how far two numbers lie apart
abbrev pub distance : ℕ → ℕ → ℕ
distance a b = pick (leb a b) (b - a) (a - b)

-- neighbours by adjacency and width: columns and rows differ by at most one, not both by none; under 4, in one of them only
unfoldable pub adjacent : ℕ → ℕ → ℕ → ℕ → Bool
adjacent a w x y =
    let c = distance (x % w) (y % w) in
    let r = distance (x / w) (y / w) in
    pick (eqb a 4) (eqb (c + r) 1) (leb c 1 && (leb r 1 && leb 1 (c + r)))

-- two places of a picture are neighbours
abbrev pub touch : Picture → ℕ → ℕ → Bool
touch p x y = adjacent p.adjacency p.width x y
