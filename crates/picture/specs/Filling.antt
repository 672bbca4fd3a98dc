-- Filling: dark parts of fewer than s pixels are raised until they belong to one of at least s (standard term: area closing).
use Rattle.std.specs.Prelude.{◌≡◌, Bool, true, ◌&&◌, List, map, ℕ, ◌≤◌, max, leb, length}
use Rattle.lists.specs.Lists.{all, index_from, range}
use Rattle.picture.specs.Pictures.{Picture, places, with_pixels, all_bytes, is_picture}
use Rattle.picture.specs.Components.{in_section, component_at, components}
use Rattle.picture.specs.Kept.{nowhere_above}

-- x is in the section at height k, and its component has at least s pixels
abbrev pub is_large : Picture → ℕ → ℕ → ℕ → Bool
is_large p s x k = in_section p k x && leb s (length (component_at p k x))

-- the filled value of a pixel: the least height at which its component has at least s pixels; 256 for none, where s is above n
unfoldable pub filled_at : Picture → ℕ → ℕ → ℕ
filled_at p s x = index_from 256 0 (is_large p s x) (range 0 256)

-- the filled picture: each pixel at its filled value
unfoldable pub filled : Picture → ℕ → Picture
filled p s = with_pixels p (map (filled_at p s) (range 0 (places p)))

-- every component of every height has at least s pixels
unfoldable pub all_large : Picture → ℕ → Bool
all_large p s = all (λ k. all (λ c. leb s (length c)) (components p k)) (range 0 256)

-- what holds of p filled with s: it is the least picture nowhere below p in which every component has at least s pixels
pub record AreaClosing (p : Picture) (s : ℕ) : Type 0 where
  pub accepted : is_picture (filled p s) ≡ true
  -- no pixel falls (extensive)
  pub above : nowhere_above p.pixels (filled p s).pixels ≡ true
  -- a second filling with the same size changes nothing (idempotent)
  pub again : filled (filled p s) s ≡ filled p s
  pub large : all_large (filled p s) s ≡ true
  -- a picture b of bytes, nowhere below p, in which every component is large, is nowhere below the filled one
  pub least :
      (b : List ℕ) → length b ≡ places p → all_bytes b ≡ true → nowhere_above p.pixels b ≡ true → all_large (with_pixels p b) s ≡ true →
      nowhere_above (filled p s).pixels b ≡ true

-- with every size up to n
abbrev pub Filling-closes : Type 0
Filling-closes = (p : Picture) → is_picture p ≡ true → (s : ℕ) → s ≤ places p → AreaClosing p s

-- the size 1 changes nothing
abbrev pub Filling-by-one : Type 0
Filling-by-one = (p : Picture) → is_picture p ≡ true → filled p 1 ≡ p

-- a darker picture is filled to a darker one (increasing)
abbrev pub Filling-increases : Type 0
Filling-increases =
    (p : Picture) (b : List ℕ) (s : ℕ) → is_picture p ≡ true → is_picture (with_pixels p b) ≡ true → nowhere_above p.pixels b ≡ true →
    nowhere_above (filled p s).pixels (filled (with_pixels p b) s).pixels ≡ true

-- filling with s, then with t, is filling with the greater of both (a granulometry)
abbrev pub Filled-twice : Type 0
Filled-twice = (p : Picture) (s t : ℕ) → filled (filled p s) t ≡ filled p (max s t)
