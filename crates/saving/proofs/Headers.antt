-- How long a short header and its file are, and the header as it is written in parts.
use mathlib.Core.Path.{◌≡◌, refl}
use mathlib.Core.List.{List, [], ◌∷◌, ◌++◌}
use Prim.Native.Nat.{ℕ, ◌+◌, ◌≤◌, ◌<◌}
use native.Mathlib.Omega.{arith}
use borrow.Author.Tests.{leb-true}
use lib.Dec.{leb}
use lib.ListN.{length, length-append}
use Rattle.lists.specs.Writing.{Written}
use Rattle.picture.specs.Pictures.{side_fits}
use Rattle.picture.proofs.Sides.{side-most, sides-area}
use Rattle.lists.proofs.Tests.{and_left, and_right}
use Rattle.text.specs.Decimal.{fields}
use Rattle.text.proofs.Decimals.{one-length, two-length}
use Rattle.saving.specs.ShortFiles.{short_header, file_of, header_most, file_most}
use Rattle.saving.proofs.Contents.{Savable}

-- the room that two sides take, and where they end, in either order
pub sides-room : (x y at long : ℕ) → x < 100 → y < 100 → at + 6 ≤ long → at + length (fields (x ∷ y ∷ [])) ≤ long
sides-room x y at long a b l = omega (arith, two-length 1 x y a b)

pub sides-end : {x y from to : ℕ} {a b : List ℕ} → Written from (fields (x ∷ y ∷ [])) a to b → x < 100 → y < 100 → to ≤ from + 6
sides-end {x} {y} w a b = omega (arith, w.end, two-length 1 x y a b)

-- P5, byte 10, the sides, the largest sample
pub header-parts :
    (w h m : ℕ) → ((80 ∷ 53 ∷ []) ++ (10 ∷ [])) ++ fields (w ∷ h ∷ []) ++ fields (m ∷ []) ≡ short_header w h m
unfolding short_header
header-parts w h m = refl

header-most : (w h m : ℕ) → w < 100 → h < 100 → m < 1000 → length (short_header w h m) ≤ header_most
unfolding short_header
header-most w h m a b c =
    omega (arith, length-append (fields (w ∷ h ∷ [])) (fields (m ∷ [])), two-length 1 w h a b, one-length 2 m c)

-- the file in two parts, and its length
module _ (w h m : ℕ) (xs : List ℕ) where
  pub file-parts : short_header w h m ++ xs ≡ file_of w h m xs
  unfolding file_of
  file-parts = refl

  pub file-length : length (file_of w h m xs) ≡ length (short_header w h m) + length xs
  unfolding file_of
  file-length = length-append (short_header w h m) xs

-- what is known of a picture without a fault: how many digits its numbers have at most, how long its file is
module _ {w h m : ℕ} {xs : List ℕ} (s : Savable w h m xs) where
  pub few-digits : (w < 100) × (h < 100) × (m < 1000)
  few-digits =
      let a = side-most w (and_left (side_fits w) _ s.sides) in
      let b = side-most h (and_right (side_fits w) _ s.sides) in
      let c = leb-true m 255 (and_right (leb 1 m) _ s.largest) in
      (omega arith, omega arith, omega arith)

  pub few-pixels : length xs ≤ 1600
  few-pixels = omega (arith, s.count, sides-area w h s.sides)

  pub file-most : length (file_of w h m xs) ≤ file_most
  file-most =
      let d = few-digits in
      omega (arith, file-length w h m xs, header-most w h m d.0 d.1 d.2, few-pixels)
