-- What reading one P5 file answers.
use Rattle.std.specs.Prelude.{Bool, ◌&&◌, not, List, ℕ, ◌*◌, eqb, leb, length, drop, Result, Ok, Err}
use Rattle.lists.specs.Lists.{pick}
use Rattle.picture.specs.Pictures.{side_fits}
use Rattle.refusals.specs.Refusals as refusals
use Rattle.refusals.specs.Refusals.{fault_of}
use Rattle.refusals.specs.declared.Refusal.{Refusal}
use Rattle.refusals.specs.declared.Refusal.TheVariants.{NotP5, Malformed, SideOutside, LargestOutside, CountDiffers, PixelAbove}
use Rattle.p5.specs.declared.header.Header.{Header}
use Rattle.p5.specs.Headers.{begins_p5, leading, walk}

-- the largest sample is 1 to 255
abbrev pub largest_fits : ℕ → Bool
largest_fits m = leb 1 m && leb m 255

-- a pixel is at most the largest sample
abbrev pub at_most : ℕ → ℕ → Bool
at_most m b = leb b m

-- the pixels: accepted, or the first place above the largest sample
unfoldable pub on_pixels : Header → List ℕ → Result Header Refusal
on_pixels h s =
    let x = leading (at_most h.largest) s in
    pick (eqb x (length s)) (Ok h) (Err (PixelAbove x))

-- the ranges of a walked header, in the order of the numbers, then the pixels' count, then the pixels
unfoldable pub on_header : Header → List ℕ → Result Header Refusal
on_header h s =
    pick (not (side_fits h.width && side_fits h.height)) (Err SideOutside)
    (pick (not (largest_fits h.largest)) (Err LargestOutside)
    (pick (not (eqb (length s) (h.width * h.height))) (Err CountDiffers) (on_pixels h s)))

-- ranges are tested only after the whole header is walked
abbrev pub on_walk : List ℕ → Result Header ℕ → Result Header Refusal
on_walk f (Ok h) = on_header h (drop h.offset f)
on_walk f (Err p) = Err (Malformed p)

-- the answer for a file
unfoldable pub read_file : List ℕ → Result Header Refusal
read_file f = pick (not (begins_p5 f)) (Err NotP5) (on_walk f (walk f))

-- the number of an answer, 0 for an accepted file
abbrev pub outcome_number : Result Header Refusal → ℕ
outcome_number r = fault_of r

-- the place of an answer: the offset of the first unfit byte, the first place above the largest sample, else 0
abbrev pub place_of : Result Header Refusal → ℕ
place_of (Ok h) = 0
place_of (Err e) = refusals.place_of e

-- the header of a refused file: every figure is 0
abbrev pub no_header : Header
no_header = record { width = 0; height = 0; largest = 0; offset = 0 }

-- the header of an answer
abbrev pub header_of : Result Header Refusal → Header
header_of (Ok h) = h
header_of (Err e) = no_header
