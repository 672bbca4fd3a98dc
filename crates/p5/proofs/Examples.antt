-- Small files and their answers, and the kinds of bytes, by computation.
use mathlib.Core.Path.{◌≡◌, refl}
use mathlib.Core.List.{List, [], ◌∷◌, map}
use Prim.Native.Nat.{ℕ}
use Rattle.std.specs.Prelude.{Result, Ok, Err}
use Rattle.refusals.specs.declared.Refusal.{Refusal}
use Rattle.refusals.specs.declared.Refusal.TheVariants.{NotP5, Malformed, SideOutside, LargestOutside, CountDiffers, PixelAbove}
use Rattle.lists.specs.Lists.{select, range}
use Rattle.p5.specs.declared.header.Header.{Header}
use Rattle.p5.specs.Headers.{is_white, ends_line, is_digit, gap_end, digits_at, number_at, end_at, walk}
use Rattle.p5.specs.Files.{on_pixels, on_header, read_file}

-- a file and its answer
record Example : Type 0 where
  file : List ℕ
  answer : Result Header Refusal

abbrev accepted : ℕ → ℕ → ℕ → ℕ → Result Header Refusal
accepted w h m o = Ok (record { width = w; height = h; largest = m; offset = o })

abbrev example : List ℕ → Result Header Refusal → Example
example f o = record { file = f; answer = o }

abbrev examples : List Example
examples =
    -- the row 3 1 4 0 2
    example (80 ∷ 53 ∷ 32 ∷ 53 ∷ 32 ∷ 49 ∷ 32 ∷ 57 ∷ 10 ∷ 3 ∷ 1 ∷ 4 ∷ 0 ∷ 2 ∷ []) (accepted 5 1 9 9) ∷
    -- every kind of white space, leading zeros
    example (80 ∷ 53 ∷ 9 ∷ 10 ∷ 13 ∷ 32 ∷ 48 ∷ 48 ∷ 48 ∷ 48 ∷ 53 ∷ 10 ∷ 49 ∷ 32 ∷ 48 ∷ 48 ∷ 57 ∷ 13 ∷ 9 ∷ 9 ∷ 9 ∷ 9 ∷ 9 ∷ []) (accepted 5 1 9 18) ∷
    -- no byte, one letter, another kind
    example ([]) (Err NotP5) ∷
    example (80 ∷ []) (Err NotP5) ∷
    example (80 ∷ 54 ∷ 32 ∷ 49 ∷ 32 ∷ 49 ∷ 32 ∷ 57 ∷ 10 ∷ 1 ∷ []) (Err NotP5) ∷
    -- the file ends in the header
    example (80 ∷ 53 ∷ []) (Err (Malformed 2)) ∷
    example (80 ∷ 53 ∷ 32 ∷ 53 ∷ 32 ∷ 49 ∷ 32 ∷ 57 ∷ []) (Err (Malformed 8)) ∷
    -- no gap, byte 11, no digit, a sixth digit, no white space after the largest sample
    example (80 ∷ 53 ∷ 53 ∷ 32 ∷ 49 ∷ 32 ∷ 57 ∷ 10 ∷ []) (Err (Malformed 2)) ∷
    example (80 ∷ 53 ∷ 11 ∷ 53 ∷ 32 ∷ 49 ∷ 32 ∷ 57 ∷ 10 ∷ []) (Err (Malformed 2)) ∷
    example (80 ∷ 53 ∷ 32 ∷ 45 ∷ 53 ∷ 32 ∷ 49 ∷ 32 ∷ 57 ∷ 10 ∷ []) (Err (Malformed 3)) ∷
    example (80 ∷ 53 ∷ 32 ∷ 48 ∷ 48 ∷ 48 ∷ 48 ∷ 48 ∷ 53 ∷ 32 ∷ 49 ∷ 32 ∷ 57 ∷ 10 ∷ []) (Err (Malformed 8)) ∷
    example (80 ∷ 53 ∷ 32 ∷ 53 ∷ 32 ∷ 49 ∷ 32 ∷ 57 ∷ 45 ∷ []) (Err (Malformed 8)) ∷
    -- a comment before each number, ended by byte 10 or 13, each number right after it
    example (80 ∷ 53 ∷ 32 ∷ 35 ∷ 99 ∷ 10 ∷ 53 ∷ 10 ∷ 35 ∷ 13 ∷ 49 ∷ 9 ∷ 35 ∷ 35 ∷ 10 ∷ 35 ∷ 57 ∷ 13 ∷ 57 ∷ 10 ∷ 3 ∷ 1 ∷ 4 ∷ 0 ∷ 2 ∷ []) (accepted 5 1 9 20) ∷
    -- white space after comments; bytes 0, 9, 11, 12, 32 and 255 in one, which goes up to the next byte that ends a line
    example (80 ∷ 53 ∷ 13 ∷ 35 ∷ 0 ∷ 9 ∷ 11 ∷ 12 ∷ 32 ∷ 255 ∷ 32 ∷ 53 ∷ 10 ∷ 32 ∷ 53 ∷ 32 ∷ 9 ∷ 35 ∷ 13 ∷ 10 ∷ 49 ∷ 32 ∷ 57 ∷ 10 ∷ 3 ∷ 1 ∷ 4 ∷ 0 ∷ 2 ∷ []) (accepted 5 1 9 24) ∷
    -- # after the white space byte that ends the header is a pixel
    example (80 ∷ 53 ∷ 32 ∷ 49 ∷ 32 ∷ 49 ∷ 32 ∷ 57 ∷ 57 ∷ 10 ∷ 35 ∷ []) (accepted 1 1 99 10) ∷
    -- # right after P5, inside a number, right after each number
    example (80 ∷ 53 ∷ 35 ∷ 10 ∷ 53 ∷ 32 ∷ 49 ∷ 32 ∷ 57 ∷ 10 ∷ []) (Err (Malformed 2)) ∷
    example (80 ∷ 53 ∷ 32 ∷ 49 ∷ 35 ∷ 10 ∷ 48 ∷ 32 ∷ 49 ∷ 32 ∷ 57 ∷ 10 ∷ []) (Err (Malformed 4)) ∷
    example (80 ∷ 53 ∷ 32 ∷ 53 ∷ 35 ∷ 10 ∷ 32 ∷ 49 ∷ 32 ∷ 57 ∷ 10 ∷ []) (Err (Malformed 4)) ∷
    example (80 ∷ 53 ∷ 32 ∷ 53 ∷ 32 ∷ 49 ∷ 35 ∷ 10 ∷ 32 ∷ 57 ∷ 10 ∷ []) (Err (Malformed 6)) ∷
    example (80 ∷ 53 ∷ 32 ∷ 53 ∷ 32 ∷ 49 ∷ 32 ∷ 57 ∷ 35 ∷ 10 ∷ 10 ∷ []) (Err (Malformed 8)) ∷
    -- after a comment a sixth digit, another comment that never ends, the end of the file
    example (80 ∷ 53 ∷ 32 ∷ 35 ∷ 10 ∷ 48 ∷ 48 ∷ 48 ∷ 48 ∷ 48 ∷ 53 ∷ 32 ∷ 49 ∷ 32 ∷ 57 ∷ 10 ∷ []) (Err (Malformed 10)) ∷
    example (80 ∷ 53 ∷ 32 ∷ 35 ∷ 10 ∷ 35 ∷ 53 ∷ 32 ∷ 49 ∷ 32 ∷ 57 ∷ []) (Err (Malformed 11)) ∷
    example (80 ∷ 53 ∷ 32 ∷ 53 ∷ 32 ∷ 49 ∷ 32 ∷ 35 ∷ 10 ∷ []) (Err (Malformed 9)) ∷
    -- sides 0 and 41, before the largest sample
    example (80 ∷ 53 ∷ 32 ∷ 48 ∷ 32 ∷ 49 ∷ 32 ∷ 57 ∷ 10 ∷ []) (Err SideOutside) ∷
    example (80 ∷ 53 ∷ 32 ∷ 49 ∷ 32 ∷ 52 ∷ 49 ∷ 32 ∷ 48 ∷ 10 ∷ []) (Err SideOutside) ∷
    -- largest sample 0 and 256, before the count
    example (80 ∷ 53 ∷ 32 ∷ 49 ∷ 32 ∷ 49 ∷ 32 ∷ 48 ∷ 10 ∷ 0 ∷ []) (Err LargestOutside) ∷
    example (80 ∷ 53 ∷ 32 ∷ 49 ∷ 32 ∷ 49 ∷ 32 ∷ 50 ∷ 53 ∷ 54 ∷ 10 ∷ []) (Err LargestOutside) ∷
    -- one pixel too few and too many, before the pixels
    example (80 ∷ 53 ∷ 32 ∷ 50 ∷ 32 ∷ 49 ∷ 32 ∷ 57 ∷ 10 ∷ 99 ∷ []) (Err CountDiffers) ∷
    example (80 ∷ 53 ∷ 32 ∷ 50 ∷ 32 ∷ 49 ∷ 32 ∷ 57 ∷ 10 ∷ 99 ∷ 0 ∷ 0 ∷ []) (Err CountDiffers) ∷
    -- the first pixel above the largest sample
    example (80 ∷ 53 ∷ 32 ∷ 51 ∷ 32 ∷ 49 ∷ 32 ∷ 57 ∷ 10 ∷ 9 ∷ 10 ∷ 11 ∷ []) (Err (PixelAbove 1)) ∷
    []

-- each file has its answer
right : map (λ (e : Example). read_file e.file) examples ≡ map (λ (e : Example). e.answer) examples
unfolding gap_end digits_at number_at end_at walk on_pixels on_header read_file
right = refl

-- of all bytes these are white space, these end a line, and these are digits
byte-white : select is_white (range 0 256) ≡ 9 ∷ 10 ∷ 13 ∷ 32 ∷ []
byte-white = refl

byte-ends : select ends_line (range 0 256) ≡ 10 ∷ 13 ∷ []
byte-ends = refl

byte-digits : select is_digit (range 0 256) ≡ range 48 10
byte-digits = refl
