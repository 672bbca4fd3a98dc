-- The grammar of a P5 header, in the order of the scope document, with comments. A position counts bytes from the start of the file.
use Rattle.std.specs.Prelude.{Bool, false, ◌&&◌, ◌||◌, not, List, [], ◌∷◌, ℕ, suc, ◌+◌, ◌-◌, ◌*◌, eqb, leb, get_or, take, drop, Result, Ok, Err}
use Rattle.lists.specs.Lists.{pick}
use Rattle.p5.specs.declared.field.Number.{Number}
use Rattle.p5.specs.declared.header.Header.{Header}

-- the first two bytes are 80 and 53, the letters P5
abbrev pub begins_p5 : List ℕ → Bool
begins_p5 f = eqb (get_or f 0 0) 80 && eqb (get_or f 1 0) 53

-- white space is any of the bytes 9, 10, 13 and 32
abbrev pub is_white : ℕ → Bool
is_white b = eqb b 9 || (eqb b 10 || (eqb b 13 || eqb b 32))

-- how many bytes at the front pass the test, up to the first that does not
abbrev pub leading : (ℕ → Bool) → List ℕ → ℕ
leading t [] = 0
leading t (b ∷ s) = pick (t b) (suc (leading t s)) 0

-- a byte that ends a line: 10 or 13
abbrev pub ends_line : ℕ → Bool
ends_line b = eqb b 10 || eqb b 13

-- a comment goes from # (byte 35) up to the next byte that ends a line, which it includes: whether one runs after byte b; c: one ran before it
abbrev pub comment_after : Bool → ℕ → Bool
comment_after c b = pick c (not (ends_line b)) (eqb b 35)

-- white space or #; c: a comment runs, and any byte is of it
abbrev pub is_blank : Bool → ℕ → Bool
is_blank c b = c || (is_white b || eqb b 35)

-- how many bytes at the front are white space and comments, in any order; c: a comment runs already
abbrev pub blank_length : Bool → List ℕ → ℕ
blank_length c [] = 0
blank_length c (b ∷ s) = pick (is_blank c b) (suc (blank_length (comment_after c b) s)) 0

-- the gap before a number, white space and comments from a position on, of which the first byte is white space: the position after it
unfoldable pub gap_end : List ℕ → ℕ → ℕ
gap_end f p = pick (is_white (get_or f p 0)) (p + blank_length false (drop p f)) p

-- a decimal digit is one of the bytes 48 to 57
abbrev pub is_digit : ℕ → Bool
is_digit b = leb 48 b && leb b 57

-- the value of digits that follow digits of value v
abbrev pub decimal_from : ℕ → List ℕ → ℕ
decimal_from v [] = v
decimal_from v (b ∷ s) = decimal_from (v * 10 + (b - 48)) s

-- the value of digits
abbrev pub decimal_value : List ℕ → ℕ
decimal_value s = decimal_from 0 s

-- the answer of a header number: its value and the position after it
abbrev pub number : ℕ → ℕ → Result Number ℕ
number v p = Ok (record { value = v; end = p })

-- 1 to 5 digits from a position on: their value and the position after them; a missing digit or a sixth one is unfit
unfoldable pub digits_at : List ℕ → ℕ → Result Number ℕ
digits_at f p =
    let d = leading is_digit (drop p f) in
    pick (eqb d 0) (Err p) (pick (leb d 5) (number (decimal_value (take d (drop p f))) (p + d)) (Err (p + 5)))

-- a header number: a gap of at least one byte, then the digits
unfoldable pub number_at : List ℕ → ℕ → Result Number ℕ
number_at f p = pick (eqb (gap_end f p) p) (Err p) (digits_at f (gap_end f p))

-- one white space byte after the third number; the pixels begin after it
unfoldable pub end_at : List ℕ → ℕ → ℕ → ℕ → ℕ → Result Header ℕ
end_at f w h m p =
    pick (is_white (get_or f p 0)) (Ok (record { width = w; height = h; largest = m; offset = p + 1 })) (Err p)

-- the walk from the answer of the third number, of the second, of the first: a number that is not well formed ends it there
abbrev pub from_largest : List ℕ → ℕ → ℕ → Result Number ℕ → Result Header ℕ
from_largest f w h (Ok n) = end_at f w h n.value n.end
from_largest f w h (Err p) = Err p

-- the walk from the height on
abbrev pub from_height : List ℕ → ℕ → Result Number ℕ → Result Header ℕ
from_height f w (Ok n) = from_largest f w n.value (number_at f n.end)
from_height f w (Err p) = Err p

-- the walk from the width on
abbrev pub from_width : List ℕ → Result Number ℕ → Result Header ℕ
from_width f (Ok n) = from_height f n.value (number_at f n.end)
from_width f (Err p) = Err p

-- the whole header: width, height, largest sample, one white space byte
unfoldable pub walk : List ℕ → Result Header ℕ
walk f = from_width f (number_at f 2)
