-- The shape of a P5 file, byte by byte, and the causes of refusal, each by itself. The theorems say that the answers are these.
use Rattle.std.specs.Prelude.{◌≡◌, true, not, ◌⊎◌, List, [], ◌∷◌, ◌++◌, ℕ, suc, ◌+◌, ◌*◌, ◌≤◌, ◌<◌, length, get_or, take}
use Rattle.lists.specs.Lists.{all}
use Rattle.p5.specs.declared.header.Header.{Header}
use Rattle.p5.specs.Headers.{is_white, ends_line, is_digit, decimal_value}

-- a comment: # (byte 35), a text with no end of a line in it, and a byte that ends a line
pub record Comment (c : List ℕ) : Type 0 where
  pub text : List ℕ
  pub last : ℕ
  pub bytes : c ≡ 35 ∷ text ++ last ∷ []
  pub inside : all (λ b. not (ends_line b)) text ≡ true
  pub ends : ends_line last ≡ true

-- white space and comments, in any order
pub data Blank : List ℕ → Type 0 where
  none : Blank []
  white : {b : ℕ} {s : List ℕ} → is_white b ≡ true → Blank s → Blank (b ∷ s)
  comment : {c s : List ℕ} → Comment c → Blank s → Blank (c ++ s)

-- a gap: white space and comments, of which the first byte is white space
pub record Gap (g : List ℕ) : Type 0 where
  pub begins : is_white (get_or g 0 0) ≡ true
  pub blank : Blank g

-- a number: 1 to 5 decimal digits and their value
pub record Numeral (d : List ℕ) (v : ℕ) : Type 0 where
  pub some : 1 ≤ length d
  pub most : length d ≤ 5
  pub digits : all is_digit d ≡ true
  pub value : v ≡ decimal_value d

-- a file with a header: P5, gap, width, gap, height, gap, largest sample, one white space byte, and the rest from the offset on
pub record Headed (f : List ℕ) (h : Header) (rest : List ℕ) : Type 0 where
  pub gap₁ : List ℕ
  pub width : List ℕ
  pub gap₂ : List ℕ
  pub height : List ℕ
  pub gap₃ : List ℕ
  pub largest : List ℕ
  pub last : ℕ
  pub bytes : f ≡ 80 ∷ 53 ∷ gap₁ ++ (width ++ (gap₂ ++ (height ++ (gap₃ ++ (largest ++ last ∷ rest)))))
  pub is-gap₁ : Gap gap₁
  pub is-width : Numeral width h.width
  pub is-gap₂ : Gap gap₂
  pub is-height : Numeral height h.height
  pub is-gap₃ : Gap gap₃
  pub is-largest : Numeral largest h.largest
  pub is_last : is_white last ≡ true
  pub offset : h.offset + length rest ≡ length f

-- x is from low to high
abbrev pub Inside : ℕ → ℕ → ℕ → Type 0
Inside low high x = (low ≤ x) × (x ≤ high)

-- x is not from low to high
abbrev pub Outside : ℕ → ℕ → ℕ → Type 0
Outside low high x = (x < low) ⊎ (high < x)

-- an accepted file: a header with sides and largest sample in range, then n pixels, none above the largest sample
pub record Accepts (f : List ℕ) (h : Header) : Type 0 where
  pub pixels : List ℕ
  pub headed : Headed f h pixels
  pub width : Inside 1 40 h.width
  pub height : Inside 1 40 h.height
  pub largest : Inside 1 255 h.largest
  pub count : length pixels ≡ h.width * h.height
  pub most : (i : ℕ) → i < length pixels → get_or pixels i 0 ≤ h.largest

-- the file does not begin with P5
abbrev pub Other : List ℕ → Type 0
Other f = (t : List ℕ) → f ≡ 80 ∷ 53 ∷ t → ⊥

-- the file has no header: a number or white space is missing, malformed or over 5 digits, or a comment does not end
abbrev pub Unheaded : List ℕ → Type 0
Unheaded f = (h : Header) (s : List ℕ) → Headed f h s → ⊥

-- a pixel is above the largest sample
pub record Above (h : Header) (s : List ℕ) (x : ℕ) : Type 0 where
  pub within : x < length s
  pub above : h.largest < get_or s x 0

-- the cause of each number; from 3 on the file has a header, and a rest after it
pub data Cause (f : List ℕ) : ℕ → Type 0 where
  other : Other f → Cause f 1
  unheaded : Unheaded f → Cause f 2
  side : (h : Header) (s : List ℕ) → Headed f h s → Outside 1 40 h.width ⊎ Outside 1 40 h.height → Cause f 3
  largest : (h : Header) (s : List ℕ) → Headed f h s → Outside 1 255 h.largest → Cause f 4
  count : (h : Header) (s : List ℕ) → Headed f h s → (length s ≡ h.width * h.height → ⊥) → Cause f 5
  above : (h : Header) (s : List ℕ) (x : ℕ) → Headed f h s → Above h s x → Cause f 6

-- some file that begins with these bytes has a header
pub record Begins (u : List ℕ) : Type 0 where
  pub more : List ℕ
  pub header : Header
  pub rest : List ℕ
  pub headed : Headed (u ++ more) header rest

-- the first unfit position: the bytes before it begin a header, and with its own byte they do not, or the file ends there
pub record FirstUnfit (f : List ℕ) (p : ℕ) : Type 0 where
  pub within : p ≤ length f
  pub fit : Begins (take p f)
  pub unfit : (p ≡ length f) ⊎ (Begins (take (suc p) f) → ⊥)

-- the first place above the largest sample
pub record FirstAbove (f : List ℕ) (x : ℕ) : Type 0 where
  pub header : Header
  pub rest : List ℕ
  pub headed : Headed f header rest
  pub found : Above header rest x
  pub none : (i : ℕ) → i < x → get_or rest i 0 ≤ header.largest
