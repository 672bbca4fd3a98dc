-- Differences of a row and their sums: each undoes the other on bytes, entry by entry.
use mathlib.Core.Path.{◌≡◌, refl, ap, ap₂}
use mathlib.Core.Bool.{true}
use mathlib.Core.List.{List, [], ◌∷◌}
use Prim.Native.Nat.{ℕ, zero, suc, ◌<◌}
use native.Mathlib.Omega.{arith}
use borrow.Author.Tests.{ltb-true, lt-ltb}
use lib.Dec.{ltb}
use lib.ListN.{length, get_or}
use Rattle.picture.specs.Pictures.{all_bytes}
use Rattle.lists.proofs.Tests.{and_left, and_right, and_both}
use Rattle.stored_rows.specs.Rows.{difference, pixel_after, differences_from, differences, sums_from, sums}

-- the first of bytes, and the others
byte-first : (b : ℕ) (s : List ℕ) → all_bytes (b ∷ s) ≡ true → b < 256
byte-first b s e = ltb-true b 256 (and_left (ltb b 256) _ e)

bytes_rest : (b : ℕ) (s : List ℕ) → all_bytes (b ∷ s) ≡ true → all_bytes s ≡ true
bytes_rest b s e = and_right (ltb b 256) _ e

-- each undoes the other on one byte
after-difference : (l b : ℕ) → l < 256 → b < 256 → pixel_after l (difference l b) ≡ b
after-difference l b h g = omega arith

difference-after : (l d : ℕ) → l < 256 → d < 256 → difference l (pixel_after l d) ≡ d
difference-after l d h g = omega arith

after-byte : (l d : ℕ) → pixel_after l d < 256
after-byte l d = omega arith

sums-differences-from : (l : ℕ) (s : List ℕ) → l < 256 → all_bytes s ≡ true → sums_from l (differences_from l s) ≡ s
sums-differences-from l [] h e = refl
sums-differences-from l (b ∷ s) h e =
    let g = byte-first b s e in
    rw (after-difference l b h g) (ap (λ (t : List ℕ). b ∷ t) (sums-differences-from b s g (bytes_rest b s e)))

pub sums-differences : (s : List ℕ) → all_bytes s ≡ true → sums (differences s) ≡ s
sums-differences [] e = refl
sums-differences (b ∷ s) e = ap (λ (t : List ℕ). b ∷ t) (sums-differences-from b s (byte-first b s e) (bytes_rest b s e))

differences-sums-from : (l : ℕ) (s : List ℕ) → l < 256 → all_bytes s ≡ true → differences_from l (sums_from l s) ≡ s
differences-sums-from l [] h e = refl
differences-sums-from l (d ∷ s) h e =
    ap₂ (λ (x : ℕ) (t : List ℕ). x ∷ t) (difference-after l d h (byte-first d s e))
    (differences-sums-from (pixel_after l d) s (after-byte l d) (bytes_rest d s e))

pub differences-sums : (s : List ℕ) → all_bytes s ≡ true → differences (sums s) ≡ s
differences-sums [] e = refl
differences-sums (b ∷ s) e = ap (λ (t : List ℕ). b ∷ t) (differences-sums-from b s (byte-first b s e) (bytes_rest b s e))

-- as many as there were
pub length-differences-from : (l : ℕ) (s : List ℕ) → length (differences_from l s) ≡ length s
length-differences-from l [] = refl
length-differences-from l (b ∷ s) = ap suc (length-differences-from b s)

pub length-differences : (s : List ℕ) → length (differences s) ≡ length s
length-differences [] = refl
length-differences (b ∷ s) = ap suc (length-differences-from b s)

pub length-sums-from : (l : ℕ) (s : List ℕ) → length (sums_from l s) ≡ length s
length-sums-from l [] = refl
length-sums-from l (d ∷ s) = ap suc (length-sums-from (pixel_after l d) s)

pub length-sums : (s : List ℕ) → length (sums s) ≡ length s
length-sums [] = refl
length-sums (b ∷ s) = ap suc (length-sums-from b s)

-- differences and sums are bytes
difference-byte : (l b : ℕ) → difference l b < 256
difference-byte l b = omega arith

bytes-differences-from : (l : ℕ) (s : List ℕ) → all_bytes (differences_from l s) ≡ true
bytes-differences-from l [] = refl
bytes-differences-from l (b ∷ s) = and_both (lt-ltb (difference l b) 256 (difference-byte l b)) (bytes-differences-from b s)

pub bytes-differences : (s : List ℕ) → all_bytes s ≡ true → all_bytes (differences s) ≡ true
bytes-differences [] e = refl
bytes-differences (b ∷ s) e = and_both (and_left (ltb b 256) _ e) (bytes-differences-from b s)

bytes-sums-from : (l : ℕ) (s : List ℕ) → all_bytes (sums_from l s) ≡ true
bytes-sums-from l [] = refl
bytes-sums-from l (d ∷ s) = and_both (lt-ltb (pixel_after l d) 256 (after-byte l d)) (bytes-sums-from (pixel_after l d) s)

pub bytes-sums : (s : List ℕ) → all_bytes s ≡ true → all_bytes (sums s) ≡ true
bytes-sums [] e = refl
bytes-sums (b ∷ s) e = and_both (and_left (ltb b 256) _ e) (bytes-sums-from b s)

-- the first pixel of a row is its own difference from 0
pub differences-zero : (s : List ℕ) → all_bytes s ≡ true → differences s ≡ differences_from 0 s
differences-zero [] e = refl
differences-zero (b ∷ s) e =
    let g = byte-first b s e in
    let same : b ≡ difference 0 b = omega arith in
    ap (λ (x : ℕ). x ∷ differences_from b s) same

pub sums-zero : (s : List ℕ) → all_bytes s ≡ true → sums s ≡ sums_from 0 s
sums-zero [] e = refl
sums-zero (b ∷ s) e =
    let g = byte-first b s e in
    let same : b ≡ pixel_after 0 b = omega arith in
    ap (λ (x : ℕ). x ∷ sums_from x s) same

-- one entry, from its left neighbour: that of the first is the pixel before
pub difference-at : (l : ℕ) (s : List ℕ) (c : ℕ) → c < length s
    → get_or (differences_from l s) c 0 ≡ difference (get_or (l ∷ s) c 0) (get_or s c 0)
difference-at l [] c h = absurd (omega arith)
difference-at l (b ∷ s) zero h = refl
difference-at l (b ∷ s) (suc c) h = difference-at b s c (omega arith)

pub sum-at : (l : ℕ) (s : List ℕ) (c : ℕ) → c < length s
    → get_or (sums_from l s) c 0 ≡ pixel_after (get_or (l ∷ sums_from l s) c 0) (get_or s c 0)
sum-at l [] c h = absurd (omega arith)
sum-at l (d ∷ s) zero h = refl
sum-at l (d ∷ s) (suc c) h = sum-at (pixel_after l d) s c (omega arith)
