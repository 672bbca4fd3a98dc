-- Digits from a position on, and their value.
use mathlib.Core.Path.{◌≡◌, refl}
use mathlib.Core.Bool.{true}
use mathlib.Core.List.{List, [], ◌∷◌, ◌++◌}
use Prim.Native.Nat.{ℕ, suc, ◌+◌, ◌-◌, ◌*◌, ◌^◌, ◌≤◌, ◌<◌}
use native.Mathlib.Nat.{pow-suc, pow-le-pow_right, lt_of_lt_of_le, le_trans, add-zero}
use native.Mathlib.Omega.{arith}
use borrow.Author.Tests.{leb-true, eq-eqb, ne_eqb, le-leb, lt-leb}
use lib.Dec.{leb}
use lib.Arith.{digits_lt}
use lib.ListN.{length, get_or, take, drop}
use lib.Seq.{length-take-le}
use Rattle.std.specs.Prelude.{Err}
use Rattle.lists.specs.Lists.{all}
use Rattle.lists.proofs.Lists.{all-mem}
use Rattle.lists.proofs.Indices.{index-mem}
use Rattle.lists.proofs.Members.{all_take}
use Rattle.p5.specs.Headers.{number, leading, is_digit, decimal_from, decimal_value, digits_at}
use Rattle.lists.proofs.Tests.{and_left, and_right}

-- the number of digits from a position on, and the three answers that it leads to
abbrev pub digit_count : List ℕ → ℕ → ℕ
digit_count f p = leading is_digit (drop p f)

module _ (f : List ℕ) (p : ℕ) where
  pub digits-none : digit_count f p ≡ 0 → digits_at f p ≡ Err p
  unfolding digits_at
  digits-none e = rw (eq-eqb _ _ e)

  pub digits-few : 1 ≤ digit_count f p → digit_count f p ≤ 5 → digits_at f p ≡ number (decimal_value (take (digit_count f p) (drop p f))) (p + digit_count f p)
  unfolding digits_at
  digits-few h k = rw (ne_eqb (leading is_digit (drop p f)) 0 (omega arith), le-leb _ _ k)

  pub digits-many : 5 < digit_count f p → digits_at f p ≡ Err (p + 5)
  unfolding digits_at
  digits-many h = rw (ne_eqb (leading is_digit (drop p f)) 0 (omega arith), lt-leb _ _ h)

-- one digit more behind the others
pub decimal-snoc : (v : ℕ) (s : List ℕ) (b : ℕ) → decimal_from v (s ++ b ∷ []) ≡ decimal_from v s * 10 + (b - 48)
decimal-snoc v [] b = refl
decimal-snoc v (a ∷ s) b = decimal-snoc (v * 10 + (a - 48)) s b

-- digits behind a value of at most l digits
decimal-from : (v : ℕ) (s : List ℕ) (l : ℕ) → all is_digit s ≡ true → v < 10 ^ l → decimal_from v s < 10 ^ (l + length s)
decimal-from v [] l d h = rw add-zero h
decimal-from v (b ∷ s) l d h =
    let small : b ≤ 57 = leb-true b 57 (and_right (leb 48 b) _ (and_left (is_digit b) _ d)) in
    let e : l + suc (length s) ≡ suc l + length s = omega arith in
    rw e (decimal-from (v * 10 + (b - 48)) s (suc l) (and_right (is_digit b) _ d) (rw pow-suc (digits_lt h (omega arith))))

-- the value of digits is below the power of ten of their number
pub decimal-below : (s : List ℕ) → all is_digit s ≡ true → decimal_value s < 10 ^ length s
decimal-below s d =
    let less : decimal_value s < 10 ^ (0 + length s) = decimal-from 0 s 0 d (omega arith) in
    let e : 0 + length s ≡ length s = omega arith in
    rw e at less

-- a member of at most five digits
module _ (s : List ℕ) (i : ℕ) (h : i < length s) where
  -- the value of those before it still fits with one digit more
  pub decimal-small : length s ≤ 5 → all is_digit s ≡ true → decimal_value (take i s) < 10000
  decimal-small few d =
      let below : decimal_value (take i s) < 10 ^ length (take i s) = decimal-below (take i s) (all_take is_digit i s d) in
      let short : length (take i s) ≤ 4 = omega (arith, length-take-le i s (omega arith)) in
      lt_of_lt_of_le below (le_trans (pow-le-pow_right (omega arith) short) (omega arith))

  -- it is a digit
  pub digit-range : all is_digit s ≡ true → (48 ≤ get_or s i 0) × (get_or s i 0 ≤ 57)
  digit-range d =
      let one : is_digit (get_or s i 0) ≡ true = all-mem is_digit d (index-mem 0 s i h) in
      (leb-true 48 _ (and_left (leb 48 (get_or s i 0)) _ one), leb-true _ 57 (and_right (leb 48 (get_or s i 0)) _ one))
