-- A number written in decimal digits is a numeral of a header, and the shortest of its value.
use mathlib.Core.Path.{◌≡◌, refl, sym, ap, ◌∙◌}
use mathlib.Core.Bool.{true}
use mathlib.Core.Logic.{by_cases}
use mathlib.Core.List.{List, [], ◌∷◌}
use Prim.Native.Nat.{ℕ, zero, suc, ◌+◌, ◌/◌, ◌%◌, ◌^◌, ◌≤◌, ◌<◌}
use native.Mathlib.Nat.{pow-suc}
use native.Mathlib.Decide.{dec_lt}
use native.Mathlib.Omega.{arith}
use borrow.Author.Tests.{le-leb}
use lib.ListN.{length, length-append}
use Rattle.lists.specs.Lists.{all}
use Rattle.text.specs.Decimal.{decimal}
use Rattle.text.proofs.Decimals.{decimal-one, decimal-more, decimal-length}
use Rattle.p5.specs.Headers.{is_digit, decimal_value}
use Rattle.p5.specs.Shapes.{Numeral}
use Rattle.p5.proofs.Digits.{decimal-snoc, decimal-below}
use Rattle.lists.proofs.Tests.{and_both}
use Rattle.lists.proofs.Lists.{all_snoc}

digit : (n : ℕ) → n < 10 → is_digit (48 + n) ≡ true
digit n h = and_both (le-leb 48 (48 + n) (omega arith)) (le-leb (48 + n) 57 (omega arith))

-- what is known of the digits of a number
record DigitsOf (n : ℕ) : Type 0 where
  some : 1 ≤ length (decimal n)
  digits : all is_digit (decimal n) ≡ true
  value : decimal_value (decimal n) ≡ n

one-digit : (n : ℕ) → n < 10 → DigitsOf n
one-digit n h =
    let e = decimal-one n h in
    record {
      some = omega (arith, ap length e);
      digits = ap (all is_digit) e ∙ and_both (digit n h) refl;
      value = ap decimal_value e ∙ omega arith;
    }

more-digits : (n : ℕ) → 10 ≤ n → DigitsOf (n / 10) → DigitsOf n
more-digits n h w =
    let e = decimal-more n h in
    let d = decimal (n / 10) in
    let b = 48 + n % 10 in
    record {
      some = omega (arith, ap length e, length-append d (b ∷ []));
      digits = ap (all is_digit) e ∙ all_snoc is_digit d b w.digits (digit (n % 10) (omega arith));
      value = ap decimal_value e ∙ decimal-snoc 0 d b ∙ omega (arith, w.value);
    }

-- by the number of digits
digits-below : (l n : ℕ) → n < 10 ^ suc l → DigitsOf n
digits-below zero n h = one-digit n h
digits-below (suc l) n h =
    by_cases (dec_lt n 10)
    (λ b. one-digit n b)
    (λ b. let p = pow-suc 10 (suc l) in more-digits n (omega arith) (digits-below l (n / 10) (omega arith)))

pub numeral : (n : ℕ) → n < 100000 → Numeral (decimal n) n
numeral n h =
    let w = digits-below 4 n h in
    record { some = w.some; most = decimal-length 4 n h; digits = w.digits; value = sym w.value }

-- digits of a value are at least as many as its decimal digits
shortest : (d : List ℕ) (v : ℕ) → 1 ≤ length d → v < 10 ^ length d → length (decimal v) ≤ length d
shortest [] v some h = absurd (omega arith)
shortest (b ∷ d) v some h = decimal-length (length d) v h

pub numeral-shortest : {d : List ℕ} {v : ℕ} → Numeral d v → length (decimal v) ≤ length d
numeral-shortest {d} {v} n = shortest d v n.some (rw n.value (decimal-below d n.digits))
