-- `p5::field::digits_at` meets its contract: below six the count of the first six bytes is that of all.
use Rattle.std.proofs.Common.{◌≡◌, List, ℕ, ◌+◌, ◌<◌, ◌≤◌, length, take, drop, ap, ap₂, sym, ◌∙◌, arith}
use Rattle.std.specs.List.{prefix_len}
use Rattle.std.proofs.lemmas.List.{length-take-le}
use Rattle.p5.specs.declared.field.TheConstants.{MOST_DIGITS}
use Rattle.p5.specs.Headers.{number, leading, is_digit, decimal_value}
use Rattle.p5.proofs.Leading.{leading_le, leading-front, leading-prefix, leading-take}
use Rattle.p5.proofs.Digits.{digit_count, digits-none, digits-few, digits-many}
use Rattle.p5.proofs.field.digits_at.Goals as goal

-- the count n of the first m + 1 bytes
module _ (m : ℕ) (s : List ℕ) (n : ℕ) (e : n ≡ prefix_len is_digit (take (m + 1) s)) where
  front : n ≡ leading is_digit (take (m + 1) s)
  front = e ∙ sym (leading-prefix is_digit (take (m + 1) s))

  few : n ≤ m → n ≡ leading is_digit s
  few h = front ∙ (leading-front is_digit s (m + 1)).0 (omega (arith, front))

  many : m < n → m < leading is_digit s
  many h = let all = (leading-front is_digit s (m + 1)).1 (omega (arith, front)) in omega arith

counted : (f s : List ℕ) (p : ℕ) → s ≡ drop p f → leading is_digit s ≡ digit_count f p
counted f s p e = ap (leading is_digit) e

within : (s : List ℕ) (n : ℕ) → n ≡ leading is_digit s → n ≤ length s
within s n e = omega (arith, e, leading_le is_digit s)

pub slice_bounds-decimal_value-end : goal.slice_bounds-decimal_value-end
slice_bounds-decimal_value-end c =
    let s = c.bytes_from-bytes.result.now in
    sym (length-take-le _ s (within s _ (few MOST_DIGITS s _ c.digit_count-count.ensures (omega arith))))

pub decimal_value-requires : goal.decimal_value-requires
decimal_value-requires c =
    let s = c.bytes_from-bytes.result.now in
    let n = c.digit_count-count.result in
    let same : n ≡ leading is_digit s = few MOST_DIGITS s n c.digit_count-count.ensures (omega arith) in
    let long : length (take n s) ≡ n = length-take-le n s (within s n same) in
    (omega arith, leading-take is_digit s n (omega (arith, same)))

pub returns-in-0 : goal.returns-in-0
returns-in-0 c =
    let f = c.args.file.now in
    let at = c.args.at in
    let s = c.bytes_from-bytes.result.now in
    let n : c.digit_count-count.result ≡ digit_count f at =
    few MOST_DIGITS s _ c.digit_count-count.ensures (omega (arith, c.in-0.is)) ∙ counted f s at c.bytes_from-bytes.ensures
    in
    sym (digits-none _ _ (sym n ∙ c.in-0.is))

pub returns-in-1-to-5 : goal.returns-in-1-to-5
returns-in-1-to-5 c =
    let f = c.args.file.now in
    let at = c.args.at in
    let s = c.bytes_from-bytes.result.now in
    let n : c.digit_count-count.result ≡ digit_count f at =
    few MOST_DIGITS s _ c.digit_count-count.ensures (omega arith) ∙ counted f s at c.bytes_from-bytes.ensures
    in
    let some : 1 ≤ digit_count f at = omega arith in
    let most : digit_count f at ≤ 5 = omega arith in
    ap₂ number
    (c.decimal_value.ensures ∙ ap₂ (λ (k : ℕ) (l : List ℕ). decimal_value (take k l)) n c.bytes_from-bytes.ensures)
    (ap (λ (k : ℕ). at + k) n)
    ∙ sym (digits-few f at some most)

pub returns-in_default : goal.returns-in_default
returns-in_default c =
    let f = c.args.file.now in
    let at = c.args.at in
    let s = c.bytes_from-bytes.result.now in
    let more : MOST_DIGITS < leading is_digit s = many MOST_DIGITS s _ c.digit_count-count.ensures (omega arith) in
    let beyond : 5 < digit_count f at = omega (arith, more, counted f s at c.bytes_from-bytes.ensures) in
    sym (digits-many f at beyond)
