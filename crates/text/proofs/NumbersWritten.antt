-- Laws of numbers written: by decimal digits, as the fields of a line.
use Rattle.std.proofs.Common.{◌≡◌, sym, ap, subst, ◌∙◌, List, [], ◌∷◌, ◌++◌, ℕ, suc, ◌+◌, ◌/◌, ◌%◌, ◌≤◌, ◌<◌, arith, add-one, length, get_or, take, length-append}
use Rattle.std.proofs.Math.Logic.{by_cases}
use Rattle.std.proofs.Math.Decide.{dec_lt}
use Rattle.lists.specs.Writing.{Written}
use Rattle.lists.proofs.Writings.{written_then, written-length}
use Rattle.text.specs.Decimal.{decimal, fields}
use Rattle.text.proofs.Decimals.{spaced, decimal-one, decimal-more, fields-last, spaced-next, spaced-room}

-- a number by its last digit
pub number-one : (n : ℕ) {at to : ℕ} {a b : List ℕ} → n < 10 → Written at ((48 + n) ∷ []) a to b → Written at (decimal n) a to b
number-one n {at} {to} {a} {b} h w = subst (λ (xs : List ℕ). Written at xs a to b) (sym (decimal-one n h)) w

pub number_more :
    (n : ℕ) {at m to : ℕ} {a b c : List ℕ} → 10 ≤ n → at ≤ length a →
    Written at (decimal (n / 10)) a m b → Written m ((48 + n % 10) ∷ []) b to c → Written at (decimal n) a to c
number_more n {at} {m} {to} {a} {b} {c} h r v w =
    subst (λ (xs : List ℕ). Written at xs a to c) (sym (decimal-more n h)) (written_then r v w)

-- room for all digits but the last, and then for the last
pub number-room : (n : ℕ) → 10 ≤ n → suc (length (decimal (n / 10))) ≡ length (decimal n)
number-room n h =
    let e = ap length (decimal-more n h) ∙ length-append (decimal (n / 10)) ((48 + n % 10) ∷ []) in omega arith

pub number-some : (n : ℕ) → n < 10 → length (decimal n) ≡ 1
number-some n h = ap length (decimal-one n h)

-- a tenth has no more digits
pub number-fewer : (n : ℕ) → length (decimal (n / 10)) ≤ length (decimal n)
number-fewer n =
    by_cases (dec_lt n 10)
    (λ b. omega (arith, number-some n b, number-some (n / 10) (omega arith)))
    (λ b. omega (arith, number-room n (omega arith)))

-- one number more of a line, and the last one with the byte that ends it
pub spaced-more :
    (ns a b c : List ℕ) (at to next i : ℕ) → i < length ns → at ≤ length a →
    Written at (spaced (take i ns)) a to b → Written to (decimal (get_or ns i 0) ++ (32 ∷ [])) b next c → Written at (spaced (take (i + 1) ns)) a next c
spaced-more ns a b c at to next i h r v w =
    subst (λ (xs : List ℕ). Written at xs a next c)
    (sym (ap (λ (n : ℕ). spaced (take n ns)) (add-one i) ∙ spaced-next ns i h))
    (written_then r v w)

pub fields-done :
    (ns a b c : List ℕ) (at to next i : ℕ) {byte : ℕ} → suc i ≡ length ns → at ≤ length a →
    Written at (spaced (take i ns)) a to b → Written to (decimal (get_or ns i 0) ++ (byte ∷ [])) b next c → byte ≡ 10 →
    Written at (fields ns) a next c
fields-done ns a b c at to next i h r v w e =
    subst (λ (xs : List ℕ). Written at xs a next c)
    (ap (λ (n : ℕ). spaced (take i ns) ++ (decimal (get_or ns i 0) ++ (n ∷ []))) e ∙ sym (fields-last ns i h))
    (written_then r v w)

-- room for the number at i behind those before it
pub field_room :
    (ns a b : List ℕ) (at to i : ℕ) → i < length ns → at + length (fields ns) ≤ length a →
    Written at (spaced (take i ns)) a to b → to + suc (length (decimal (get_or ns i 0))) ≤ length b
field_room ns a b at to i h r w =
    let e = w.end in
    let k = spaced-room ns i h in
    let l = written-length (omega arith) w in
    omega arith
