-- Laws of decimal digits: how a number is written by its last digit, how many digits it has, how long fields are.
use Rattle.std.proofs.Common.{◌≡◌, refl, sym, ap, ◌∙◌, List, [], ◌∷◌, ◌++◌, append-nil, append_assoc, ℕ, zero, suc, ◌+◌, ◌*◌, ◌/◌, ◌%◌, ◌^◌, ◌≤◌, ◌<◌, pow-suc, arith, ltb, length, get_or, take, length-append, ltb-true, ltb-false}
use Rattle.std.proofs.Math.Logic.{by_cases}
use Rattle.std.proofs.Math.Decide.{dec_lt}
use Rattle.lists.proofs.Tests.{on-elim}
use Rattle.text.specs.Decimal.{digits_by, decimal, fields}

-- one digit
digits-one : (l n : ℕ) → n < 10 → digits_by (suc l) n ≡ (48 + n) ∷ []
digits-one l n h =
    on-elim (λ (d : List ℕ). d ≡ (48 + n) ∷ []) (ltb n 10)
    (λ e. refl)
    (λ e. absurd (let q = ltb-false n 10 e in omega arith))

digits_more : (l n : ℕ) → 10 ≤ n → digits_by (suc l) n ≡ digits_by l (n / 10) ++ ((48 + n % 10) ∷ [])
digits_more l n h =
    on-elim (λ (d : List ℕ). d ≡ digits_by l (n / 10) ++ ((48 + n % 10) ∷ [])) (ltb n 10)
    (λ e. absurd (let q = ltb-true n 10 e in omega arith))
    (λ e. refl)

-- any number of digits above the number itself is enough
digits-enough : (l m n : ℕ) → n < l → n < m → digits_by l n ≡ digits_by m n
digits-enough zero m n a b = absurd (omega arith)
digits-enough (suc l) zero n a b = absurd (omega arith)
digits-enough (suc l) (suc m) n a b =
    on-elim (λ (d : List ℕ). d ≡ digits_by (suc m) n) (ltb n 10)
    (λ e. sym (digits-one m n (ltb-true n 10 e)))
    (λ e.
    let q = ltb-false n 10 e in
    ap (λ (d : List ℕ). d ++ ((48 + n % 10) ∷ [])) (digits-enough l m (n / 10) (omega arith) (omega arith)) ∙
    sym (digits_more m n q))

pub decimal-one : (n : ℕ) → n < 10 → decimal n ≡ (48 + n) ∷ []
unfolding decimal
decimal-one n h = digits-one n n h

pub decimal-more : (n : ℕ) → 10 ≤ n → decimal n ≡ decimal (n / 10) ++ ((48 + n % 10) ∷ [])
unfolding decimal
decimal-more n h =
    digits_more n n h ∙
    ap (λ (d : List ℕ). d ++ ((48 + n % 10) ∷ [])) (digits-enough n (suc (n / 10)) (n / 10) (omega arith) (omega arith))

-- at most as many digits as the power of ten above the number
pub decimal-length : (l n : ℕ) → n < 10 ^ suc l → length (decimal n) ≤ suc l
decimal-length zero n h = let e = ap length (decimal-one n h) in omega arith
decimal-length (suc l) n h =
    by_cases (dec_lt n 10)
    (λ b. let e = ap length (decimal-one n b) in omega arith)
    (λ b.
    let p = pow-suc 10 (suc l) in
    let r = decimal-length l (n / 10) (omega arith) in
    let e = ap length (decimal-more n (omega arith)) ∙ length-append (decimal (n / 10)) ((48 + n % 10) ∷ []) in
    omega arith)

-- numbers each followed by a space
abbrev pub spaced : List ℕ → List ℕ
spaced [] = []
spaced (n ∷ ns) = (decimal n ++ (32 ∷ [])) ++ spaced ns

-- fields are the spaced numbers but the last, then the last with byte 10
pub fields-last : (ns : List ℕ) (i : ℕ) → suc i ≡ length ns → fields ns ≡ spaced (take i ns) ++ (decimal (get_or ns i 0) ++ (10 ∷ []))
fields-last [] i e = absurd (omega arith)
fields-last (n ∷ []) i e = let z : i ≡ 0 = omega arith in sym (ap (λ (j : ℕ). spaced (take j (n ∷ [])) ++ (decimal (get_or (n ∷ []) j 0) ++ (10 ∷ []))) z)
fields-last (n ∷ (m ∷ ns)) zero e = absurd (omega arith)
fields-last (n ∷ (m ∷ ns)) (suc i) e =
    let r = fields-last (m ∷ ns) i (omega arith) in
    ap (λ (l : List ℕ). decimal n ++ (32 ∷ l)) r ∙
    (sym (append_assoc (decimal n) (32 ∷ []) (spaced (take i (m ∷ ns)) ++ (decimal (get_or (m ∷ ns) i 0) ++ (10 ∷ [])))) ∙
    sym (append_assoc (decimal n ++ (32 ∷ [])) (spaced (take i (m ∷ ns))) (decimal (get_or (m ∷ ns) i 0) ++ (10 ∷ []))))

-- one number more
pub spaced-next : (ns : List ℕ) (i : ℕ) → i < length ns → spaced (take (suc i) ns) ≡ spaced (take i ns) ++ (decimal (get_or ns i 0) ++ (32 ∷ []))
spaced-next [] i h = absurd (omega arith)
spaced-next (n ∷ ns) zero h = append-nil (decimal n ++ (32 ∷ []))
spaced-next (n ∷ ns) (suc i) h =
    ap (λ (l : List ℕ). (decimal n ++ (32 ∷ [])) ++ l) (spaced-next ns i (omega arith)) ∙
    sym (append_assoc (decimal n ++ (32 ∷ [])) (spaced (take i ns)) (decimal (get_or ns i 0) ++ (32 ∷ [])))

-- what is left to write behind the first numbers
pub spaced-room : (ns : List ℕ) (i : ℕ) → i < length ns → length (spaced (take i ns)) + suc (length (decimal (get_or ns i 0))) ≤ length (fields ns)
spaced-room [] i h = absurd (omega arith)
spaced-room (n ∷ []) zero h = let e = length-append (decimal n) (10 ∷ []) in omega arith
spaced-room (n ∷ []) (suc i) h = absurd (omega arith)
spaced-room (n ∷ (m ∷ ns)) zero h = let e = length-append (decimal n) (32 ∷ fields (m ∷ ns)) in omega arith
spaced-room (n ∷ (m ∷ ns)) (suc i) h =
    let r = spaced-room (m ∷ ns) i (omega arith) in
    let e = length-append (decimal n) (32 ∷ fields (m ∷ ns)) in
    let g = length-append (decimal n ++ (32 ∷ [])) (spaced (take i (m ∷ ns))) in
    let k = length-append (decimal n) (32 ∷ []) in
    omega arith

pub last-length : (n : ℕ) → length (fields (n ∷ [])) ≡ suc (length (decimal n))
last-length n = length-append (decimal n) (10 ∷ []) ∙ omega arith

pub next-length : (n m : ℕ) (ns : List ℕ) → length (fields (n ∷ m ∷ ns)) ≡ length (decimal n) + suc (length (fields (m ∷ ns)))
next-length n m ns = length-append (decimal n) (32 ∷ fields (m ∷ ns))

-- one number and two as fields, of at most suc l digits each
pub one-length : (l n : ℕ) → n < 10 ^ suc l → length (fields (n ∷ [])) ≤ suc (suc l)
one-length l n h = omega (arith, decimal-length l n h, last-length n)

pub two-length : (l n m : ℕ) → n < 10 ^ suc l → m < 10 ^ suc l → length (fields (n ∷ m ∷ [])) ≤ 2 * suc (suc l)
two-length l n m h g = omega (arith, decimal-length l n h, next-length n m [], one-length l m g)
