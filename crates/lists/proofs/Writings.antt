-- Laws of writing: nothing, one entry, more behind it; lengths; the values of a function one after the other.
use mathlib.Core.Path.{◌≡◌, refl, sym, ap, subst, ◌∙◌}
use mathlib.Core.List.{List, [], ◌∷◌, ◌++◌, append_assoc, flat_map}
use Prim.Native.Nat.{ℕ, ◌+◌, ◌≤◌, ◌<◌}
use native.Mathlib.Omega.{arith}
use native.Mathlib.Numerals.{add-one}
use lib.ListN.{length, get_or, take, drop, set, length-append, length-drop, take-append-drop}
use lib.Seq.{set_split, take-suc, take_at, drop_at, length-take-le}
use Rattle.lists.specs.Lists.{range, over}
use Rattle.lists.specs.Writing.{Written}
use Rattle.lists.proofs.Lists.{flat_map-next}
use Rattle.lists.proofs.Cuts.{drop_more}

pub written_byte : (l : List ℕ) (at b : ℕ) → at < length l → Written at (b ∷ []) l (at + 1) (set l at b)
written_byte l at b h = record { end = refl; whole = set_split l at b h ∙ ap (λ (n : ℕ). take at l ++ (b ∷ drop n l)) (sym (add-one at)) }

pub written_none : (l : List ℕ) (at : ℕ) → Written at [] l at l
written_none l at = record { end = omega arith; whole = sym (take-append-drop at l) }

-- more bytes behind the first
pub written_then :
    {at m to : ℕ} {xs ys a b c : List ℕ} → at ≤ length a →
    Written at xs a m b → Written m ys b to c → Written at (xs ++ ys) a to c
written_then {at} {m} {to} {xs} {ys} {a} {b} {c} h p q =
    let k = length-append xs ys in
    let e = p.end in
    let g = q.end in
    record {
      end = omega arith;
      whole =
          q.whole ∙
          (ap (λ (l : List ℕ). l ++ (ys ++ drop to b)) front ∙
          (ap (λ (l : List ℕ). (take at a ++ xs) ++ (ys ++ l)) back ∙
          (append_assoc (take at a) xs (ys ++ drop to a) ∙
          ap (λ (l : List ℕ). take at a ++ l) (sym (append_assoc xs ys (drop to a))))));
    }
  where
    b-is : b ≡ (take at a ++ xs) ++ drop m a
    b-is = p.whole ∙ sym (append_assoc (take at a) xs (drop m a))

    long : length (take at a ++ xs) ≡ m
    long =
        length-append (take at a) xs ∙
        (ap (λ (n : ℕ). n + length xs) (length-take-le at a h) ∙ sym p.end)

    front : take m b ≡ take at a ++ xs
    front = ap (take m) b-is ∙ take_at (take at a ++ xs) (drop m a) m long

    behind : drop m b ≡ drop m a
    behind = ap (drop m) b-is ∙ drop_at (take at a ++ xs) (drop m a) m long

    back : drop to b ≡ drop to a
    back = let g = q.end in drop_more m to b a (omega arith) behind

pub written-length : {at to : ℕ} {xs a b : List ℕ} → to ≤ length a → Written at xs a to b → length b ≡ length a
written-length {at} {to} {xs} {a} {b} h p =
    let e = p.end in
    let t = length-take-le at a (omega arith) in
    let d = length-drop to a in
    ap length p.whole ∙
    (length-append (take at a) (xs ++ drop to a) ∙
    (ap (λ (n : ℕ). length (take at a) + n) (length-append xs (drop to a)) ∙ omega arith))

-- one byte more of a text
pub written_next :
    (bytes a b : List ℕ) (at i : ℕ) → i < length bytes → at + length bytes ≤ length a →
    Written at (take i bytes) a (at + i) b → Written at (take (i + 1) bytes) a (at + (i + 1)) (set b (at + i) (get_or bytes i 0))
written_next bytes a b at i h r w =
    let l = written-length (omega arith) w in
    let e : at + (i + 1) ≡ at + i + 1 = omega arith in
    subst (λ (n : ℕ). Written at (take (i + 1) bytes) a n (set b (at + i) (get_or bytes i 0))) (sym e)
    (subst (λ (xs : List ℕ). Written at xs a (at + i + 1) (set b (at + i) (get_or bytes i 0)))
    (sym (ap (λ (n : ℕ). take n bytes) (add-one i) ∙ take-suc bytes i 0 h))
    (written_then (omega arith) w (written_byte b (at + i) (get_or bytes i 0) (omega arith))))

-- written from the beginning: in front of what was there
pub written-front : {xs o o' : List ℕ} {to : ℕ} → Written 0 xs o to o' → o' ≡ over xs o
written-front {xs} {o} {o'} {to} w =
    let e : to ≡ length xs = w.end ∙ omega arith in w.whole ∙ ap (λ (n : ℕ). xs ++ drop n o) e

-- the same, the other way
pub front-written : {xs o o' : List ℕ} {to : ℕ} → to ≡ length xs → o' ≡ over xs o → Written 0 xs o to o'
front-written {xs} {o} {o'} {to} e f =
    record { end = omega (arith, e); whole = f ∙ ap (λ (n : ℕ). xs ++ drop n o) (sym e) }

-- the texts of no number
pub lines_none : (f : ℕ → List ℕ) (l : List ℕ) (at : ℕ) → Written at (flat_map f (range 0 0)) l at l
unfolding flat_map
lines_none f l at = written_none l at

-- the text of one number more
pub lines_next :
    (f : ℕ → List ℕ) (a b c : List ℕ) (at to next i : ℕ) → at ≤ length a →
    Written at (flat_map f (range 0 i)) a to b → Written to (f i) b next c → Written at (flat_map f (range 0 (i + 1))) a next c
lines_next f a b c at to next i h v w =
    let z : 0 + i ≡ i = omega arith in
    subst (λ (xs : List ℕ). Written at xs a next c)
    (sym (ap (λ (n : ℕ). flat_map f (range 0 n)) (add-one i) ∙ (flat_map-next f 0 i ∙ ap (λ (y : ℕ). flat_map f (range 0 i) ++ f y) z)))
    (written_then h v w)

-- a text written from the beginning lies within the memory
pub text-within : {to : ℕ} {xs a b : List ℕ} → Written 0 xs a to b → (to ≤ length b) × (to ≡ length (take to b))
text-within {to} {xs} {a} {b} w =
    let e = w.end in
    let l = ap length w.whole ∙ length-append xs (drop to a) in
    let h : to ≤ length b = omega arith in
    (h, sym (length-take-le to b h))

-- and stands there
pub text-front : {to : ℕ} {xs a b : List ℕ} → Written 0 xs a to b → take to b ≡ xs
text-front {to} {xs} {a} {b} w = ap (take to) w.whole ∙ take_at xs (drop to a) to (omega (arith, w.end))
