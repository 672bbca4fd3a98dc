-- Lists cut in two: what `take` and `drop` leave.
use mathlib.Core.Path.{◌≡◌, refl, sym, ap, subst, ◌∙◌}
use mathlib.Core.List.{List, ◌++◌, append-nil}
use mathlib.Core.Logic.{by_cases}
use Prim.Native.Nat.{ℕ, ◌+◌, ◌-◌, ◌≤◌, ◌<◌, min}
use native.Mathlib.Nat.{min-eq_left}
use native.Mathlib.Decide.{dec_le}
use native.Mathlib.Omega.{arith}
use lib.ListN.{length, get_or, take, drop, length-append, length-drop, drop_of_length-le, get_or-append}
use lib.Seq.{drop-drop, get_or-drop, get_or-append-add, take_all, take-add, take_at, drop_at}
use Rattle.lists.specs.Lists.{over}

-- lists that are equal from a on are so from b on
pub drop_more : (a b : ℕ) (l m : List ℕ) → a ≤ b → drop a l ≡ drop a m → drop b l ≡ drop b m
drop_more a b l m h e =
    let s : a + (b - a) ≡ b = omega arith in
    ap (λ (i : ℕ). drop i l) (sym s) ∙
    (sym (drop-drop (b - a) a l) ∙ (ap (drop (b - a)) e ∙ (drop-drop (b - a) a m ∙ ap (λ (i : ℕ). drop i m) s)))

-- n entries in front of what follows in another list, and in front of a list that is the same from there on
module _ {A : Type 0} (n : ℕ) (new : List A) (long : length new ≡ n) where
  pub over-cut : (old : List A) → new ++ drop n old ≡ over new old
  over-cut old = ap (λ (m : ℕ). new ++ drop m old) (sym long)

  pub over-same : (old other : List A) → drop n old ≡ drop n other → over new old ≡ over new other
  over-same old other e = sym (over-cut old) ∙ (ap (λ (l : List A). new ++ l) e ∙ over-cut other)

  pub over-taken : (old : List A) → take n (over new old) ≡ new
  over-taken old = take_at new (drop (length new) old) n long

  pub over-dropped : (old : List A) → drop n (over new old) ≡ drop n old
  over-dropped old = drop_at new (drop (length new) old) n long ∙ ap (λ (m : ℕ). drop m old) long

-- the length, the entries of the front and those behind it
pub over-length : {A : Type 0} (new old : List A) → length new ≤ length old → length (over new old) ≡ length old
over-length new old h = omega (arith, length-append new (drop (length new) old), length-drop (length new) old)

pub over-front : (new old : List ℕ) (i : ℕ) → i < length new → get_or (over new old) i 0 ≡ get_or new i 0
over-front new old i h = get_or-append new (drop (length new) old) 0 i h

pub over-behind : (new old : List ℕ) (i : ℕ) → length new ≤ i → get_or (over new old) i 0 ≡ get_or old i 0
over-behind new old i h =
    let n = length new in
    let e : n + (i - n) ≡ i = omega arith in
    subst (λ (j : ℕ). get_or (over new old) j 0 ≡ get_or old j 0) e (get_or-append-add new (drop n old) (i - n) 0 ∙ get_or-drop n old (i - n) 0)

-- in front of a list that is no longer nothing follows
pub over-all : {A : Type 0} (new old : List A) → length old ≤ length new → over new old ≡ new
over-all {A = A} new old h = ap (λ (l : List A). new ++ l) (drop_of_length-le old {i = length new} h) ∙ append-nil new

-- the part of a list from a position on, as a slice of it is made
abbrev pub from : ℕ → List ℕ → List ℕ
from b l = take (length l - b) (drop b l)

pub take_rest : (p : ℕ) (f : List ℕ) → from p f ≡ drop p f
take_rest p f = take_all (length f - p) (drop p f) (omega (arith, length-drop p f))

pub from_at : (b i : ℕ) (l : List ℕ) → get_or (from b l) i 0 ≡ get_or l (b + i) 0
from_at b i l = ap (λ (m : List ℕ). get_or m i 0) (take_rest b l) ∙ get_or-drop b l i 0

pub from-length : (b : ℕ) (l : List ℕ) → length (from b l) ≡ length l - b
from-length b l = ap length (take_rest b l) ∙ length-drop b l

-- a count above the length takes the whole list
pub take_counted : {A : Type 0} (l : List A) (n r : ℕ) → r ≡ min n (length l) → take r l ≡ take n l
take_counted l n r e =
    by_cases (dec_le n (length l))
    (λ h. ap (λ (m : ℕ). take m l) (e ∙ min-eq_left h))
    (λ h. take_all r l (omega arith) ∙ sym (take_all n l (omega arith)))

-- a part u that stands from p on, before q
pub take_part : (f : List ℕ) (p q : ℕ) (u s : List ℕ) → drop p f ≡ u ++ s → q ≡ p + length u → take q f ≡ take p f ++ u
take_part f p q u s e l =
    ap (λ (n : ℕ). take n f) l ∙ take-add p (length u) f
    ∙ ap (λ (k : List ℕ). take p f ++ k) (ap (take (length u)) e ∙ take_at u s _ refl)

pub part-within : (f : List ℕ) (p q : ℕ) (u s : List ℕ) → 1 ≤ length u → drop p f ≡ u ++ s → q ≡ p + length u → q ≤ length f
part-within f p q u s some e l = omega (arith, length-drop p f, ap length e ∙ length-append u s)
