-- What is answered depends on no byte after the place where the answer is found.
use mathlib.Core.Path.{◌≡◌, sym, ap, ap₂, subst, ◌∙◌}
use mathlib.Core.List.{List, ◌++◌}
use Prim.Native.Nat.{ℕ, ◌+◌, ◌≤◌, ◌<◌}
use native.Mathlib.Omega.{arith}
use lib.ListN.{length, get_or, take, drop, length-drop, get_or-append}
use lib.Seq.{drop-append-le, take-append-le}
use Rattle.std.specs.Prelude.{Result, Err}
use Rattle.p5.specs.declared.field.Number.{Number}
use Rattle.p5.specs.Steps.{end_of}
use Rattle.p5.specs.Headers.{number, is_white, is_digit, leading, decimal_value, gap_end, digits_at, number_at, walk}
use Rattle.p5.proofs.Leading.{leading-cut, leading-many}
use Rattle.p5.proofs.Gap.{gap_from, gap-cut, number-none, number-some}
use Rattle.p5.proofs.Digits.{digits-none, digits-few, digits-many}
use Rattle.p5.proofs.Fields.{Reads, reads, no_gap, no_digit, digits, sixth}
use Rattle.p5.proofs.Walking.{Walking, first, second, third, fourth, walk_first, walk-second, walk-third, walk_end, end-stop}

from : (f : List ℕ) (p : ℕ) (o : Result Number ℕ) → Reads f p o → p ≤ end_of o
from f p o (no_gap e) = omega arith
from f p o (no_digit e z) = gap_from f p
from f p o (digits e some most) = omega (arith, gap_from f p)
from f p o (sixth e k) = omega (arith, gap_from f p)

pub number-from : (f : List ℕ) (p : ℕ) {o : Result Number ℕ} → number_at f p ≡ o → p ≤ end_of o
number-from f p {o} e = from f p o (subst (Reads f p) e (reads f p))

module _ (x y u : List ℕ) (p : ℕ) where
  -- where there is a gap that ends within x, the same digits follow it
  some-digits : gap_end (x ++ y) p < length x → (gap_end (x ++ y) p ≡ p → ⊥) → number_at (x ++ u) p ≡ digits_at (x ++ u) (gap_end (x ++ y) p)
  some-digits h e =
      let same = gap-cut x y u p h in
      sym (number-some (x ++ u) p (λ z. e (sym same ∙ z))) ∙ ap (digits_at (x ++ u)) same

  cut : (o : Result Number ℕ) → Reads (x ++ y) p o → end_of o < length x → number_at (x ++ u) p ≡ o
  cut o (no_gap e) h = sym (number-none (x ++ u) p (gap-cut x y u p (omega arith) ∙ e))
  cut o (no_digit e z) h =
      some-digits h e ∙ digits-none (x ++ u) _ (leading-cut is_digit x y u (gap_end (x ++ y) p) (omega arith) ∙ z)
  cut o (digits e some most) h =
      let q = gap_end (x ++ y) p in
      let n = leading is_digit (drop q (x ++ y)) in
      let same : leading is_digit (drop q (x ++ u)) ≡ n = leading-cut is_digit x y u q h in
      let within : q ≤ length x = omega arith in
      let long : n ≤ length (drop q x) = omega (arith, length-drop q x) in
      let front : (v : List ℕ) → take n (drop q (x ++ v)) ≡ take n (drop q x) =
      λ v. ap (take n) (drop-append-le q x v within) ∙ take-append-le n (drop q x) v long in
      let taken : take n (drop q (x ++ u)) ≡ take n (drop q (x ++ y)) = front u ∙ sym (front y) in
      some-digits (omega arith) e
      ∙ digits-few (x ++ u) q (omega arith) (omega arith)
      ∙ ap₂ number (ap decimal_value (ap (λ (k : ℕ). take k (drop q (x ++ u))) same ∙ taken)) (ap (λ (k : ℕ). q + k) same)
  cut o (sixth e k) h =
      some-digits (omega arith) e ∙ digits-many (x ++ u) _ (leading-many is_digit x y u (gap_end (x ++ y) p) 6 (omega arith) k)

  pub number_cut : {o : Result Number ℕ} → number_at (x ++ y) p ≡ o → end_of o < length x → number_at (x ++ u) p ≡ o
  number_cut {o} e h = cut o (subst (Reads (x ++ y) p) e (reads (x ++ y) p)) h

-- a walk that stops within x stops there whatever follows x
pub walk-cut : (x y u : List ℕ) (p : ℕ) → Walking (x ++ y) (Err p) → p < length x → Err p ≡ walk (x ++ u)
walk-cut x y u p (first e) h = walk_first (x ++ u) (number_cut x y u 2 e h)
walk-cut x y u p (second {a = a} e g) h =
    let l = number-from (x ++ y) a g in
    walk-second (x ++ u) (number_cut x y u 2 e (omega arith)) (number_cut x y u a g h)
walk-cut x y u p (third {a = a} {b = b} e g k) h =
    let l = number-from (x ++ y) a g in
    let m = number-from (x ++ y) b k in
    walk-third (x ++ u) (number_cut x y u 2 e (omega arith)) (number_cut x y u a g (omega arith)) (number_cut x y u b k h)
walk-cut x y u p (fourth {a = a} {b = b} e g k i) h =
    let l = number-from (x ++ y) a g in
    let m = number-from (x ++ y) b k in
    let same : get_or (x ++ u) p 0 ≡ get_or (x ++ y) p 0 = get_or-append x u 0 p h ∙ sym (get_or-append x y 0 p h) in
    end-stop (x ++ u) _ _ _ p (ap is_white same ∙ i)
    ∙ walk_end (x ++ u) (number_cut x y u 2 e (omega arith)) (number_cut x y u a g (omega arith)) (number_cut x y u b k h)
