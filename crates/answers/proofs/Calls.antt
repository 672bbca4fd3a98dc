-- The laws that every public call shares: its refusal, and what it leaves in the lent slices.
-- A call's proof has two steps. `work-error` and `error-left` close its refusal, whose number is the fault; they are cases of the laws on any number
-- that is not 0. At the end `accepted-answer`, `written_over` and `cleared-left` close the return; of a part lent to the core `lent_length`,
-- `back-room` and `behind-lent` say the rest.
use mathlib.Core.Path.{◌≡◌, refl, sym, ap, ◌∙◌}
use mathlib.Core.Logic.{◌≢◌}
use mathlib.Core.List.{List, ◌++◌}
use Prim.Native.Nat.{ℕ, ◌+◌, ◌-◌, ◌*◌, ◌≤◌}
use native.Mathlib.Omega.{arith}
use lib.ListN.{length, take, drop, replicate, length-replicate}
use lib.Seq.{length-take-le, length_front, drop-append-add, drop-drop}
use Rattle.lists.specs.Lists.{over}
use Rattle.lists.proofs.Tests.{pick-in, pick_out}
use Rattle.lists.proofs.Cuts.{over-cut, over-same}
use Rattle.picture.specs.Pictures.{Picture, places}
use Rattle.refusals.specs.declared.Refusal.{Refusal}
use Rattle.refusals.specs.Refusals.{number_of}
use Rattle.refusals.proofs.Numbers.{number-some}
use Rattle.std.proofs.Common.{Ok, Err}
use Rattle.answers.specs.Answers.{Answer, answer_of, after_call, cleared, work_after, Answered, WorkSays, OutputSays}

-- a refusal with the fault f: the number with the value 0, and every lent slice as it was
module _ (f g : ℕ) (e : g ≡ f) (d : g ≢ 0) where
  fails : f ≢ 0
  fails z = d (e ∙ z)

  pub refused-answer : (v : ℕ) (r : Answer) → r ≡ record { number = g; value = 0 } → Answered f v r
  refused-answer v r q =
      record {
        number = ap (λ (s : Answer). s.number) q ∙ e;
        value = ap (λ (s : Answer). s.value) q ∙ sym (pick_out f 0 v 0 fails);
      }

  pub refused-left : {A : Type 0} (new old : List A) → old ≡ after_call f new old
  refused-left new old = sym (pick_out f 0 new old fails)

-- the number of a result's refusal is not 0
not-none : (e : Refusal) → number_of e ≢ 0
not-none e z = let some = number-some e in absurd (omega arith)

-- so a result that is a refusal with the fault f leaves every lent slice as it was
pub error-left : (f : ℕ) (e : Refusal) → number_of e ≡ f → {A : Type 0} (new old : List A) → old ≡ after_call f new old
error-left f e n new old = refused-left f (number_of e) n (not-none e) new old

-- success: the number 0 with the value, and every lent slice with its new content
pub accepted-answer : (f v u : ℕ) → f ≡ 0 → u ≡ v → Answered f v (answer_of (Ok u))
accepted-answer f v u z w = record { number = sym z; value = w ∙ sym (pick-in f 0 v 0 z) }

pub written-left : {A : Type 0} (f : ℕ) (new old : List A) → f ≡ 0 → new ≡ after_call f new old
written-left f new old z = sym (pick-in f 0 new old z)

-- the value of an unrefused call
pub answered-value : (f v : ℕ) (r : Answer) → Answered f v r → f ≡ 0 → r.value ≡ v
answered-value f v r a z = a.value ∙ pick-in f 0 v 0 z

-- the content ys that a core wrote to the whole of a lent part of n entries
pub written_over :
    (f n : ℕ) (new old ys : List ℕ) → f ≡ 0 → length new ≡ n → ys ≡ new → ys ++ drop n old ≡ after_call f (over new old) old
written_over f n new old ys z e w =
    ap (λ (l : List ℕ). l ++ drop n old) w ∙ (over-cut n new e old ∙ written-left f (over new old) old z)

-- a lent part of n entries has n, and the slice keeps its length when the part is back
pub lent_length : (n : ℕ) (q : List ℕ) → n ≤ length q → n ≡ length (take n q)
lent_length n q h = sym (length-take-le n q h)

pub back-room : (n m : ℕ) (ys q : List ℕ) → length ys ≡ length (take n q) → m ≤ length q → m ≤ length (ys ++ drop n q)
back-room n m ys q e h = let f = length_front q ys n e in omega arith

-- what lies behind a lent part of n entries is as it was
pub behind-lent :
    (n m : ℕ) (ys q : List ℕ) → length ys ≡ length (take n q) → n ≤ m → m ≤ length q → drop m (ys ++ drop n q) ≡ drop m q
behind-lent n m ys q e h g =
    let b : n ≤ length q = omega arith in
    let l = lent_length n q b in
    let s : m ≡ length ys + (m - n) = omega arith in
    let t : n + (m - n) ≡ m = omega arith in
    ap (λ (i : ℕ). drop i (ys ++ drop n q)) s ∙
    (drop-append-add ys (drop n q) (m - n) ∙ (drop-drop (m - n) n q ∙ ap (λ (i : ℕ). drop i q) t))

-- work cleared over 5 n entries, of which the first were lent to a core
pub cleared-left :
    (f n : ℕ) (p : Picture) (q lent q' : List ℕ) → f ≡ 0 → n ≡ places p → drop (5 * n) lent ≡ drop (5 * n) q → q' ≡ cleared n lent →
    q' ≡ work_after f p q
cleared-left f n p q lent q' z e d c =
    c ∙
    (over-same (5 * n) (replicate (5 * n) 0) (length-replicate (5 * n) 0) lent q d ∙
    (ap (λ (i : ℕ). cleared i q) e ∙ written-left f (cleared (places p) q) q z))

-- a call that lends work: its refusal, that of its result, and its end
pub work-refused :
    (f g v : ℕ) (p : Picture) (q : List ℕ) (r : Answer) → g ≡ f → g ≢ 0 → r ≡ record { number = g; value = 0 } → WorkSays f v p q q r
work-refused f g v p q r e d w = record { answer = refused-answer f g e d v r w; work = refused-left f g e d _ q }

pub work-error : (f v : ℕ) (p : Picture) (q : List ℕ) (e : Refusal) → number_of e ≡ f → WorkSays f v p q q (answer_of (Err e))
work-error f v p q e n = work-refused f (number_of e) v p q _ n (not-none e) refl

pub work-done :
    (f v u n : ℕ) (p : Picture) (q lent q' : List ℕ) → f ≡ 0 → u ≡ v → n ≡ places p → drop (5 * n) lent ≡ drop (5 * n) q →
    q' ≡ cleared n lent → WorkSays f v p q q' (answer_of (Ok u))
work-done f v u n p q lent q' z w e d c =
    record { answer = accepted-answer f v u z w; work = cleared-left f n p q lent q' z e d c }

-- a call that lends output and work: its refusal, and its end, where a core has written the list new to the first n entries of the output
pub output-refused :
    (f g v : ℕ) (p : Picture) (new o q : List ℕ) (r : Answer) → g ≡ f → g ≢ 0 → r ≡ record { number = g; value = 0 } →
    OutputSays f p v new o o q q r
output-refused f g v p new o q r e d w =
    record { call = work-refused f g v p q r e d w; output = refused-left f g e d (over new o) o }

pub output-done :
    (f v u n : ℕ) (p : Picture) (new ys o q lent q' : List ℕ) → f ≡ 0 → u ≡ v → n ≡ places p → length new ≡ n → ys ≡ new →
    drop (5 * n) lent ≡ drop (5 * n) q → q' ≡ cleared n lent → OutputSays f p v new o (ys ++ drop n o) q q' (answer_of (Ok u))
output-done f v u n p new ys o q lent q' z w e l s d c =
    record { call = work-done f v u n p q lent q' z w e d c; output = written_over f n new o ys z l s }
