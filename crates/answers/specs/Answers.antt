-- The answer of a call, and what it leaves in each lent slice.
use Rattle.std.specs.Prelude.{◌≡◌, List, ℕ, ◌*◌, eqb, replicate, Result, Ok, Err}
use Rattle.lists.specs.Lists.{pick, over}
use Rattle.picture.specs.Pictures.{Picture, places}
use Rattle.refusals.specs.declared.Refusal.{Refusal}
use Rattle.refusals.specs.Refusals.{number_of}

-- the number of a refusal, or 0 with the number of components, nodes or patches, the pass, 1 for yes, or 0 where nothing is counted
pub record Answer : Type 0 where
  pub number : ℕ
  pub value : ℕ

-- the answer of a call: the number 0 with its value, or a refusal's number with the value 0
abbrev pub answer_of : Result ℕ Refusal → Answer
answer_of (Ok v) = record { number = 0; value = v }
answer_of (Err e) = record { number = number_of e; value = 0 }

-- what a call with the fault f leaves in a lent slice: the new content where there is no fault, else the old
abbrev pub after_call : {A : Type 0} → ℕ → List A → List A → List A
after_call f new old = pick (eqb f 0) new old

-- work with its first 5 n entries cleared
abbrev pub cleared : ℕ → List ℕ → List ℕ
cleared n q = over (replicate (5 * n) 0) q

-- work is zero over its named length after success, and as it was after a refusal
abbrev pub work_after : ℕ → Picture → List ℕ → List ℕ
work_after f p q = after_call f (cleared (places p) q) q

-- the number of the refusal, or 0 with the value
pub record Answered (f v : ℕ) (r : Answer) : Type 0 where
  pub number : r.number ≡ f
  pub value : r.value ≡ pick (eqb f 0) v 0

-- a call with the fault f that lends work: its answer with the value v, and what it leaves in work
pub record WorkSays (f v : ℕ) (p : Picture) (q q' : List ℕ) (r : Answer) : Type 0 where
  pub answer : Answered f v r
  pub work : q' ≡ work_after f p q

-- such a call that lends output too: the list new in front of what was there, or all as it was after a refusal
pub record OutputSays (f : ℕ) (p : Picture) (v : ℕ) (new o o' q q' : List ℕ) (r : Answer) : Type 0 where
  pub call : WorkSays f v p q q' r
  pub output : o' ≡ after_call f (over new o) o
