-- What the public calls promise of their answers holds of the packed ones.
use mathlib.Core.Path.{◌≡◌, refl, sym, ap, subst, ◌∙◌}
use mathlib.Core.List.{List}
use Prim.Native.Nat.{ℕ, zero, suc}
use lib.Dec.{eqb}
use Rattle.lists.specs.Lists.{pick}
use Rattle.picture.specs.Pictures.{Picture}
use Rattle.answers.specs.Answers.{Answer, WorkSays}
use Rattle.board.specs.Calls.{QueryAnswer, ground_of, patch_number, QueriedSays}
use Rattle.saving.specs.Calls.{Saved, SaveSays}
use Rattle.stored_rows.specs.Calls.{RowsSay}
use Rattle.packed_answers.specs.Packed.{answer_in, queried_in, ground_by_number, saved_in}

ground-again : (n : ℕ) → ground_of (patch_number (ground_of n)) ≡ ground_of n
ground-again zero = refl
ground-again (suc n) = refl

-- what a public call promises of the answer for a place holds of the packed one, since no place has the patch 0
pub query-packed :
    {f v n : ℕ} {p : Picture} {q q' : List ℕ} {a : QueryAnswer} (r : ℕ) →
    queried_in r ≡ ground_by_number a → QueriedSays f v n p q q' a → QueriedSays f v n p q q' (queried_in r)
query-packed {f} {v} {n} r e s =
    let number = pick (eqb f 0) n 0 in
    record {
      answer =
          e ∙ (ap ground_by_number s.answer ∙ (λ j. record { number = f; value = pick (eqb f 0) v 0; ground = ground-again number j }));
      work = s.work;
    }

-- what a public call promises of its answer holds of the packed one
pub work-packed :
    {f v : ℕ} {p : Picture} {q q' : List ℕ} {a : Answer} (r : ℕ) → answer_in r ≡ a → WorkSays f v p q q' a → WorkSays f v p q q' (answer_in r)
work-packed {f} {v} {p} {q} {q'} r e s = subst (λ (b : Answer). WorkSays f v p q q' b) (sym e) s

-- the same of saving
pub save-packed :
    {w h m : ℕ} {xs o o' : List ℕ} {a : Saved} (r : ℕ) → saved_in r ≡ a → SaveSays w h m xs o o' a → SaveSays w h m xs o o' (saved_in r)
save-packed {w} {h} {m} {xs} {o} {o'} r e s = subst (λ (b : Saved). SaveSays w h m xs o o' b) (sym e) s

-- the same of rows, stored or restored
pub rows-packed :
    {f : ℕ} {new o o' : List ℕ} {a : Answer} (r : ℕ) → answer_in r ≡ a → RowsSay f new o o' a → RowsSay f new o o' (answer_in r)
rows-packed {f} {new} {o} {o'} r e s = subst (λ (b : Answer). RowsSay f new o o' b) (sym e) s
