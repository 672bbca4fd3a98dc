-- The laws of the place query and of the touch: their ground, their refusal and their answer.
use mathlib.Core.Path.{◌≡◌, refl, sym, ap, ap₂, ◌∙◌}
use mathlib.Core.Bool.{Bool, true, false, ◌||◌}
use mathlib.Core.Logic.{◌≢◌}
use mathlib.Core.List.{List}
use Prim.Native.Nat.{ℕ, zero, suc}
use lib.Dec.{eqb}
use lib.ListN.{length}
use Rattle.patches.specs.declared.handbook.Handbook.{Handbook}
use Rattle.patches.specs.declared.handbook.Handbook.TheVariants.{Fourth, Fifth}
use Rattle.patches.specs.Handbooks.{handbook_number}
use borrow.Author.Tests.{eq-eqb, ne_eqb}
use Rattle.lists.specs.Lists.{pick}
use Rattle.picture.specs.Pictures.{Picture, places}
use Rattle.answers.specs.Answers.{cleared}
use Rattle.answers.proofs.Calls.{error-left, cleared-left}
use Rattle.board.specs.declared.query.Ground.TheVariants as G
use Rattle.std.proofs.Common.{Ok, Err, arith}
use Rattle.refusals.specs.declared.Refusal.{Refusal}
use Rattle.refusals.specs.Refusals.{number_of}
use Rattle.refusals.proofs.Numbers.{number-some}
use Rattle.board.specs.declared.query.Ground.{Ground}
use Rattle.board.specs.declared.query.Queried.{Queried}
use Rattle.board.specs.Calls.{QueryAnswer, queried_of, ground_of, QueriedSays}

-- the ground of a patch number that is not 0
pub ground-patch : (n : ℕ) → n ≢ 0 → G.Patch n ≡ ground_of n
ground-patch zero d = absurd (d refl)
ground-patch (suc n) d = refl

-- a handbook that has a number is one of two, and a number that is neither is refused
pub handbook-named : (b : Handbook) (n : ℕ) → handbook_number b ≡ n → (eqb n 4 || eqb n 5) ≡ true
handbook-named Fourth n e = rw (← e) refl
handbook-named Fifth n e = rw (← e) refl

pub handbook-other : (n : ℕ) → n ≢ 4 → n ≢ 5 → (eqb n 4 || eqb n 5) ≡ false
handbook-other n p q = rw (ne_eqb n 4 p, ne_eqb n 5 q) refl

-- a refused query, and an answered one: of the fault f, the value v and the patch number m
module _ (f v m : ℕ) (p : Picture) (q : List ℕ) where
  -- the answer by whether there is a fault
  abbrev answer : Bool → QueryAnswer
  answer t = record { number = f; value = pick t v 0; ground = ground_of (pick t m 0) }

  pub refused-query : (e : Refusal) → number_of e ≡ f → QueriedSays f v m p q q (queried_of (Err e))
  refused-query e n =
      record {
        answer =
            ap (λ (k : ℕ). record { number = k; value = 0; ground = ground_of 0 }) n ∙
            sym (ap answer (ne_eqb f 0 (λ z. let some = number-some e in absurd (omega arith))));
        work = error-left f e n _ q;
      }

  pub answered-query :
      (q' : List ℕ) (u : Queried) → f ≡ 0 → length p.pixels ≡ places p →
      u.value ≡ v → u.ground ≡ ground_of m → q' ≡ cleared (length p.pixels) q → QueriedSays f v m p q q' (queried_of (Ok u))
  answered-query q' u z n ev eg c =
      record {
        answer =
            ap₂ (λ (a : ℕ) (g : Ground). let ground : Ground = g in record { number = 0; value = a; ground = ground }) ev eg ∙
            (ap (λ (k : ℕ). record { number = k; value = v; ground = ground_of m }) (sym z) ∙
            sym (ap answer (eq-eqb f 0 z)));
        work = cleared-left f (length p.pixels) p q q q' z n refl c;
      }
