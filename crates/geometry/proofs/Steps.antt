-- Laws of the steps of the table.
use mathlib.Core.Path.{◌≡◌, refl, sym, ap, ◌∙◌}
use mathlib.Core.Bool.{Bool, true, false}
use mathlib.Core.List.{List, [], ◌∷◌, ◌++◌}
use Prim.Native.Nat.{ℕ, zero, suc, ◌+◌, ◌-◌, ◌*◌, ◌/◌, ◌%◌, ◌≤◌, ◌<◌}
use native.Mathlib.Nat.{not-suc-le-zero, le_of_suc-le-suc, lt_of_lt_of_le, div-le_self}
use native.Mathlib.Numerals.{add-one, add-two}
use native.Mathlib.Omega.{arith}
use lib.Arith.{digits_lt, digits_div, digits_mod}
use lib.Dec.{leb, eqb}
use lib.IntN.{ℤ, pos, negsuc}
use Rattle.picture.specs.declared.Step.{Step}
use lib.ListN.{length, get_or, drop}
use lib.Seq.{drop-cons}
use borrow.Author.Tests.{leb-true, ltb-true, le-leb}
use Rattle.lists.specs.Lists.{pick}
use Rattle.picture.specs.Geometry.{step, steps, plus_one, offset, every_second, used, within, stays, place_by, reached, neighbours_of}
use Rattle.geometry.specs.Steps.{is_unit, Unit, stride_of, step_at, off_edge, StepsTo}
use Rattle.lists.proofs.Tests.{and_left, and_right, and_both}
use Rattle.lists.proofs.Members.{all-at}
use Rattle.picture.proofs.Sides.{within-some, within-most, area-most}

-- what holds of −1, 0 and 1 holds of every step
pub on-unit : (P : ℤ → Type 0) → P (negsuc 0) → P (pos 0) → P (pos 1) → (z : ℤ) → is_unit z ≡ true → P z
on-unit P a b d (pos zero) t = b
on-unit P a b d (pos (suc zero)) t = d
on-unit P a b d (pos (suc (suc n))) t = let h = leb-true (suc (suc n)) 1 t in absurd (omega arith)
on-unit P a b d (negsuc zero) t = a
on-unit P a b d (negsuc (suc n)) t = let h = leb-true (suc n) 0 t in absurd (omega arith)

-- every step of the table is by at most one
pub step-unit : (i : ℕ) → Unit (step_at i)
step-unit i =
    record {
      column = all-at (λ (s : Step). is_unit s.column) steps (step (pos 0) (pos 0)) refl refl i;
      row = all-at (λ (s : Step). is_unit s.row) steps (step (pos 0) (pos 0)) refl refl i;
    }

-- with one added it is at most 2
pub unit-column : (s : Step) → Unit s → (offset s).column ≤ 2
unit-column s u = on-unit (λ z. plus_one z ≤ 2) (omega arith) (omega arith) (omega arith) s.column u.column

pub unit_row : (s : Step) → Unit s → (offset s).row ≤ 2
unit_row s u = on-unit (λ z. plus_one z ≤ 2) (omega arith) (omega arith) (omega arith) s.row u.row

-- off the edge every step stays inside
pub off-edge-within : (side c o : ℕ) → off_edge side c ≡ true → o ≤ 2 → within side (c + o) ≡ true
off-edge-within side c o e h =
    let a = leb-true 1 c (and_left (leb 1 c) _ e) in
    let b = ltb-true (c + 1) side (and_right (leb 1 c) _ e) in
    and_both (le-leb 1 (c + o) (omega arith)) (le-leb (c + o) side (omega arith))

-- a column and a row inside the edge make a place below the area
pub place-most :
    (w h c r : ℕ) → w ≤ 40 → h ≤ 40 → within w c ≡ true → within h r ≡ true → (r - 1) * w + (c - 1) < 1600
place-most w h c r p q d e =
    let c1 = within-some w c d in
    let c2 = within-most w c d in
    let r1 = within-some h r e in
    let r2 = within-most h r e in
    lt_of_lt_of_le (digits_lt {q = r - 1} {m = h} {r = c - 1} {c = w} (omega arith) (omega arith)) (area-most h w q p)

-- a place by its column and row
module _ (w column row : ℕ) (b : column < w) where
  pub leads-from : (s : Step) (c r : ℕ) → StepsTo column row s c r → StepsTo ((row * w + column) % w) ((row * w + column) / w) s c r
  leads-from s c r l =
      record {
        column = l.column ∙ ap (λ (n : ℕ). n + (offset s).column) (sym (digits_mod row b));
        row = l.row ∙ ap (λ (n : ℕ). n + (offset s).row) (sym (digits_div row b));
      }

  pub row_under : (m : ℕ) → row * w + column < m → row < m
  row_under m h =
      let e = digits_div row b in
      let d = div-le_self (row * w + column) w in omega arith

-- the steps used from an index on begin with the one there
second : (l : List Step) (i : ℕ) (d : Step) → i < length l →
    every_second (drop i l) ≡ get_or l i d ∷ every_second (drop (suc (suc i)) l)
second [] i d h = absurd (not-suc-le-zero h)
second (o ∷ []) zero d h = refl
second (o ∷ (q ∷ l)) zero d h = refl
second (o ∷ l) (suc i) d h = second l i d (le_of_suc-le-suc h)

pub used_step : (a i : ℕ) → i < 8 → used a (drop i steps) ≡ step_at i ∷ used a (drop (i + stride_of a) steps)
used_step a i h = by (eqb a 4)
  where
    by : (t : Bool) →
        pick t (every_second (drop i steps)) (drop i steps) ≡
        step_at i ∷ pick t (every_second (drop (i + pick t 2 1) steps)) (drop (i + pick t 2 1) steps)
    by true = rw add-two (second steps i (step (pos 0) (pos 0)) h)
    by false = rw add-one (drop-cons steps i (step (pos 0) (pos 0)) h)

-- the places of one step come before those of the others
pub reached-step : (w h x : ℕ) (o : Step) (os : List Step) →
    reached w h x (o ∷ os) ≡ reached w h x (o ∷ []) ++ reached w h x os
reached-step w h x o os = by (stays w h x (offset o)) refl
  where
    by : (t : Bool) → stays w h x (offset o) ≡ t → reached w h x (o ∷ os) ≡ reached w h x (o ∷ []) ++ reached w h x os
    by true e = rw e
    by false e = rw e

-- a step leads to one place or to none
pub reached-one : (w h x : ℕ) (o : Step) → stays w h x (offset o) ≡ true → reached w h x (o ∷ []) ≡ place_by w x (offset o) ∷ []
reached-one w h x o e = rw e

pub reached-none : (w h x : ℕ) (o : Step) → stays w h x (offset o) ≡ false → reached w h x (o ∷ []) ≡ []
reached-none w h x o e = rw e

-- the neighbours depend on the adjacency by whether it is 4 alone
pub neighbours-by : (a b w h x : ℕ) → eqb a 4 ≡ eqb b 4 → neighbours_of a w h x ≡ neighbours_of b w h x
unfolding neighbours_of
neighbours-by a b w h x e = ap (λ (four : Bool). reached w h x (pick four (every_second steps) steps)) e
