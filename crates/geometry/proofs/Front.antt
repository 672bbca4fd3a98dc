-- What stands in front of the cells while the neighbours are put there.
use mathlib.Core.Path.{◌≡◌, refl, sym, ap, ap₂, subst, ◌∙◌}
use mathlib.Core.Bool.{Bool, true, false, ◌&&◌, ◌||◌}
use mathlib.Core.List.{List, [], ◌∷◌, ◌++◌, append_assoc, append-nil}
use Prim.Native.Nat.{ℕ, ◌+◌, ◌-◌, ◌*◌, ◌/◌, ◌%◌, ◌≤◌, ◌<◌}
use native.Mathlib.Nat.{zero-add, div-add-mod'}
use native.Mathlib.Omega.{arith}
use lib.Dec.{eqb}
use lib.IntN.{ℤ}
use lib.ListN.{length, drop, set, drop_of_length-le}
use mir.Syntax.{w8}
use mir.Val.{to_z, of_z}
use Rattle.lists.specs.Lists.{over}
use Rattle.lists.specs.Writing.{Written}
use Rattle.picture.specs.declared.Step.{Step}
use Rattle.picture.specs.Geometry.{steps, plus_one, offset, used, within, stays, place_by, reached, neighbours_of}
use Rattle.picture.proofs.Neighbours.{Placed, Listed}
use Rattle.geometry.specs.Steps.{is_unit, stride_of, step_at, off_edge, is_inner, Stepping, StepsTo}
use Rattle.lists.proofs.Tests.{and_left, and_right, and_both, on-pick}
use Rattle.lists.proofs.Writings.{written_none, written_byte, written_then, written-length, written-front}
use Rattle.picture.proofs.Sides.{within-some, area-most}
use Rattle.geometry.proofs.Steps.{on-unit, unit-column, unit_row, off-edge-within, place-most, leads-from, row_under, used_step, reached-step, reached-one, reached-none}

-- a step that leaves the edge puts nothing, another puts its place
module _ (w h x : ℕ) (s : Step) (c r : ℕ) (to : StepsTo (x % w) (x / w) s c r) (m : ℕ) (cells : List ℕ) where
  stays-is : stays w h x (offset s) ≡ (within w c && within h r)
  stays-is = ap₂ (λ d e. within w d && within h e) (sym to.column) (sym to.row)

  pub put-none : (within w c && within h r) ≡ false → Written m (reached w h x (s ∷ [])) cells m cells
  put-none e =
      rw (reached-none w h x s (stays-is ∙ e))
      (written_none cells m)

  put_one : (within w c && within h r) ≡ true → m < length cells → Written m (reached w h x (s ∷ [])) cells (m + 1) (set cells m ((r - 1) * w + (c - 1)))
  put_one e l =
      let at : (r - 1) * w + (c - 1) ≡ place_by w x (offset s) =
      ap₂ (λ k n. (n - 1) * w + (k - 1)) to.column to.row in
      rw (reached-one w h x s (stays-is ∙ e), at)
      (written_byte cells m (place_by w x (offset s)) l)

  pub put_written :
      (n : ℕ) (after : List ℕ) → (within w c && within h r) ≡ true → m < length cells →
      (n ≡ m + 1) × (after ≡ set cells m ((r - 1) * w + (c - 1))) → Written m (reached w h x (s ∷ [])) cells n after
  put_written n after e l p =
      subst (λ (k : ℕ). Written m (reached w h x (s ∷ [])) cells k after) (sym p.0)
      (subst (λ (k : List ℕ). Written m (reached w h x (s ∷ [])) cells (m + 1) k) (sym p.1) (put_one e l))

-- a step as the machine reads it
abbrev read : ℤ → ℤ
read z = to_z w8 (of_z w8 z)

read-unit : (z : ℤ) → is_unit z ≡ true → plus_one (read z) ≡ plus_one z
read-unit z u = on-unit (λ z. plus_one (read z) ≡ plus_one z) refl refl refl z u

-- a step from a place by its column and row: its target, each plus one
module _ (w h column row : ℕ) (s : Step) (m : ℕ) (cells : List ℕ) (go : Stepping w h column row s m cells) where
  column-low : column < 40
  column-low = let a = go.placed.wide in let b = go.in_row in omega arith

  row_low : row < 1600
  row_low =
      let most = area-most w h go.placed.wide go.placed.high in
      row_under w column row go.in_row 1600 (omega (arith, go.placed.inside, most))

  -- the sums fit
  pub right-fits : (r : ℕ) → r ≡ plus_one (read s.column) → column + r < 2000
  right-fits r e = let g = read-unit s.column go.unit.column in let a = column-low in let b = unit-column s go.unit in omega arith

  pub down_fits : (d : ℕ) → d ≡ plus_one (read s.row) → row + d < 2000
  down_fits d e = let g = read-unit s.row go.unit.row in let a = row_low in let b = unit_row s go.unit in omega arith

  module _ (r d : ℕ) (er : r ≡ plus_one (read s.column)) (ed : d ≡ plus_one (read s.row)) where
    right_is : r ≡ plus_one s.column
    right_is = er ∙ read-unit s.column go.unit.column

    down_is : d ≡ plus_one s.row
    down_is = ed ∙ read-unit s.row go.unit.row

    pub step-leads : StepsTo ((row * w + column) % w) ((row * w + column) / w) s (column + r) (row + d)
    step-leads =
        leads-from w column row go.in_row s (column + r) (row + d)
        (record { column = ap (λ (n : ℕ). column + n) right_is; row = ap (λ (n : ℕ). row + n) down_is })

    -- a target inside the edge is a place
    pub target-place :
        within w (column + r) ≡ true → within h (row + d) ≡ true →
        (1 ≤ column + r) × (1 ≤ row + d) × ((row + d - 1) * w + (column + r - 1) < 1600) × (m < length cells)
    target-place a b =
        (within-some w (column + r) a, within-some h (row + d) b, place-most w h (column + r) (row + d) go.placed.wide go.placed.high a b, go.room)

    -- from an inner place every target is inside the edge
    pub inner-target : is_inner w h column row ≡ true → (within w (column + r) ≡ true) × (within h (row + d) ≡ true)
    inner-target e = (
      off-edge-within w column r (and_left (off_edge w column) _ e) (let b = unit-column s go.unit in omega (arith, b, right_is)),
      off-edge-within h row d (and_right (off_edge w column) _ e) (let b = unit_row s go.unit in omega (arith, b, down_is)),
    )

    -- so the test for a step adds nothing to that of its target
    pub stays-inside :
        (inner : Bool) → inner ≡ is_inner w h column row →
        (inner || (within w (column + r) && within h (row + d))) ≡ (within w (column + r) && within h (row + d))
    stays-inside true e = let i = inner-target (sym e) in sym (and_both i.0 i.1)
    stays-inside false e = refl

-- a place by its row and column
pub place-digits : (w h x : ℕ) → Placed w h x → Placed w h (x / w * w + x % w)
place-digits w h x p = subst (Placed w h) (sym (div-add-mod' x w)) p

pub put-digits :
    (w h x : ℕ) (ss : List Step) (m : ℕ) (cells : List ℕ) (n : ℕ) (after : List ℕ) → Written m (reached w h (x / w * w + x % w) ss) cells n after →
    Written m (reached w h x ss) cells n after
put-digits w h x ss m cells n after p = subst (λ (y : ℕ). Written m (reached w h y ss) cells n after) (div-add-mod' x w) p

-- a step puts one place at most
pub put-most : (w h x : ℕ) (s : Step) → length (reached w h x (s ∷ [])) ≤ 1
put-most w h x s = by (stays w h x (offset s)) refl
  where
    by : (t : Bool) → stays w h x (offset s) ≡ t → length (reached w h x (s ∷ [])) ≤ 1
    by true e = rw (reached-one w h x s e) (omega arith)
    by false e = rw (reached-none w h x s e) (omega arith)

-- the places of the steps used before index i are written in front of the cells
pub record Front (a w h x : ℕ) (old cells : List ℕ) (m i : ℕ) : Type 0 where
  pub large : 8 ≤ length old
  pub room : m ≤ 8
  pub under : m ≤ i
  pub front : List ℕ
  pub written : Written 0 front old m cells
  pub done : front ++ reached w h x (used a (drop i steps)) ≡ neighbours_of a w h x

-- an adjacency goes on in the table by one or two steps
pub stride-some : (a : ℕ) → 1 ≤ stride_of a
stride-some a = on-pick (λ n. 1 ≤ n) (eqb a 4) (λ e. omega arith) (λ e. omega arith)

pub stride_most : (a : ℕ) → stride_of a ≤ 2
stride_most a = on-pick (λ n. n ≤ 2) (eqb a 4) (λ e. omega arith) (λ e. omega arith)

-- past the table's end no step is used
used-none : (a i : ℕ) → 8 ≤ i → used a (drop i steps) ≡ []
used-none a i l = rw (drop_of_length-le steps l) (on-pick (λ ss. ss ≡ []) (eqb a 4) (λ e. refl) (λ e. refl))

module _ (a w h x : ℕ) (old : List ℕ) where
  pub front-start : 8 ≤ length old → Front a w h x old old 0 0
  unfolding neighbours_of
  front-start e = record { large = e; room = omega arith; under = omega arith; front = []; written = written_none old 0; done = refl }

  module _ (cells : List ℕ) (m i : ℕ) (f : Front a w h x old cells m i) where
    pub front-size : length cells ≡ length old
    front-size = written-length (let l = f.large in let r = f.room in omega arith) f.written

    pub front-turn :
        (after : List ℕ) (n : ℕ) → i < 8 → Written m (reached w h x (step_at i ∷ [])) cells n after →
        Front a w h x old after n (i + stride_of a)
    front-turn after n l p =
        let zs = reached w h x (step_at i ∷ []) in
        let more = used a (drop (i + stride_of a) steps) in
        let most = put-most w h x (step_at i) in
        let next = stride-some a in
        let e = p.end in
        record {
          large = f.large;
          room = omega arith;
          under = omega arith;
          front = f.front ++ zs;
          written = written_then (omega arith) f.written p;
          done =
              append_assoc f.front zs (reached w h x more) ∙
              (ap (λ l. f.front ++ l)
              (sym (ap (reached w h x) (used_step a i l) ∙ reached-step w h x (step_at i) more)) ∙
              f.done);
        }

    pub front-end : 8 ≤ i → Listed (neighbours_of a w h x) old m cells
    front-end l =
        let e : f.front ≡ neighbours_of a w h x =
        sym (append-nil f.front) ∙
        (ap (λ l. f.front ++ reached w h x l) (sym (used-none a i l)) ∙ f.done) in
        record {
          count = f.written.end ∙ (zero-add (length f.front) ∙ ap length e);
          few = f.room;
          whole = written-front f.written ∙ ap (λ (l : List ℕ). over l old) e;
        }
