-- Laws of the fault of storing and restoring rows and of the calls' answers, and the theorems of calls.
use mathlib.Core.Path.{◌≡◌, refl, sym, ap, ◌∙◌}
use mathlib.Core.Bool.{Bool, true, false, not}
use mathlib.Core.Logic.{⊎_elim}
use mathlib.Core.List.{List}
use Prim.Native.Nat.{ℕ, ◌*◌, ◌≤◌}
use native.Mathlib.Omega.{arith}
use borrow.Author.Tests.{eqb-true, eq-eqb, le-ltb, ltb-false}
use lib.Dec.{eqb, ltb}
use lib.ListN.{length, take, drop}
use Rattle.lists.specs.Lists.{over}
use Rattle.picture.specs.Pictures.{side_fits, all_bytes}
use Rattle.lists.proofs.Tests.{and_left, and_right, and_both, on-pick}
use Rattle.lists.proofs.Cuts.{over-taken, over-dropped}
use Rattle.picture.proofs.Sides.{side-most, is_within}
use Rattle.topology.proofs.Accepted.{accepted-is}
use Rattle.faults.specs.PictureFault.{first_of, when, sides_fault}
use Rattle.faults.proofs.Accepted.{Sized, sides-none, no-sides-fault}
use Rattle.faults.proofs.Faults.{first_some, first-none, first-later, then-failed, then-none}
use Rattle.answers.specs.Answers.{Answer}
use Rattle.refusals.specs.declared.Refusal.{Refusal}
use Rattle.refusals.specs.Refusals.{number_of}
use Rattle.refusals.proofs.Numbers.{number-some}
use Rattle.answers.proofs.Calls.{written-left}
use Rattle.stored_rows.specs.Calls.{rows_fault}
use Rattle.stored_rows.specs.Steps.{converted_rows, ConvertSays, Fits}
use Rattle.stored_rows.specs.Restoring.{AcceptedUnrefused, BehindKept, CallRestores, CallStores}
use Rattle.stored_rows.proofs.Conversions.{converted-count, conversion-undone}

module _ (w h count room : ℕ) where
  -- the code counts from the number of bytes
  pub rows-counted : first_of (sides_fault w h count) (when (ltb room count) 9) ≡ rows_fault w h count room
  unfolding rows_fault
  rows-counted =
      first-later (sides_fault w h count) count (w * h) (λ n. when (ltb room n) 9) (λ z. (no-sides-fault w h count z).size)

  -- no fault: none of sides and length, and room
  rows-enough : rows_fault w h count room ≡ 0 → Sized w h count × (w * h ≤ room)
  unfolding rows_fault
  rows-enough z = let (e, t) = then-none _ 8 _ _ refl z in (no-sides-fault w h count e, ltb-false room (w * h) t)

  rows_none : Sized w h count → w * h ≤ room → rows_fault w h count room ≡ 0
  unfolding rows_fault
  rows_none s m =
      sym (then-failed _ 8 _ _ refl (sides-none w h count s.sides (eq-eqb count (w * h) s.size)) (le-ltb room (w * h) m))

pub accepted-unrefused : AcceptedUnrefused
accepted-unrefused p room e m =
    let a = accepted-is p e in
    rows_none _ _ _ room
    record { sides = and_both (is_within 40 p.width a.some a.wide) (is_within 40 p.height a.tall a.high); size = a.size } m

-- what the functions inside are lent
pub fits : {w h : ℕ} {bytes out : List ℕ} → rows_fault w h (length bytes) (length out) ≡ 0 → Fits w h bytes out
fits {w} {h} {bytes} {out} z =
    let (s, m) = rows-enough w h (length bytes) (length out) z in
    record {
      wide = side-most w (and_left (side_fits w) _ s.sides);
      high = side-most h (and_right (side_fits w) _ s.sides);
      count = s.size;
      room = m;
    }

-- the fault by its two causes
pub sides-refused : (w h count room : ℕ) (e : Refusal) → number_of e ≡ sides_fault w h count → number_of e ≡ rows_fault w h count room
sides-refused w h count room e n =
    first_some _ (when (ltb room count) 9) _ n (λ z. omega (arith, number-some e)) ∙ rows-counted w h count room

pub room-left : (w h count room : ℕ) → 0 ≡ sides_fault w h count → rows_fault w h count room ≡ when (ltb room count) 9
room-left w h count room z = sym (rows-counted w h count room) ∙ first-none _ _ (sym z)

-- what an unrefused call leaves
module _
    (back : Bool) (w h : ℕ) (bytes : List ℕ) {out out' : List ℕ} {first : Answer}
    (says : ConvertSays back w h bytes out out' first) (unrefused : first.number ≡ 0)
  where
    no-fault : rows_fault w h (length bytes) (length out) ≡ 0
    no-fault = sym says.answer.number ∙ unrefused

    sized : Sized w h (length bytes)
    sized = (rows-enough w h (length bytes) (length out) no-fault).0

    left : take (w * h) out' ≡ converted_rows back w h bytes
    left =
        let new = converted_rows back w h bytes in
        ap (take (w * h)) (says.output ∙ sym (written-left (rows_fault w h (length bytes) (length out)) (over new out) out no-fault))
        ∙ over-taken (w * h) new (converted-count back w h bytes sized.size) out

-- what either call leaves behind the n bytes
behind :
    (back : Bool) (w h : ℕ) (bytes : List ℕ) {out out' : List ℕ} {result : Answer} → ConvertSays back w h bytes out out' result →
    drop (w * h) out' ≡ drop (w * h) out
behind back w h bytes {out} says =
    let fault = rows_fault w h (length bytes) (length out) in
    ap (drop (w * h)) says.output
    ∙ on-pick (λ (l : List ℕ). drop (w * h) l ≡ drop (w * h) out) (eqb fault 0)
    (λ e.
    let s = (rows-enough w h (length bytes) (length out) (eqb-true fault 0 e)).0 in
    over-dropped (w * h) (converted_rows back w h bytes) (converted-count back w h bytes s.size) out)
    (λ e. refl)

pub behind-kept : BehindKept
behind-kept w h bytes out out' result says = ⊎_elim (λ s. behind false w h bytes s) (λ s. behind true w h bytes s) says

-- two calls, one way and then the other
calls-undone :
    (back : Bool) (w h : ℕ) (bytes : List ℕ) {out out' again again' : List ℕ} {first second : Answer} → all_bytes bytes ≡ true →
    ConvertSays back w h bytes out out' first → first.number ≡ 0 →
    ConvertSays (not back) w h (take (w * h) out') again again' second → w * h ≤ length again →
    (second.number ≡ 0) × (take (w * h) again' ≡ bytes)
calls-undone back w h bytes {out' = out'} {again} {second = second} b says n next room =
    let s = sized back w h bytes says n in
    let e = left back w h bytes says n in
    let long = ap length e ∙ converted-count back w h bytes s.size in
    let z : second.number ≡ 0 =
    next.answer.number ∙ rows_none w h (length (take (w * h) out')) (length again) record { sides = s.sides; size = long } room in (
      z,
      left (not back) w h (take (w * h) out') next z
          ∙ ap (converted_rows (not back) w h) e
          ∙ conversion-undone back w h bytes record { count = s.size; each = b },
    )

pub call-restores : CallRestores
call-restores w h pixels out out' again again' first second b says n next room = calls-undone false w h pixels b says n next room

pub call-stores : CallStores
call-stores w h stored out out' again again' first second b says n next room = calls-undone true w h stored b says n next room
