-- Demand 3 of the bytes that the watershed call leaves.
use mathlib.Core.Path.{◌≡◌, sym, ap, subst, ◌∙◌}
use mathlib.Core.Bool.{true}
use mathlib.Core.List.{List}
use Prim.Native.Nat.{ℕ}
use lib.ListN.{length, take}
use Rattle.lists.specs.Lists.{over}
use Rattle.lists.proofs.Cuts.{over-taken}
use Rattle.picture.specs.Pictures.{Picture, places, with_pixels, all_bytes, is_picture}
use Rattle.picture.specs.Watersheds.{watershed}
use Rattle.picture.specs.Kept.{Kept, OthersFail}
use Rattle.topology.proofs.Accepted.{byte_at, accepted-is}
use Rattle.topology.proofs.Water.{watershed-shape, watershed-watered}
use Rattle.topology.proofs.Demand.{demand-3, other-fails}
use Rattle.answers.specs.Answers.{Answer}
use Rattle.answers.proofs.Calls.{written-left}
use Rattle.board.specs.Calls.{output_fault_of, WatershedSays}
use Rattle.board.specs.Demands.{left_by, Demand-3-of-call}
use Rattle.faults.proofs.Faults.{output-enough, admitted}

-- bytes whose front is the watershed of an accepted picture
module _ (p : Picture) (o o' : List ℕ) (ok : is_picture p ≡ true) (front : o' ≡ over (watershed p).pixels o) where
  -- the bytes are the watershed's
  pub left_is : left_by p o' ≡ watershed p
  left_is =
      let size = (accepted-is p ok).size in
      let w = (watershed-watered p size).size ∙ size in
      ap (λ (xs : List ℕ). with_pixels p (take (places p) xs)) front ∙
      (ap (with_pixels p) (over-taken (places p) (watershed p).pixels w o) ∙
      sym (watershed-shape p size))

  -- every connected part at every height, the tree with its fathers, every pass between minima, and no other picture nowhere above
  pub demand-3-of-bytes : Kept p (left_by p o')
  demand-3-of-bytes = subst (Kept p) (sym left_is) (demand-3 p ok)

  -- every other picture with the same sides that is nowhere above fails to keep the parts at a height from 0 to 255
  pub others-fail-bytes : OthersFail p (left_by p o')
  others-fail-bytes = other-fails p (left_by p o') demand-3-of-bytes

-- the bytes that an unrefused call leaves
module _ (p : Picture) (o o' q q' : List ℕ) (r : Answer) (bytes : all_bytes p.pixels ≡ true) (says : WatershedSays p o o' q q' r) (unrefused : r.number ≡ 0) where
  no-fault : output_fault_of p o q ≡ 0
  no-fault = sym says.call.answer.number ∙ unrefused

  pub accepted-of-call : is_picture p ≡ true
  accepted-of-call =
      (admitted p (length q)
      (output-enough p.adjacency p.width p.height (length p.pixels) (length q) (length o) no-fault).0
      (byte_at p.pixels bytes)).picture

  left : o' ≡ over (watershed p).pixels o
  left = says.output ∙ sym (written-left (output_fault_of p o q) (over (watershed p).pixels o) o no-fault)

pub demand-3-of-call : Demand-3-of-call
demand-3-of-call p o o' q q' r bytes says z =
    let ok = accepted-of-call p o o' q q' r bytes says z in
    let front = left p o o' q q' r bytes says z in
    (demand-3-of-bytes p o o' ok front, others-fail-bytes p o o' ok front)
