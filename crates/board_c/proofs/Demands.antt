-- Demand 3 of the bytes that the watershed call for C leaves.
use mathlib.Core.Path.{◌≡◌, sym, ◌∙◌}
use Prim.Native.Nat.{ℕ}
use lib.ListN.{length}
use Rattle.lists.specs.Lists.{over}
use Rattle.picture.specs.Pictures.{Picture}
use Rattle.picture.specs.Watersheds.{watershed}
use Rattle.topology.proofs.Accepted.{byte_at}
use Rattle.faults.specs.PictureFault.{picture_fault_of}
use Rattle.faults.proofs.Faults.{first-zero, faultless-accepted}
use Rattle.answers.proofs.Calls.{written-left}
use Rattle.board.proofs.Demands.{demand-3-of-bytes, others-fail-bytes}
use Rattle.board_c.specs.CalledByC.{work_fault_for_c, watershed_fault_for_c, Demand-3-for-C}

-- no fault for C: no fault of the picture
picture-fine : (p : Picture) (out work : ℕ) → watershed_fault_for_c p out work ≡ 0 → picture_fault_of p ≡ 0
unfolding watershed_fault_for_c work_fault_for_c
picture-fine p out work e = (first-zero (picture_fault_of p) _ (first-zero (work_fault_for_c p work) _ e).0).0

pub demand-3-for-c : Demand-3-for-C
demand-3-for-c p o o' q q' r bytes says z =
    let f = watershed_fault_for_c p (length o) (length q) in
    let none : f ≡ 0 = sym says.number ∙ z in
    let ok = faultless-accepted p (picture-fine p (length o) (length q) none) (byte_at p.pixels bytes) in
    let front = says.output ∙ sym (written-left f (over (watershed p).pixels o) o none) in
    (demand-3-of-bytes p o o' ok front, others-fail-bytes p o o' ok front)
