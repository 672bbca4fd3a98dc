-- `board_controller::controller_write_file` meets its contract: the place of a refusal fits 16 bits.
use Rattle.std.proofs.Common.{ℕ, List, Result, Ok, Err, ◌<◌, arith}
use Rattle.std.specs.Prelude.{IfErr}
use Rattle.refusals.specs.declared.Refusal.{Refusal}
use Rattle.refusals.specs.Refusals.{place_of}
use Rattle.saving.specs.Calls.{SaveSays, saved_of}
use Rattle.saving.proofs.Contents.{save-place}
use Rattle.board_controller.proofs.controller_write_file.Goals as goal

place-fits :
    (w h m : ℕ) (xs o o' : List ℕ) (r : Result ℕ Refusal) → SaveSays w h m xs o o' (saved_of r) → IfErr r (λ e. place_of e < 65536)
place-fits w h m xs o o' (Ok n) s = tt
place-fits w h m xs o o' (Err e) s = let most = save-place s in omega (arith, most)

pub returns : goal.returns
returns c =
    rw (c.packed_saved.ensures.whole (place-fits _ _ _ _ _ _ c.write_file.result c.write_file.ensures)) c.write_file.ensures
