-- `patch_sums::add_run` meets its contract: three entries of the number are raised, or none.
use Rattle.std.proofs.Common.{◌≡◌, suc, ◌-◌, arith}
use Rattle.patch_sums.specs.Sums.{rows}
use Rattle.patch_sums.proofs.Summing.{room-sizes, room-columns, room-rows}
use Rattle.patch_sums.proofs.add_run.Goals as goal

pub add_to-requires : goal.add_to-requires
add_to-requires c = room-sizes _ _ _ _ _ (omega arith) c.requires

pub add_to-requires-then-run-ne0 : goal.add_to-requires-then-run-ne0
add_to-requires-then-run-ne0 c = room-columns _ _ _ _ _ (omega arith) c.requires _ c.add_to.ensures

pub overflow_mul-run : goal.overflow_mul-run
overflow_mul-run c =
    let number_is : c.args.run.number ≡ suc (c.args.run.number - 1) = omega arith in
    omega (arith, c.requires.room rows _ number_is)

pub add_to-requires-then-run-ne0-2 : goal.add_to-requires-then-run-ne0-2
add_to-requires-then-run-ne0-2 c =
    room-rows _ _ _ _ _ (omega arith) c.requires _ c.add_to.ensures _ c.add_to-then-run-ne0.ensures
