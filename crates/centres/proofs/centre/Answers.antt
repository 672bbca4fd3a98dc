-- `centres::centre` meets its contract: each return is one case of rounding.
use Rattle.std.proofs.Common.{le_antisymm, arith}
use Rattle.centres.proofs.Rounding.{near-below, near-above, near_even, centres-only}
use Rattle.centres.proofs.centre.Goals as goal

pub returns-then-twice-size : goal.returns-then-twice-size
returns-then-twice-size c =
    let some = c.requires.0 in
    omega (arith, centres-only _ _ _ some (near-below _ _ some c.if-twice-size.true))

pub returns-then-size-twice : goal.returns-then-size-twice
returns-then-size-twice c =
    let some = c.requires.0 in
    omega (arith, centres-only _ _ _ some (near-above _ _ some c.if-size-twice.true))

pub returns-else-size-twice : goal.returns-else-size-twice
returns-else-size-twice c =
    let some = c.requires.0 in
    omega (arith, centres-only _ _ _ some (near_even _ _ some (le_antisymm c.if-size-twice.false c.if-twice-size.false)))
