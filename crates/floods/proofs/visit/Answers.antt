-- `floods::visit` meets its contract: each return is one case of a visit.
use Prim.Native.Nat.{◌<◌}
use native.Mathlib.Omega.{arith}
use lib.ListN.{length}
use Rattle.floods.proofs.Floods.{unmarked-some}
use Rattle.floods.proofs.visit.Goals as goal

pub bounds-stack-t : goal.bounds-stack-t
bounds-stack-t c =
    let b : c.args.y < length c.args.labels.now = omega arith in
    omega (arith, unmarked-some c.args.labels.now c.args.y b c.if-labels-y-ne0.false)
