-- `patches::figures::put_patches` meets its contract. The invariant is Patched.
use Rattle.std.proofs.Common.{arith}
use Rattle.patches.proofs.Depths.{patched-more}
use Rattle.patches.proofs.figures.put_patches.Goals as goal

pub loop-x-preserved : goal.loop-x-preserved
loop-x-preserved c =
    let e = c.requires.0.blocks in
    patched-more _ _ _ _ _ _ _ c.loop-x-test.true c.loop-x.invariant _ _ (omega arith) c.put_patch-r.ensures
