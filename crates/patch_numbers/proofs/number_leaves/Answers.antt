-- `patch_numbers::number_leaves` meets its contract. The invariant is Numbers.
use Rattle.std.proofs.Common.{arith}
use Rattle.patch_numbers.proofs.Numbering.{numbers-few, numbers-mapped, numbers_more}
use Rattle.patch_numbers.proofs.number_leaves.Goals as goal

pub number_leaf-r-requires : goal.number_leaf-r-requires
number_leaf-r-requires c =
    let k = c.loop-x.invariant in
    let z = k.kept.size in (
      record { few = c.requires.0.few; blocks = let e = c.requires.0.blocks in omega arith; beside = c.requires.0.beside },
      numbers-mapped _ _ _ c.requires.1 _ _ _ c.loop-x-test.true k,
      c.loop-x-test.true,
      numbers-few _ _ _ c.requires.1 _ _ _ c.loop-x-test.true k,
    )

pub loop-x-preserved : goal.loop-x-preserved
loop-x-preserved c =
    let e = c.requires.0.blocks in
    numbers_more _ _ _ c.requires.1 _ _ _ c.loop-x-test.true c.loop-x.invariant _ _ (omega arith) c.number_leaf-r.ensures
