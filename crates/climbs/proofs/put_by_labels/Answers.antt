-- `climbs::put_by_labels` meets its contract. The invariant: the climbs and labels after the first i nodes.
use Rattle.std.proofs.Common.{arith}
use Rattle.climbs.proofs.Climbs.{handed-size, handed-leaf, climbs-more}
use Rattle.climbs.proofs.put_by_labels.Goals as goal

pub put_climb-requires : goal.put_climb-requires
put_climb-requires c =
    let h = c.loop-i-test.true in
    let i = c.loop-i.invariant in (
      c.requires.0,
      handed-size _ _ _ _ c.requires.2 c.requires.1 c.requires.3 _ _ _ h i c.hand_up.ensures,
      omega (arith, c.requires.2),
      handed-leaf _ _ _ _ c.requires.2 c.requires.1 c.requires.3 _ _ _ h i c.hand_up.ensures,
    )

pub loop-i-preserved : goal.loop-i-preserved
loop-i-preserved c =
    climbs-more _ _ _ _ c.requires.2 c.requires.1 c.requires.3 _ _ _ c.loop-i-test.true c.loop-i.invariant c.hand_up.ensures c.put_climb.ensures
