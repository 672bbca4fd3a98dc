-- `filling::joins::fill_pixels` meets its contract. The invariant is FillWalk; the places from x on fall, since a chain rises.
use Rattle.filling_laws.proofs.FillWalks.{fill-walk-next, fill-walk-end}
use Rattle.filling.proofs.joins.fill_pixels.Goals as goal

pub loop-x-preserved : goal.loop-x-preserved
loop-x-preserved c =
    (fill-walk-next c.loop-x.invariant c.requires.1 c.loop-x-test.true c.fill_pixel.ensures c.from-x.ensures).0

pub returns : goal.returns
returns c = fill-walk-end c.loop-x.invariant c.loop-x-test.false
