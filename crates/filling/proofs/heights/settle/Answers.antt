-- `filling::heights::settle` meets its contract. The invariant is SettleWalk; the places from x on fall, since a chain rises.
use Rattle.filling_laws.proofs.FillSettling.{settle-turn, settle-end}
use Rattle.filling.proofs.heights.settle.Goals as goal

pub loop-x-preserved : goal.loop-x-preserved
loop-x-preserved c = settle-turn c.loop-x.invariant c.requires c.loop-x-test.true c.settle_one.ensures c.from-x.ensures

pub returns : goal.returns
returns c = settle-end c.loop-x.invariant c.loop-x-test.false
