-- `filling::heights::settle` meets its contract. The invariant is SettleWalk; the places from x on fall, since a chain rises.
use Rattle.std.proofs.Common.{◌-◌, length}
use Rattle.filling_laws.proofs.FillSettling.{SettleWalk}
use Rattle.filling.proofs.heights.settle.Given as goal

abbrev pub invariant-loop-x : goal.invariant-loop-x
invariant-loop-x l = SettleWalk l.s l.k l.head l.x l.initial.cells l.work l.cells

abbrev pub decreases-loop-x : goal.decreases-loop-x
decreases-loop-x l = length l.initial.cells - l.x
