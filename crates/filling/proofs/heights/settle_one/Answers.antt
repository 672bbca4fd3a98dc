-- `filling::heights::settle_one` meets its contract: the class counts s, or it is left.
use Rattle.std.proofs.Common.{refl}
use Rattle.filling_laws.proofs.FillSettling.{settled-one-pass, settled-one-set}
use Rattle.filling.proofs.heights.settle_one.Goals as goal

pub returns-then-cells-r : goal.returns-then-cells-r
returns-then-cells-r c = settled-one-set c.find-r.ensures refl c.if-cells-r.true

pub returns-else-cells-r : goal.returns-else-cells-r
returns-else-cells-r c = settled-one-pass c.find-r.ensures c.if-cells-r.false
