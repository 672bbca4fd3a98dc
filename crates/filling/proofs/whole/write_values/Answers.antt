-- `filling::whole::write_values` meets its contract. The invariant is ValuesWalk.
use Rattle.std.proofs.Common.{arith}
use Rattle.filling_laws.proofs.FillValues.{values-turn, values-end}
use Rattle.filling.proofs.whole.write_values.Goals as goal

pub loop-x-preserved : goal.loop-x-preserved
loop-x-preserved c = values-turn c.requires.1 c.loop-x.invariant (omega arith) c.read_value.ensures

pub returns : goal.returns
returns c = values-end c.requires.1 c.loop-x.invariant (omega arith)
