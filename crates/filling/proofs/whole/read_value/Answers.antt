-- `filling::whole::read_value` meets its contract: the root that is found is that of a settled class.
use Rattle.std.proofs.Common.{arith}
use Rattle.filling_laws.proofs.FillValues.{read-bounds, value_read}
use Rattle.filling.proofs.whole.read_value.Goals as goal

pub overflow_sub-result : goal.overflow_sub-result
overflow_sub-result c = (read-bounds c.find-r.ensures c.requires.0 c.requires.1).0

pub overflow_cast-result : goal.overflow_cast-result
overflow_cast-result c = let q = read-bounds c.find-r.ensures c.requires.0 c.requires.1 in omega (arith, q.0, q.1)

pub returns : goal.returns
returns c =
    let q = read-bounds c.find-r.ensures c.requires.0 c.requires.1 in value_read c.find-r.ensures (omega (arith, q.0))
