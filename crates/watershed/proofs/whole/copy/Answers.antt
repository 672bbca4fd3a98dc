-- `watershed::whole::copy` meets its contract. The invariant is Copied: the bytes passed are equal.
use Rattle.lists.proofs.Copies.{copy-all}
use Rattle.watershed.proofs.whole.copy.Goals as goal

pub returns : goal.returns
returns c = copy-all _ _ _ _ c.requires c.loop-i-test.false c.loop-i.invariant
