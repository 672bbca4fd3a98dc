-- `tree::levels::levels` meets its contract.
use Rattle.std.proofs.Common.{arith}
use Rattle.tree_laws.proofs.Mapped.{between-same}
use Rattle.tree.proofs.levels.levels.Goals as goal

pub returns : goal.returns
returns c = between-same _ _ _ _ _ _ c.loop-k.invariant (omega arith)
