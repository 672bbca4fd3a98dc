-- `tree::levels::number_level` meets its contract.
use Rattle.tree_laws.proofs.Mapped.{name-start, name-bounds, name-turn}
use Rattle.tree.proofs.levels.number_level.Goals as goal

pub loop-i-init : goal.loop-i-init
loop-i-init c = name-start _ _ _ _ _ c.requires.0

pub number_one-requires : goal.number_one-requires
number_one-requires c = (name-bounds _ _ _ _ _ _ _ _ c.requires.0 c.loop-i.invariant c.loop-i-test.true, c.requires.1)

pub loop-i-preserved : goal.loop-i-preserved
loop-i-preserved c = name-turn _ _ _ _ _ _ _ _ _ _ c.loop-i.invariant c.loop-i-test.true c.number_one.ensures
