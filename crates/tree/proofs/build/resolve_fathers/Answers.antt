-- `tree::build::resolve_fathers` meets its contract.
use Rattle.tree_laws.proofs.Resolving.{resolve-bounds, resolve-turn}
use Rattle.tree.proofs.build.resolve_fathers.Goals as goal

pub resolve_father-requires : goal.resolve_father-requires
resolve_father-requires c = resolve-bounds _ _ _ _ _ c.requires c.loop-i.invariant c.loop-i-test.true

pub loop-i-preserved : goal.loop-i-preserved
loop-i-preserved c = resolve-turn _ _ _ _ _ _ c.loop-i.invariant c.loop-i-test.true c.resolve_father.ensures
