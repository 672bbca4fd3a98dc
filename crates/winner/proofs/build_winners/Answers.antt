-- `winner::build_winners` meets its contract. The invariant is Building: the tree is in order from a cell on.
use Rattle.std.proofs.Common.{rules, arith}
use Rattle.watershed_laws.proofs.WinnerSteps.{build-start, build-turn}
use Rattle.winner.proofs.build_winners.Goals as goal

pub loop-i-init : goal.loop-i-init
loop-i-init c = (build-start _ _ _ c.fill_leaves.ensures, search rules)

pub loop-i-preserved : goal.loop-i-preserved
loop-i-preserved c =
    (build-turn _ _ _ _ _ _ c.loop-i.invariant.0 c.loop-i-test.true c.loop-i.auto.i c.play.ensures, omega arith)
