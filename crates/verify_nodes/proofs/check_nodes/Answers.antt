-- `verify_nodes::check_nodes` meets its contract.
use Rattle.std.proofs.Common.{arith}
use Rattle.tree_laws.proofs.Decided.{decided-yes, decided-never}
use Rattle.verify_nodes.proofs.NodeChecks.{numbered-turn, numbered_within, numbered-fails, numbered-end}
use Rattle.verify_nodes.proofs.check_nodes.Goals as goal

pub returns-then-not-node_fits : goal.returns-then-not-node_fits
returns-then-not-node_fits c =
    numbered-fails _ _ _ _ _ _ _ _ _ c.loop-i.invariant c.loop-i-test.true (decided-never c.if-not-node_fits.true c.node_fits.ensures)

pub bounds-cells-from : goal.bounds-cells-from
bounds-cells-from c =
    let fits = decided-yes c.if-not-node_fits.false c.node_fits.ensures in
    numbered_within _ _ _ _ _ _ _ _ c.requires.count_ready.0 c.loop-i.invariant fits c.from.ensures

pub loop-i-preserved : goal.loop-i-preserved
loop-i-preserved c =
    let s = c.requires.count_ready in
    let fits = decided-yes c.if-not-node_fits.false c.node_fits.ensures in
    numbered-turn _ _ _ _ _ _ _ _ c.loop-i.invariant (omega (arith, s.2, s.3)) fits c.from.ensures

pub returns : goal.returns
returns c =
    let s = c.requires.count_ready in
    numbered-end _ _ _ _ _ _ _ _ c.loop-i.invariant (omega (arith, s.1))
