-- `verify::check_level` meets its contract.
use Rattle.std.proofs.Common.{arith}
use Rattle.tree_laws.proofs.Decided.{decided-yes, decided-never}
use Rattle.verify.proofs.Verified.{differs-tree}
use Rattle.verify.proofs.Heights.{level-count, level-nodes, level-map, level-mapped, level-done}
use Rattle.verify.proofs.check_level.Goals as goal
use Rattle.verify.proofs.check_level.Goals.{else-check_nodes-via-then-check_nodes+else-check_map, else-check_nodes-via-else-check_nodes}

pub returns-then-not-check_pixels : goal.returns-then-not-check_pixels
returns-then-not-check_pixels c =
    differs-tree _ _ _ _ _ _ (decided-never c.if-not-check_pixels.true c.check_pixels.ensures)

-- past the first test the pixels have joined, and the lent fathers agree
pub check_nodes-requires-clause-count_ready : goal.check_nodes-requires-clause-count_ready
check_nodes-requires-clause-count_ready c =
    let (v, low) = c.requires.verified in
    let z = c.requires.lists_long in
    let checked = decided-yes c.if-not-check_pixels.false c.check_pixels.ensures in
    let e = checked.classes.size in
    let g = v.checking.classes.size in
    let run = c.run_end-d.ensures in
    (level-count _ _ _ _ _ _ _ _ _ v low _ checked, run.order, omega (arith, run.most, z.count, e, g), omega (arith, z.few, e, g))

pub check_map-requires-clause-lent_map_ready : goal.check_map-requires-clause-lent_map_ready
check_map-requires-clause-lent_map_ready c =
    let (v, low) = c.requires.verified in
    let checked = decided-yes c.if-not-check_pixels.false c.check_pixels.ensures in
    level-map _ _ _ _ _ _ _ _ _ v low _ checked _ c.run_end-d.ensures _ _ c.check_nodes.ensures c.if-check_nodes.true

pub returns-then-check_map : goal.returns-then-check_map
returns-then-check_map c =
    let (v, low) = c.requires.verified in
    let checked = decided-yes c.if-not-check_pixels.false c.check_pixels.ensures in
    level-done _ _ _ _ _ _ _ _ _ v low _ checked _ c.run_end-d.ensures _ _ c.check_nodes.ensures c.if-check_nodes.true
    _ _ c.check_map.ensures c.if-check_map.true

pub returns-else-check_nodes : goal.returns-else-check_nodes
returns-else-check_nodes c =
    let (v, low) = c.requires.verified in
    let checked = decided-yes c.if-not-check_pixels.false c.check_pixels.ensures in
    let run = c.run_end-d.ensures in
    elim c.else-check_nodes.branch [
      | else-check_nodes-via-then-check_nodes+else-check_map w ↦
          level-mapped _ _ _ _ _ _ _ _ _ v low _ checked _ run _ _ c.check_nodes.ensures w.if-check_nodes.true _ _ w.check_map.ensures
          w.if-check_map.false
      | else-check_nodes-via-else-check_nodes w ↦
          level-nodes _ _ _ _ _ _ _ _ _ v low _ checked _ run _ _ c.check_nodes.ensures w.if-check_nodes.false
    ]
