-- `verify_pixels::check_edge` meets its contract.
use Rattle.tree_laws.proofs.Decided.{decided-yes, decided-never}
use Rattle.tree_laws.proofs.Checks.{checked-bounds, checked-parents, checked-skip, checked-same, checked-join}
use Rattle.verify_pixels.proofs.Edges.{root-in, edge-joined}
use Rattle.verify_pixels.proofs.check_edge.Goals as goal

pub comes_before-requires : goal.comes_before-requires
comes_before-requires c = (checked-bounds _ _ _ _ _ _ _ _ c.requires.edge_check_ready).0

pub returns-then-not-comes_before : goal.returns-then-not-comes_before
returns-then-not-comes_before c = (
  root-in _ _ _ _ _ _ _ _ c.requires.edge_check_ready,
  checked-skip _ _ _ _ _ _ _ _ (decided-never c.if-not-comes_before.true c.comes_before.ensures),
)

pub find-q-requires : goal.find-q-requires
find-q-requires c =
    let s = c.requires.edge_check_ready in
    (checked-parents _ _ _ _ _ _ _ _ s, (checked-bounds _ _ _ _ _ _ _ _ s).1)

-- past the first test y comes before x
pub returns-then-q-r : goal.returns-then-q-r
returns-then-q-r c =
    let earlier = decided-yes c.if-not-comes_before.false c.comes_before.ensures in (
      root-in _ _ _ _ _ _ _ _ c.requires.edge_check_ready,
      checked-same _ _ _ _ _ _ _ _ earlier _ _ c.find-q.ensures c.if-q-r.true,
    )

pub check_join-requires-clause-names : goal.check_join-requires-clause-names
check_join-requires-clause-names c =
    let earlier = decided-yes c.if-not-comes_before.false c.comes_before.ensures in
    let j = checked-join _ _ _ _ _ _ _ _ earlier _ _ c.find-q.ensures c.requires.edge_check_ready in
    (j.name-q, j.name-r)

pub returns-else-q-r : goal.returns-else-q-r
returns-else-q-r c =
    let earlier = decided-yes c.if-not-comes_before.false c.comes_before.ensures in
    edge-joined _ _ _ _ _ _ _ _ earlier _ _ c.find-q.ensures c.if-q-r.false _ _ c.check_join.ensures
