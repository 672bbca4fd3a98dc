-- `tree::joins::join_edge` meets its contract.
use Rattle.tree_laws.proofs.Decided.{decided-yes, decided-never}
use Rattle.tree_laws.proofs.Chains.{edge-bounds, edge-parents, join-ready, done-skip, done-same, done-linked}
use Rattle.lists.proofs.Blocks.{untouched-refl}
use Rattle.tree.proofs.joins.join_edge.Goals as goal

pub comes_before-requires : goal.comes_before-requires
comes_before-requires c = (edge-bounds _ _ _ _ _ _ _ c.requires).0

pub returns-then-not-comes_before : goal.returns-then-not-comes_before
returns-then-not-comes_before c =
    done-skip _ _ _ _ _ _ _ (decided-never c.if-not-comes_before.true c.comes_before.ensures) (untouched-refl _ _ _)

pub find-q-requires : goal.find-q-requires
find-q-requires c = (edge-parents _ _ _ _ _ _ _ c.requires, (edge-bounds _ _ _ _ _ _ _ c.requires).1)

-- past the first test y comes before x
pub returns-then-q-r : goal.returns-then-q-r
returns-then-q-r c =
    let earlier = decided-yes c.if-not-comes_before.false c.comes_before.ensures in
    done-same _ _ _ _ _ _ _ earlier _ _ c.find-q.ensures c.if-q-r.true (untouched-refl _ _ _)

pub join-requires-clause-names : goal.join-requires-clause-names
join-requires-clause-names c =
    let earlier = decided-yes c.if-not-comes_before.false c.comes_before.ensures in
    let j = (join-ready _ _ _ _ _ _ _ earlier _ _ c.find-q.ensures c.requires).0 in
    (j.name-q, j.name-r)

pub returns-else-q-r : goal.returns-else-q-r
returns-else-q-r c =
    let earlier = decided-yes c.if-not-comes_before.false c.comes_before.ensures in
    done-linked _ _ _ _ _ _ _ earlier _ _ c.find-q.ensures _ _ _ c.join.ensures
