-- `filling::joins::fill_edge` meets its contract: y comes later, has the same root, is settled, or its class is linked.
use Rattle.std.proofs.Common.{refl}
use Rattle.tree_laws.proofs.Decided.{decided-yes, decided-never}
use Rattle.filling_laws.proofs.FillWalks.{neighbour-seen, fill-roots, fill-done-skip, fill-done-same, fill-done-touched, fill-done-linked}
use Rattle.filling.proofs.joins.fill_edge.Goals as goal

pub comes_before-requires : goal.comes_before-requires
comes_before-requires c = (neighbour-seen c.requires).pixel

pub returns-then-not-comes_before : goal.returns-then-not-comes_before
returns-then-not-comes_before c = fill-done-skip (decided-never c.if-not-comes_before.true c.comes_before.ensures)

pub find-q-requires : goal.find-q-requires
find-q-requires c = let n = neighbour-seen c.requires in (n.parents, n.within)

-- past the first test y comes before x
pub returns-then-q-r : goal.returns-then-q-r
returns-then-q-r c =
    let earlier = decided-yes c.if-not-comes_before.false c.comes_before.ensures in
    fill-done-same earlier c.find-q.ensures c.if-q-r.true

pub returns-then-other-ge-SETTLED : goal.returns-then-other-ge-SETTLED
returns-then-other-ge-SETTLED c =
    let earlier = decided-yes c.if-not-comes_before.false c.comes_before.ensures in
    fill-done-touched earlier c.find-q.ensures refl c.if-other-ge-SETTLED.true

pub together-state-requires : goal.together-state-requires
together-state-requires c =
    let earlier = decided-yes c.if-not-comes_before.false c.comes_before.ensures in
    let r = fill-roots earlier c.find-q.ensures c.requires in
    (r.other-state, c.if-other-ge-SETTLED.false, r.own-state, r.own-counted, (neighbour-seen c.requires).few)

pub returns : goal.returns
returns c =
    let earlier = decided-yes c.if-not-comes_before.false c.comes_before.ensures in
    fill-done-linked earlier c.find-q.ensures c.together-state.ensures c.if-other-ge-SETTLED.false c.link.ensures
