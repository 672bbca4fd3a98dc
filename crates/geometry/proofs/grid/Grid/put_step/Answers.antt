-- `geometry::put_step` meets its contract: the place that a step leads to is put, or none.
use Rattle.std.proofs.Common.{arith, sym, ◌∙◌}
use Rattle.lists.proofs.Tests.{and_left, and_right}
use Rattle.geometry.proofs.Front.{down_fits, step-leads, target-place, stays-inside, put_written, put-none}
use Rattle.geometry.proofs.grid.Grid.put_step.Goals as goal

pub overflow_add-down : goal.overflow_add-down
overflow_add-down c = let f = down_fits _ _ _ _ _ _ _ c.requires.0 _ c.plus_one-2.ensures in omega arith

pub put_place-requires : goal.put_place-requires
put_place-requires c =
    let p = c.requires in
    let e = sym (stays-inside _ _ _ _ _ _ _ p.0 _ _ c.plus_one.ensures c.plus_one-2.ensures _ p.1) ∙ (sym c.stays.ensures ∙ c.if-stays.true) in
    target-place _ _ _ _ _ _ _ p.0 _ _ c.plus_one.ensures c.plus_one-2.ensures (and_left _ _ e) (and_right _ _ e)

pub returns-then-stays : goal.returns-then-stays
returns-then-stays c =
    let p = c.requires in
    let e = sym (stays-inside _ _ _ _ _ _ _ p.0 _ _ c.plus_one.ensures c.plus_one-2.ensures _ p.1) ∙ (sym c.stays.ensures ∙ c.if-stays.true) in
    put_written _ _ _ _ _ _ (step-leads _ _ _ _ _ _ _ p.0 _ _ c.plus_one.ensures c.plus_one-2.ensures) _ _ _ _ e p.0.room c.put_place.ensures

pub returns-else-stays : goal.returns-else-stays
returns-else-stays c =
    let p = c.requires in
    let e = sym (stays-inside _ _ _ _ _ _ _ p.0 _ _ c.plus_one.ensures c.plus_one-2.ensures _ p.1) ∙ (sym c.stays.ensures ∙ c.if-stays.false) in
    put-none _ _ _ _ _ _ (step-leads _ _ _ _ _ _ _ p.0 _ _ c.plus_one.ensures c.plus_one-2.ensures) _ _ e
