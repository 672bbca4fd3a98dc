-- `geometry::Grid::neighbours` meets its contract. The invariant is Front: what stands in front of the cells.
use Rattle.std.proofs.Common.{rules, [], ◌∷◌}
use Rattle.geometry.specs.Steps.{step_at}
use Rattle.geometry.proofs.Front.{front-start, front-turn, put-digits}
use Rattle.geometry.proofs.grid.Grid.neighbours.Goals as goal

pub loop-i-init : goal.loop-i-init
loop-i-init c = front-start _ _ _ _ _ (search rules)

pub loop-i-preserved : goal.loop-i-preserved
loop-i-preserved c =
    let grid = c.args.self in
    rw c.stride-next.ensures
    (front-turn _ _ _ _ _ _ _ _ c.loop-i.invariant _ _ c.loop-i-test.true
    (put-digits grid.width grid.height c.args.x (step_at c.loop-i.i ∷ []) _ _ _ _ c.put_step-m.ensures))
