-- `geometry::neighbours` meets its contract: the sides fit where there is a place, and the steps used are those for the number.
use Rattle.std.proofs.Common.{ℕ, zero, suc, ◌*◌, ◌≤◌, ◌<◌, arith}
use Rattle.lists.proofs.Tests.{and_both}
use Rattle.picture.proofs.Sides.{is_within}
use Rattle.geometry.proofs.Steps.{neighbours-by}
use Rattle.geometry.proofs.grid.neighbours.Goals as goal

-- where there is a place there is a row
row-some : (w h x : ℕ) → x < w * h → 1 ≤ h
row-some w zero x b = absurd (omega arith)
row-some w (suc h) x b = omega arith

pub invariant_of-grid : goal.invariant_of-grid
invariant_of-grid c =
    let p = c.requires.0 in
    let high = row-some c.args.w c.args.h c.args.x p.inside in
    record { sides = and_both (is_within 40 c.args.w p.some p.wide) (is_within 40 c.args.h high p.high) }

pub returns : goal.returns
returns c = rw (neighbours-by _ _ c.args.w c.args.h c.args.x c.used_for.ensures) at c.neighbours.ensures
