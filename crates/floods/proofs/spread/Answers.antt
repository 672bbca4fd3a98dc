-- `floods::spread` meets its contract.
use Rattle.std.proofs.Common.{rules, arith, ◌∙◌}
use Rattle.picture.proofs.Neighbours.{neighbour-at, listed_at}
use Rattle.geometry.specs.Rasters.{picture}
use Rattle.floods.proofs.Floods.{spread-next}
use Rattle.floods.proofs.spread.Goals as goal

pub visit-t-requires : goal.visit-t-requires
visit-t-requires c =
    let n = c.neighbours-count.ensures.count in
    let at = c.from.ensures ∙ listed_at _ _ _ _ c.neighbours-count.ensures c.loop-i.i c.loop-i-test.true in
    (search rules, omega (arith, c.requires.1.pixel, at, (neighbour-at (picture c.args.raster.now) c.args.x c.loop-i.i (omega (arith, n, c.loop-i-test.true))).0))

pub loop-i-preserved : goal.loop-i-preserved
loop-i-preserved c =
    let p = c.requires in
    let n = c.neighbours-count.ensures.count in
    let at = c.from.ensures ∙ listed_at _ _ _ _ c.neighbours-count.ensures c.loop-i.i c.loop-i-test.true in
    spread-next (picture c.args.raster.now) _ _ _ c.loop-i.i _ _ _ _ _ _ _ _ _ _ p.1 (omega (arith, n, c.loop-i-test.true)) at p.2
    c.loop-i.invariant c.visit-t.ensures
