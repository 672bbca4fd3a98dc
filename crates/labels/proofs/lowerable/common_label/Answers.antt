-- `labels::lowerable::common_label` meets its contract. The invariant: the label common to the neighbours before the index.
use Rattle.std.proofs.Common.{◌≡◌, ℕ, arith, sym, ap, subst, length, get_or}
use Rattle.picture.specs.Geometry.{neighbours_in}
use Rattle.picture.proofs.Neighbours.{neighbour-at}
use Rattle.geometry.specs.Rasters.{picture}
use Rattle.geometry.proofs.Listed.{listed-front}
use Rattle.labelling_laws.proofs.Agreeing.{Common, common-turn}
use Rattle.labels.specs.Found.{found_number}
use Rattle.labels.proofs.lowerable.common_label.Goals as goal

pub bounds-labels-from : goal.bounds-labels-from
bounds-labels-from c =
    let front = listed-front _ _ _ _ c.neighbours-count.ensures in
    let below = rw front at c.loop-y-test.true in
    let at = rw front at c.from.ensures in
    omega (arith, (neighbour-at (picture c.args.raster.now) c.args.x c.loop-y.y-index below).0)

pub loop-y-preserved : goal.loop-y-preserved
loop-y-preserved c =
    let l = c.args.labels.now in
    let front = listed-front _ _ _ _ c.neighbours-count.ensures in
    let below = rw front at c.loop-y-test.true in
    let at = rw front at c.from.ensures in
    let near = neighbour-at (picture c.args.raster.now) c.args.x c.loop-y.y-index below in (
      c.agree-common.ensures.proper,
      rw c.agree-common.ensures.agreed
          (common-turn l _ c.loop-y.y-index _ (ap (λ (y : ℕ). get_or l y 0) (sym at)) _ (c.requires.2 c.from.result (omega arith)) c.loop-y.invariant.1),
    )

pub returns-clause-common : goal.returns-clause-common
returns-clause-common c =
    let front = listed-front _ _ _ _ c.neighbours-count.ensures in
    let ns = neighbours_in (picture c.args.raster.now) c.args.x in
    let e : c.loop-y.y-index ≡ length ns = omega (arith, ap length front) in
    subst (λ (i : ℕ). Common c.args.labels.now ns i (found_number c.loop-y.common)) e c.loop-y.invariant.1
