-- `labels::lowerable::lowerable` meets its contract: the labels are those of the section below, and they agree or not.
use Rattle.std.proofs.Common.{rules, arith}
use Rattle.geometry.specs.Rasters.{picture}
use Rattle.geometry.proofs.Listed.{raster-size}
use Rattle.topology.proofs.Accepted.{accepted-is, placed}
use Rattle.labels.proofs.LowerableTest.{labels-small, value_none, lower-end}
use Rattle.labels.proofs.lowerable.lowerable.Goals as goal

pub bounds-raster-x : goal.bounds-raster-x
bounds-raster-x c =
    let raster = c.args.raster.now in
    omega (arith, raster-size raster)

pub returns-then-value-eq0 : goal.returns-then-value-eq0
returns-then-value-eq0 c =
    let raster = c.args.raster.now in
    value_none (picture raster) raster.accepted _ c.requires.1 c.if-value-eq0.true

pub common_label-requires : goal.common_label-requires
common_label-requires c =
    let raster = c.args.raster.now in (
      placed (picture raster) (accepted-is (picture raster) raster.accepted) _ c.requires.1,
      search rules,
      labels-small (picture raster) raster.accepted _ _ c.label.ensures.labels,
    )

pub returns : goal.returns
returns c =
    let raster = c.args.raster.now in
    lower-end (picture raster) raster.accepted _ c.requires.1 _ _ _ c.if-value-eq0.false c.label.ensures.labels
    c.common_label.ensures.common
    c.single.ensures
