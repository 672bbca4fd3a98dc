-- `patches::figures::figures` meets its contract: the numbers, the patch of each place, the climbs, the depths and heights, the sums.
use Rattle.std.proofs.Common.{refl, ◌∙◌}
use Rattle.geometry.specs.Rasters.{picture}
use Rattle.geometry.proofs.Listed.{raster-size}
use Rattle.patches.proofs.FigureLaws.{tree-mapped, tree-few, numbered-mapped, numbered-sizes, numbered-rise, climbed-mapped, climbed-sizes, patched-frame, figures-all}
use Rattle.patches.proofs.figures.figures.Goals as goal

pub number-requires : goal.number-requires
number-requires c =
    let p = picture c.args.raster.now in
    rw (raster-size c.args.raster.now) (c.requires.1, tree-mapped p _ _ c.requires.0, tree-few p _ _ c.requires.0)

pub map_patches-requires : goal.map_patches-requires
map_patches-requires c =
    let p = picture c.args.raster.now in
    let size = raster-size c.args.raster.now in
    let leaves = rw size at c.number.ensures in
    rw size (
      numbered-sizes p _ _ c.requires.0 _ _ _ leaves _ c.requires.1,
      numbered-mapped p _ _ c.requires.0 _ _ _ leaves,
      c.number.auto.cells ∙ c.requires.1.beside,
    )

pub put_climbs-requires : goal.put_climbs-requires
put_climbs-requires c =
    let p = picture c.args.raster.now in
    let size = raster-size c.args.raster.now in
    let leaves = rw size at c.number.ensures in
    rw size (
      c.requires.1.few,
      (numbered-sizes p _ _ c.requires.0 _ _ _ leaves _ c.requires.1).blocks,
      tree-few p _ _ c.requires.0,
      numbered-rise p _ _ c.requires.0 _ _ _ leaves,
    )

pub put_patches-r-requires : goal.put_patches-r-requires
put_patches-r-requires c =
    let p = picture c.args.raster.now in
    let size = raster-size c.args.raster.now in
    let leaves = rw size at c.number.ensures in
    let climbs = rw size at c.put_climbs.ensures in
    rw size (
      climbed-sizes p _ _ c.requires.0 _ _ leaves _ _ climbs _ c.requires.1,
      c.map_patches.auto.cells ∙ (c.number.auto.cells ∙ c.requires.1.beside),
      climbed-mapped p _ _ c.requires.0 _ _ leaves _ _ climbs,
    )

pub put_sums-requires : goal.put_sums-requires
put_sums-requires c =
    let p = picture c.args.raster.now in
    let size = raster-size c.args.raster.now in
    let leaves = rw size at c.number.ensures in
    let climbs = rw size at c.put_climbs.ensures in
    let patches = rw size at c.put_patches-r.ensures in
    let long = c.map_patches.auto.cells ∙ (c.number.auto.cells ∙ c.requires.1.beside) in
    rw size (
      patched-frame p _ _ c.requires.0 _ _ leaves _ long (rw size at c.map_patches.ensures),
      refl,
      patches.kept.size ∙ (climbed-sizes p _ _ c.requires.0 _ _ leaves _ _ climbs _ c.requires.1).blocks,
    )

pub returns : goal.returns
returns c =
    let p = picture c.args.raster.now in
    let size = raster-size c.args.raster.now in
    let long = c.map_patches.auto.cells ∙ (c.number.auto.cells ∙ c.requires.1.beside) in
    figures-all p _ _ c.requires.0 _ _ (rw size at c.number.ensures) _ long (rw size at c.map_patches.ensures) _ _ _ _ _
    (c.from-most.ensures ∙ c.largest.ensures)
    (rw size at c.put_climbs.ensures)
    (rw size at c.put_patches-r.ensures)
    (rw size at c.put_sums.ensures)
