-- `patch_lists::count_patches` meets its contract: a cell for each pixel is lent.
use Rattle.std.proofs.Common.{sym, ◌∙◌}
use Rattle.geometry.specs.Rasters.{picture}
use Rattle.geometry.proofs.Listed.{raster-size}
use Rattle.patch_lists.proofs.PatchLists.{cells-enough, cells-lent}
use Rattle.patch_lists.proofs.count_patches.Goals as goal

pub slice_bounds-count_minima-end : goal.slice_bounds-count_minima-end
slice_bounds-count_minima-end c = let r = c.args.raster.now in cells-enough (picture r) r.accepted _ c.requires

pub slice_bounds-count_minima-end-2 : goal.slice_bounds-count_minima-end-2
slice_bounds-count_minima-end-2 c = let r = c.args.raster.now in cells-lent (picture r) r.accepted _ c.requires

pub count_minima-requires : goal.count_minima-requires
count_minima-requires c =
    let r = c.args.raster.now in sym (cells-lent (picture r) r.accepted _ c.requires) ∙ raster-size r
