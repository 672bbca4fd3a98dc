-- `patch_lists::fill_figures` meets its contract: the first 5 n entries of work and a cell for each pixel are lent, and the figures left there are the records.
use Rattle.std.proofs.Common.{sym, ◌∙◌, ◌*◌, length, arith}
use Rattle.geometry.specs.Rasters.{picture}
use Rattle.geometry.proofs.Listed.{raster-size}
use Rattle.answers.proofs.Calls.{lent_length}
use Rattle.topology.proofs.Accepted.{pixels-few}
use Rattle.patch_lists.proofs.PatchLists.{cells-enough, cells-lent, figured}
use Rattle.patch_lists.proofs.fill_figures.Goals as goal

pub slice_bounds-patch_figures-end-3 : goal.slice_bounds-patch_figures-end-3
slice_bounds-patch_figures-end-3 c = let r = c.args.raster.now in cells-enough (picture r) r.accepted _ c.requires.1

pub slice_bounds-patch_figures-end-4 : goal.slice_bounds-patch_figures-end-4
slice_bounds-patch_figures-end-4 c = let r = c.args.raster.now in cells-lent (picture r) r.accepted _ c.requires.1

pub patch_figures-requires : goal.patch_figures-requires
patch_figures-requires c =
    let r = c.args.raster.now in
    let n = raster-size r in
    let a = lent_length (5 * length r.pixels.now) c.args.work.now c.requires.0 in
    let b = cells-lent (picture r) r.accepted c.args.cells.now c.requires.1 in
    record { few = omega (arith, pixels-few (picture r) r.accepted, n); blocks = omega (arith, a, n); beside = sym b ∙ n }

pub returns : goal.returns
returns c =
    let r = c.args.raster.now in
    let t = c.patch_figures in
    let a = lent_length (5 * length r.pixels.now) c.args.work.now c.requires.0 in
    figured (picture r) r.accepted _ c.args.work.now t.new.work _ c.requires.0 (omega (arith, a, raster-size r, t.auto.work)) t.ensures
