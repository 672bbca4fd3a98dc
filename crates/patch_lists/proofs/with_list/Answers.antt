-- `patch_lists::with_list` meets its contract: the fault of the picture and of work, then 9 for fewer records than patches, else the raster.
use Rattle.std.proofs.Common.{◌∙◌, ap, ℕ, length, ltb}
use Rattle.std.proofs.lemmas.Result.{err_from_is_err_and}
use Rattle.picture.specs.Pictures.{Picture, picture_of}
use Rattle.picture.specs.Patches.{patches}
use Rattle.faults.specs.PictureFault.{when}
use Rattle.faults.proofs.Faults.{refused_first, refused_then, admitted_both}
use Rattle.patch_lists.proofs.PatchLists.{list-is}
use Rattle.patch_lists.proofs.with_list.Goals as goal

pub returns-in_err-raster : goal.returns-in_err-raster
returns-in_err-raster c =
    let p = err_from_is_err_and c.from_residual.result c.from_residual.ensures.1 in
    rw (p.1, p.2) (refused_first _ _ _ _ _ (list-is (picture_of c.args.adjacency c.args.width c.args.height c.args.pixels.now) c.args.records c.args.work) c.in_err-raster.ensures.admits.fault)

pub returns-in_err-room : goal.returns-in_err-room
returns-in_err-room c =
    let p = err_from_is_err_and c.from_residual-in_err-room.result c.from_residual-in_err-room.ensures.1 in
    let lends = c.in_ok-raster.ensures.admits in
    let count = c.count_patches.ensures ∙ ap (λ (q : Picture). length (patches q)) lends.raster in
    rw (p.1, p.2) (refused_then _ _ _ _ _ (list-is (picture_of c.args.adjacency c.args.width c.args.height c.args.pixels.now) c.args.records c.args.work) lends.fault
    (c.in_err-room.ensures ∙ ap (λ (m : ℕ). when (ltb c.args.records m) 9) count))

pub returns : goal.returns
returns c =
    let lends = c.in_ok-raster.ensures.admits in
    let count = c.count_patches.ensures ∙ ap (λ (q : Picture). length (patches q)) lends.raster in
    admitted_both _ _ _ _ _ (list-is (picture_of c.args.adjacency c.args.width c.args.height c.args.pixels.now) c.args.records c.args.work) lends.fault
    (c.in_ok-room.ensures ∙ ap (λ (m : ℕ). when (ltb c.args.records m) 9) count) lends.raster
