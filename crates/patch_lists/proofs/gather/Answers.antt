-- `patch_lists::gather` meets its contract: the cells come back as many as they were, and work has room.
use Rattle.std.proofs.Common.{sym, ap, ◌∙◌, ℕ, length, arith}
use Rattle.std.proofs.lemmas.List.{length-replicate}
use Rattle.picture.specs.Pictures.{Picture, picture_of}
use Rattle.picture.specs.Patches.{patches}
use Rattle.faults.proofs.Faults.{faultless}
use Rattle.patch_lists.proofs.PatchLists.{list-enough}
use Rattle.patch_lists.proofs.gather.Goals as goal

pub fill_figures-requires : goal.fill_figures-requires
fill_figures-requires c =
    let p : Picture = picture_of c.args.adjacency c.args.width c.args.height c.args.pixels.now in
    let lends = c.in_ok-raster.ensures in
    let few = faultless p (length c.args.work.now) (list-enough p c.args.records (length c.args.work.now) (sym lends.fault)).0 in
    let same = ap (λ (q : Picture). length q.pixels) lends.raster in
    (omega (arith, few.room, same), omega (arith, c.with_list.auto.cells, length-replicate {A = ℕ} 1600 0))

pub returns-clause-room : goal.returns-clause-room
returns-clause-room c =
    let p : Picture = picture_of c.args.adjacency c.args.width c.args.height c.args.pixels.now in
    let lends = c.in_ok-raster.ensures in
    let enough = list-enough p c.args.records (length c.args.work.now) (sym lends.fault) in
    let few = faultless p (length c.args.work.now) enough.0 in
    let count = c.fill_figures.ensures.count ∙ ap (λ (q : Picture). length (patches q)) lends.raster in
    (omega (arith, count, enough.1), omega (arith, few.size, few.few), few.room)
