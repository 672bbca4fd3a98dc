-- `figure_lists::list_figures` meets its contract: a refusal leaves all as it was; else each list has its figures in front, and work is cleared.
use Rattle.std.proofs.Common.{rules, sym, arith}
use Rattle.picture.specs.Pictures.{Picture, picture_of}
use Rattle.faults.proofs.Faults.{faultless}
use Rattle.patch_lists.proofs.PatchLists.{list-enough}
use Rattle.figure_lists.proofs.Handed.{room, listed}
use Rattle.figure_lists.proofs.list_figures.Goals as goal

pub hand_out-requires : goal.hand_out-requires
hand_out-requires c =
    let gathered = c.in_ok-count.ensures in
    let fits = rw (c.least-shortest.ensures, c.min.ensures) at gathered.room.0 in
    room _ _ _ _ _ _ c.args.work.now _ _ gathered.figured fits (omega (arith, gathered.room.2, c.gather.auto.work))

-- written out, so that an edit that changes what is done on a refusal finds it
pub returns-in_err-count : goal.returns-in_err-count
returns-in_err-count c = search rules

pub returns : goal.returns
returns c =
    let p : Picture = picture_of c.args.adjacency c.args.width c.args.height c.args.pixels.now in
    let lends = c.in_ok-count.ensures in
    let none = sym (rw (c.least-shortest.ensures, c.min.ensures) at lends.fault) in
    let h = c.hand_out.ensures in
    listed p _ _ _ _ _ _ _ _ lends.figured none (faultless p _ (list-enough p _ _ none).0).size
    h.sizes_after h.heights_after h.depths_after h.columns_after h.rows_after c.clear_work.ensures
