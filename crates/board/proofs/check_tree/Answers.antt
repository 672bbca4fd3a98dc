-- `board::check_tree` meets its contract: the fault of the lengths, then 11, and else work is cleared.
use Rattle.std.proofs.Common.{◌∙◌, sym, ap, refl}
use Rattle.std.proofs.lemmas.Result.{err_from_is_err_and}
use Rattle.picture.specs.Pictures.{picture_of, places}
use Rattle.board.specs.Trees.{tree_fault_of}
use Rattle.board.proofs.Checked.{unchecked, differs, checked}
use Rattle.answers.proofs.Calls.{work-error, work-done}
use Rattle.board.proofs.check_tree.Goals as goal

pub returns-in_err-raster : goal.returns-in_err-raster
unfolding tree_fault_of
returns-in_err-raster c =
    let p = err_from_is_err_and c.from_residual.result c.from_residual.ensures.1 in
    rw (p.1, p.2) (work-error _ _ _ _ _ (unchecked _ _ _ _ _ _ _ _ c.in_err-raster.ensures.admits.fault))

pub returns-in_err-check_lent : goal.returns-in_err-check_lent
unfolding tree_fault_of
returns-in_err-check_lent c =
    let p = err_from_is_err_and c.from_residual-in_err-check_lent.result c.from_residual-in_err-check_lent.ensures.1 in
    let lends = c.in_ok-raster.ensures.admits in
    rw (p.1, p.2) (work-error _ _ _ _ _ (differs _ _ _ _ _ _ _ _ lends.raster lends.fault _ c.in_err-check_lent.ensures))

pub returns : goal.returns
unfolding tree_fault_of
returns c =
    let lends = c.in_ok-raster.ensures in
    work-done _ _ _ _ (picture_of c.args.adjacency c.args.width c.args.height c.args.pixels.now) _ _ _
    (checked _ _ _ _ _ _ _ _ lends.admits.raster lends.admits.fault c.in_ok-check_lent.ensures) refl (sym lends.room.0 ∙ ap places lends.admits.raster) refl
    c.clear_work.ensures
