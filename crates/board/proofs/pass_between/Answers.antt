-- `board::pass_between` meets its contract: the fault of the lengths, then 10, then 11, and else the climb finds the pass.
use Rattle.std.proofs.Common.{◌∙◌, sym, ap, refl, length, arith}
use Rattle.std.proofs.lemmas.Result.{err_from_is_err_and}
use Rattle.picture.specs.Pictures.{Picture, picture_of, places}
use Rattle.picture.specs.Passes.{pass}
use Rattle.geometry.specs.Rasters.{picture}
use Rattle.board.specs.Trees.{tree_fault_of}
use Rattle.board.specs.LentTrees.{TreeLent}
use Rattle.board.proofs.Checked.{unchecked, differs, checked, lent-is, inside, places-first, places-then}
use Rattle.board.proofs.LentTrees.{pass-ready, pass-low, tree-entries}
use Rattle.answers.proofs.Calls.{work-error, work-done}
use Rattle.board.proofs.pass_between.Goals as goal

pub returns-in_err-raster : goal.returns-in_err-raster
unfolding tree_fault_of
returns-in_err-raster c =
    let p = err_from_is_err_and c.from_residual.result c.from_residual.ensures.1 in
    rw (p.1, p.2) (work-error _ _ _ _ _ (unchecked _ _ _ _ _ _ _ _ (places-first _ _ _ _ _ _ _ _ _ c.in_err-raster.ensures.admits.fault)))

pub returns-in_err-places_inside : goal.returns-in_err-places_inside
unfolding tree_fault_of
returns-in_err-places_inside c =
    let p = err_from_is_err_and c.from_residual-in_err-places_inside.result c.from_residual-in_err-places_inside.ensures.1 in
    let lends = c.in_ok-raster.ensures in
    let size = sym lends.room.0 ∙ ap places lends.admits.raster in
    rw (p.1, p.2) (work-error _ _ _ _ _ (unchecked _ _ _ _ _ _ _ _ (places-then _ _ _ _ _ _ _ _ _ _ size lends.admits.fault c.in_err-places_inside.ensures)))

pub returns-in_err-check_lent : goal.returns-in_err-check_lent
unfolding tree_fault_of
returns-in_err-check_lent c =
    let p = err_from_is_err_and c.from_residual-in_err-check_lent.result c.from_residual-in_err-check_lent.ensures.1 in
    let lends = c.in_ok-raster.ensures in
    let size = sym lends.room.0 ∙ ap places lends.admits.raster in
    let none = places-then _ _ _ _ _ _ _ _ _ _ size lends.admits.fault c.in_ok-places_inside.ensures in
    rw (p.1, p.2) (work-error _ _ _ _ _ (differs _ _ _ _ _ _ _ _ lends.admits.raster none _ c.in_err-check_lent.ensures))

pub pass-lowest-requires : goal.pass-lowest-requires
pass-lowest-requires c =
    let p : Picture = picture c.in_ok-raster.raster in
    let room = c.in_ok-raster.ensures.room in
    let lent : TreeLent p c.args.heights.now c.args.fathers.now c.args.firsts.now c.args.map.now =
    record {
      accepted = c.in_ok-raster.raster.accepted;
      few = omega (arith, room);
      heights = omega (arith, room);
      fathers = omega (arith, room);
      firsts = omega (arith, room);
      map = omega (arith, room);
    } in
    let b = inside (length c.args.pixels.now) c.args.x c.args.y c.in_ok-places_inside.ensures in
    pass-ready p c.args.count _ _ _ _ _ _ lent (lent-is _ _ _ _ _ _ c.in_ok-check_lent.ensures) (omega (arith, b.0, room)) (omega (arith, b.1, room))

pub overflow_cast-result : goal.overflow_cast-result
overflow_cast-result c =
    let p : Picture = picture c.in_ok-raster.raster in
    let room = c.in_ok-raster.ensures.room in
    let b = inside (length c.args.pixels.now) c.args.x c.args.y c.in_ok-places_inside.ensures in
    let tree = tree-entries p _ _ _ _ _ (lent-is _ _ _ _ _ _ c.in_ok-check_lent.ensures) in
    let is-pass = c.pass-lowest.ensures.is p _ _ c.in_ok-raster.raster.accepted refl tree (omega (arith, b.0, room)) (omega (arith, b.1, room)) in
    let low = pass-low p c.args.x c.args.y c.in_ok-raster.raster.accepted (omega (arith, b.0, room)) (omega (arith, b.1, room)) in
    record { fits = omega (arith, low, is-pass) }

pub returns : goal.returns
unfolding tree_fault_of
returns c =
    let p : Picture = picture c.in_ok-raster.raster in
    let lends = c.in_ok-raster.ensures in
    let room = lends.room in
    let size = sym room.0 ∙ ap places lends.admits.raster in
    let b = inside (length c.args.pixels.now) c.args.x c.args.y c.in_ok-places_inside.ensures in
    let tree = tree-entries p _ _ _ _ _ (lent-is _ _ _ _ _ _ c.in_ok-check_lent.ensures) in
    let is-pass = c.pass-lowest.ensures.is p _ _ c.in_ok-raster.raster.accepted refl tree (omega (arith, b.0, room)) (omega (arith, b.1, room)) in
    let none = places-then _ _ _ _ _ _ _ _ _ _ size lends.admits.fault c.in_ok-places_inside.ensures in
    work-done _ _ _ _ (picture_of c.args.adjacency c.args.width c.args.height c.args.pixels.now) _ _ _
    (checked _ _ _ _ _ _ _ _ lends.admits.raster none c.in_ok-check_lent.ensures) (is-pass ∙ ap (λ (q : Picture). pass q c.args.x c.args.y) lends.admits.raster) size refl
    c.clear_work.ensures
