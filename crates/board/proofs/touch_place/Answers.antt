-- `board::touch_place` meets its contract: 14, then the fault of a call that names a place, else what the core found.
use Rattle.std.proofs.Common.{◌∙◌, refl, sym, ap, ℕ, length}
use Rattle.answers.specs.Answers.{cleared}
use Rattle.std.proofs.lemmas.Result.{err_from_is_err_and}
use Rattle.picture.specs.Pictures.{Picture, picture_of, places}
use Rattle.picture.specs.Patches.{touched_patch}
use Rattle.geometry.specs.Rasters.{picture}
use Rattle.faults.proofs.Faults.{handbook-unknown, handbook-known}
use Rattle.refusals.specs.declared.Refusal.TheVariants.{HandbookUnknown}
use Rattle.board.specs.Calls.{ground_of}
use Rattle.board.proofs.Queries.{refused-query, answered-query, handbook-named, handbook-other}
use Rattle.board.proofs.touch_place.Goals as goal

pub returns-in_err-handbook : goal.returns-in_err-handbook
returns-in_err-handbook c =
    let p = err_from_is_err_and c.from_residual.result c.from_residual.ensures.1 in
    let e = c.in_err-handbook.ensures in
    rw (p.1, p.2, e.0) (refused-query _ _ _ _ _ HandbookUnknown (sym (handbook-unknown _ _ _ _ _ _ _ (handbook-other _ e.1 e.2))))

pub returns-in_err-raster : goal.returns-in_err-raster
returns-in_err-raster c =
    let p = err_from_is_err_and c.from_residual-in_err-raster.result c.from_residual-in_err-raster.ensures.1 in
    let known = handbook-known c.args.adjacency c.args.width c.args.height (length c.args.pixels.now) (length c.args.work.now) c.args.place c.args.handbook (handbook-named _ _ c.in_ok-handbook.ensures) in
    rw (p.1, p.2) (refused-query _ _ _ _ _ _ (c.in_err-raster.ensures.admits.fault ∙ sym known))

pub returns : goal.returns
returns c =
    let p : Picture = picture_of c.args.adjacency c.args.width c.args.height c.args.pixels.now in
    let lends = c.in_ok-raster.ensures in
    let named = c.in_ok-handbook.ensures in
    let known = handbook-known c.args.adjacency c.args.width c.args.height (length c.args.pixels.now) (length c.args.work.now) c.args.place c.args.handbook (handbook-named _ _ named) in
    let found = c.touch_cleared-number.ensures in
    let number =
    found.0 ∙
    (ap (λ (h : ℕ). touched_patch h (picture c.in_ok-raster.raster) c.args.place) named ∙
    ap (λ (q : Picture). touched_patch c.args.handbook q c.args.place) lends.admits.raster) in
    answered-query _ _ _ p c.args.work.now _ _ (known ∙ sym lends.admits.fault) (sym lends.room.0 ∙ ap places lends.admits.raster) refl
    (c.ground_of-ground.ensures ∙ ap ground_of number)
    (found.1 ∙ ap (λ (q : Picture). cleared (length q.pixels) c.args.work.now) lends.admits.raster)
