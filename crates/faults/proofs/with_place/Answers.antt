-- `faults::with_place` meets its contract: the first of two causes, the second, or none.
use Rattle.std.proofs.Common.{length}
use Rattle.std.proofs.lemmas.Result.{err_from_is_err_and}
use Rattle.faults.proofs.Faults.{refused_first, refused_then, admitted_both, place-counted}
use Rattle.faults.proofs.with_place.Goals as goal

pub returns-in_err-raster-clause-admits : goal.returns-in_err-raster-clause-admits
returns-in_err-raster-clause-admits c =
    let p = err_from_is_err_and c.from_residual.result c.from_residual.ensures.1 in
    rw (p.1, p.2) (refused_first _ _ _ _ _ (place-counted c.args.adjacency c.args.width c.args.height (length c.args.pixels.now) c.args.work c.args.place) c.in_err-raster.ensures.admits.fault)

pub returns-in_err-place_inside-clause-admits : goal.returns-in_err-place_inside-clause-admits
returns-in_err-place_inside-clause-admits c =
    let p = err_from_is_err_and c.from_residual-in_err-place_inside.result c.from_residual-in_err-place_inside.ensures.1 in
    rw (p.1, p.2) (refused_then _ _ _ _ _ (place-counted c.args.adjacency c.args.width c.args.height (length c.args.pixels.now) c.args.work c.args.place) c.in_ok-raster.ensures.admits.fault c.in_err-place_inside.ensures)

pub returns-clause-admits : goal.returns-clause-admits
returns-clause-admits c = admitted_both _ _ _ _ _ (place-counted c.args.adjacency c.args.width c.args.height (length c.args.pixels.now) c.args.work c.args.place) c.in_ok-raster.ensures.admits.fault c.in_ok-place_inside.ensures c.in_ok-raster.ensures.admits.raster
