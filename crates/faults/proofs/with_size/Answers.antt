-- `faults::with_size` meets its contract: the first of two causes, the second, or none.
use Rattle.std.proofs.Common.{length}
use Rattle.std.proofs.lemmas.Result.{err_from_is_err_and}
use Rattle.faults.proofs.Faults.{refused_first, refused_then, admitted_both, size-counted}
use Rattle.faults.proofs.with_size.Goals as goal

pub returns-in_err-raster-clause-admits : goal.returns-in_err-raster-clause-admits
returns-in_err-raster-clause-admits c =
    let p = err_from_is_err_and c.from_residual.result c.from_residual.ensures.1 in
    rw (p.1, p.2) (refused_first _ _ _ _ _ (size-counted c.args.adjacency c.args.width c.args.height (length c.args.pixels.now) c.args.work c.args.out c.args.s) c.in_err-raster.ensures.admits.fault)

pub returns-in_err-size_inside-clause-admits : goal.returns-in_err-size_inside-clause-admits
returns-in_err-size_inside-clause-admits c =
    let p = err_from_is_err_and c.from_residual-in_err-size_inside.result c.from_residual-in_err-size_inside.ensures.1 in
    rw (p.1, p.2) (refused_then _ _ _ _ _ (size-counted c.args.adjacency c.args.width c.args.height (length c.args.pixels.now) c.args.work c.args.out c.args.s) c.in_ok-raster.ensures.admits.fault c.in_err-size_inside.ensures)

pub returns-clause-admits : goal.returns-clause-admits
returns-clause-admits c = admitted_both _ _ _ _ _ (size-counted c.args.adjacency c.args.width c.args.height (length c.args.pixels.now) c.args.work c.args.out c.args.s) c.in_ok-raster.ensures.admits.fault c.in_ok-size_inside.ensures c.in_ok-raster.ensures.admits.raster
