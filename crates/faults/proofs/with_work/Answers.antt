-- `faults::with_work` meets its contract: the first of two causes, the second, or none.
use Rattle.std.proofs.Common.{arith, length, sym, ap, ◌∙◌, ◌*◌}
use Rattle.picture.specs.Pictures.{Picture}
use Rattle.geometry.proofs.Listed.{raster-size}
use borrow.Author.Tests.{ltb-false}
use Rattle.std.proofs.lemmas.Result.{err_from_is_err_and}
use Rattle.faults.proofs.Faults.{refused_first, refused_then, admitted_both, fault-few, fault-size, when-zero, work-counted}
use Rattle.faults.proofs.with_work.Goals as goal

pub returns-in_err-raster-clause-admits : goal.returns-in_err-raster-clause-admits
returns-in_err-raster-clause-admits c =
    let p = err_from_is_err_and c.from_residual.result c.from_residual.ensures.1 in
    rw (p.1, p.2) (refused_first _ _ _ _ _ (work-counted c.args.adjacency c.args.width c.args.height (length c.args.pixels.now) c.args.work) c.in_err-raster.ensures.fault)

pub returns-in_err-room-clause-admits : goal.returns-in_err-room-clause-admits
returns-in_err-room-clause-admits c =
    let p = err_from_is_err_and c.from_residual-in_err-room.result c.from_residual-in_err-room.ensures.1 in
    rw (p.1, p.2) (refused_then _ _ _ _ _ (work-counted c.args.adjacency c.args.width c.args.height (length c.args.pixels.now) c.args.work) c.in_ok-raster.ensures.fault c.in_err-room.ensures)

pub returns-clause-admits : goal.returns-clause-admits
returns-clause-admits c = admitted_both _ _ _ _ _ (work-counted c.args.adjacency c.args.width c.args.height (length c.args.pixels.now) c.args.work) c.in_ok-raster.ensures.fault c.in_ok-room.ensures c.in_ok-raster.ensures.raster

pub overflow_mul-pixels : goal.overflow_mul-pixels
overflow_mul-pixels c =
    let none = sym c.in_ok-raster.ensures.fault in
    omega (arith, fault-size c.args.adjacency c.args.width c.args.height _ none, fault-few c.args.adjacency c.args.width c.args.height _ none)

pub returns-clause-room : goal.returns-clause-room
returns-clause-room c =
    let none = sym c.in_ok-raster.ensures.fault in
    let fits = ltb-false c.args.work (5 * length c.args.pixels.now) (when-zero 8 _ (sym c.in_ok-room.ensures)) in
    (sym (raster-size c.in_ok-raster.raster) ∙ ap (λ (p : Picture). length p.pixels) c.in_ok-raster.ensures.raster, omega (arith, fault-size c.args.adjacency c.args.width c.args.height _ none, fault-few c.args.adjacency c.args.width c.args.height _ none), fits)
