-- `verify_pixels::check_pixels` meets its contract.
use Rattle.std.proofs.Common.{arith}
use Rattle.tree_laws.proofs.Decided.{yes, never, decided-yes, decided-never}
use Rattle.tree_laws.proofs.PixelChecks.{checking-end}
use Rattle.verify_pixels.proofs.check_pixels.Goals as goal

pub returns-then-not-check_pixel : goal.returns-then-not-check_pixel
returns-then-not-check_pixel c = never (decided-never c.if-not-check_pixel.true c.check_pixel.ensures)

pub loop-x-preserved : goal.loop-x-preserved
loop-x-preserved c = decided-yes c.if-not-check_pixel.false c.check_pixel.ensures

pub returns : goal.returns
returns c =
    let i = c.loop-x.invariant in
    let size = i.classes.size in
    yes (checking-end _ _ _ _ _ _ i (omega arith) (omega arith))
