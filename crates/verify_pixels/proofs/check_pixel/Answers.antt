-- `verify_pixels::check_pixel` meets its contract.
use Rattle.std.proofs.Common.{◌∙◌, sym, ap, length, arith}
use Rattle.geometry.specs.Rasters.{picture}
use Rattle.geometry.proofs.Listed.{listed-front}
use Rattle.tree_laws.proofs.Decided.{yes, never}
use Rattle.tree_laws.proofs.PixelChecks.{checked-start, checked-end, checked-pass}
use Rattle.verify_pixels.proofs.Edges.{joined-turn, joined-differs}
use Rattle.verify_pixels.proofs.check_pixel.Goals as goal

pub returns-then-from-k : goal.returns-then-from-k
returns-then-from-k c = yes (checked-pass _ _ _ _ _ _ c.requires.checking.0 (λ e. c.if-from-k.true (c.from.ensures ∙ e)))

pub loop-y-init : goal.loop-y-init
loop-y-init c =
    checked-start _ _ _ _ _ _ _ _ c.requires.checking.0 c.requires.checking.1 (sym c.from.ensures ∙ c.if-from-k.false) c.find-root.ensures

pub returns-in_default : goal.returns-in_default
returns-in_default c =
    let front = listed-front _ _ _ _ c.neighbours-count.ensures in
    never (joined-differs (picture c.args.raster.now) _ _ _ _ _ _ _ _ c.loop-y.invariant
    (record { listed = rw front at c.loop-y-test.true; is = rw front at c.from-in-loop-y.ensures }) _ c.in_default.ensures)

pub loop-y-preserved : goal.loop-y-preserved
loop-y-preserved c =
    let front = listed-front _ _ _ _ c.neighbours-count.ensures in
    joined-turn (picture c.args.raster.now) _ _ _ _ _ _ _ _ c.loop-y.invariant
    (record { listed = rw front at c.loop-y-test.true; is = rw front at c.from-in-loop-y.ensures }) _ _ c.in-Some.ensures

pub returns : goal.returns
returns c =
    let size = ap length (listed-front _ _ _ _ c.neighbours-count.ensures) in
    yes (checked-end _ _ _ _ _ _ _ _ c.loop-y.invariant (omega arith))
