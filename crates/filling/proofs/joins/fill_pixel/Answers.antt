-- `filling::joins::fill_pixel` meets its contract. The invariant is FillJoining.
use Rattle.std.proofs.Common.{arith, ap, length}
use Rattle.geometry.proofs.Listed.{listed-front}
use Rattle.filling_laws.proofs.FillWalks.{fill-joining-start, fill-joining-turn, fill-joining-end}
use Rattle.filling.proofs.joins.fill_pixel.Goals as goal

pub loop-y-init : goal.loop-y-init
loop-y-init c = fill-joining-start c.requires.0 c.requires.1 c.find-root.ensures

pub loop-y-preserved : goal.loop-y-preserved
loop-y-preserved c =
    let front = listed-front _ _ _ _ c.neighbours-count.ensures in
    fill-joining-turn c.loop-y.invariant
    (record { listed = rw front at c.loop-y-test.true; is = rw front at c.from.ensures })
    c.fill_edge-root.ensures

pub returns : goal.returns
returns c =
    let size = ap length (listed-front _ _ _ _ c.neighbours-count.ensures) in
    fill-joining-end c.loop-y.invariant (omega arith)
