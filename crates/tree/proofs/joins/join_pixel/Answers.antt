-- `tree::joins::join_pixel` meets its contract.
use Rattle.std.proofs.Common.{arith, ℕ, ◌+◌, ◌*◌, get_or, ap, ◌∙◌}
use Rattle.geometry.proofs.Listed.{listed-front}
use Rattle.tree_laws.proofs.Walks.{joining-start, joining-turn, joining-end}
use Rattle.tree.proofs.joins.join_pixel.Goals as goal

pub loop-y-init : goal.loop-y-init
loop-y-init c =
    let e = c.requires.0.classes.size in
    joining-start _ _ _ _ _ _ _ c.requires.0 (omega (arith, c.requires.1)) c.find-root.ensures

pub loop-y-preserved : goal.loop-y-preserved
loop-y-preserved c =
    let front = listed-front _ _ _ _ c.neighbours-count.ensures in
    joining-turn _ _ _ _ _ _ _ _ _ _ _ _ c.loop-y.invariant
    (record { listed = rw front at c.loop-y-test.true; is = rw front at c.from.ensures })
    c.join_edge-root.ensures

pub returns : goal.returns
returns c =
    let front = listed-front _ _ _ _ c.neighbours-count.ensures in
    let i = c.loop-y.invariant in
    joining-end _ _ _ _ _ _ _ _ _ _ i (rw front at c.loop-y-test.false) c.requires.0
    (c.from-2.ensures ∙ ap (λ (n : ℕ). get_or c.loop-y.work (2 * n + c.args.x) 0) i.near.classes.size)
