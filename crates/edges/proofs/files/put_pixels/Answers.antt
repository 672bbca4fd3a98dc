-- `edges::files::put_pixels` meets its contract. The loop's invariant: the pixels before i are written.
use Rattle.std.proofs.Common.{subst, [], ◌∷◌, ℕ, arith}
use Rattle.lists.specs.Writing.{Written}
use Rattle.lists.proofs.Writings.{lines_none, lines_next}
use Rattle.edges.specs.EdgeFiles.{edge_pixel}
use Rattle.edges.proofs.files.put_pixels.Goals as goal

pub loop-i-init : goal.loop-i-init
loop-i-init c = (omega arith, lines_none _ c.args.out.now c.args.at)

pub loop-i-preserved : goal.loop-i-preserved
loop-i-preserved c =
    let l = c.loop-i in
    let p = c.put-to in (
      omega (arith, l.invariant.0, p.ensures.end),
      lines_next (λ j. edge_pixel c.args.values j ∷ []) c.args.out.now l.out p.new.out c.args.at l.to p.result l.i
          (omega (arith, c.requires.3)) l.invariant.1
          (subst (λ (b : ℕ). Written l.to (b ∷ []) l.out p.result p.new.out) c.edge_pixel.ensures p.ensures),
    )
