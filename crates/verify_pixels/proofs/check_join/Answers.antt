-- `verify_pixels::check_join` meets its contract.
use Rattle.std.proofs.Common.{refl, inl, inr}
use Rattle.tree_laws.proofs.Checks.{joint-left, joint-right, joint-differs, joint-both}
use Rattle.verify_pixels.proofs.Edges.{left-in}
use Rattle.verify_pixels.proofs.check_join.Goals as goal
use Rattle.verify_pixels.proofs.check_join.Goals.{else-agrees-via-then-agrees+else-agrees-2, else-agrees-via-else-agrees}

pub returns-then-a : goal.returns-then-a
returns-then-a c =
    let s = c.requires in
    let h = c.link.ensures in
    (left-in _ _ _ _ _ _ h s.q_nonzero.2, joint-left _ _ _ _ _ _ _ s.q_nonzero.3 s.names.0 s.names.1 _ _ c.if-a.true h)

pub returns-then-b : goal.returns-then-b
returns-then-b c =
    let s = c.requires in
    let h = c.link-then-b.ensures in
    (left-in _ _ _ _ _ _ h s.q_nonzero.2, joint-right _ _ _ _ _ _ _ s.q_nonzero.3 s.names.0 s.names.1 _ _ c.if-b.true h)

pub returns-then-agrees-2 : goal.returns-then-agrees-2
returns-then-agrees-2 c =
    let s = c.requires in
    let h = c.link-then-agrees-2.ensures in (
      left-in _ _ _ _ _ _ h s.q_nonzero.2,
      joint-both _ _ _ _ _ _ _ s.q_nonzero.3 s.names.0 s.names.1 c.if-a.false c.if-b.false _ _ c.if-agrees.ensures c.if-agrees-2.ensures h,
    )

pub returns-else-agrees : goal.returns-else-agrees
returns-else-agrees c =
    let s = c.requires in
    elim c.else-agrees.branch [
      | else-agrees-via-then-agrees+else-agrees-2 w ↦
          joint-differs _ _ _ _ _ _ _ s.q_nonzero.3 s.names.0 s.names.1 c.if-a.false c.if-b.false _ (inr refl) s.names.1 w.if-agrees-2.ensures
      | else-agrees-via-else-agrees w ↦
          joint-differs _ _ _ _ _ _ _ s.q_nonzero.3 s.names.0 s.names.1 c.if-a.false c.if-b.false _ (inl refl) s.names.0 w.if-agrees.ensures
    ]
