-- The laws of the scan.
use Rattle.std.proofs.Common.{◌≡◌, subst, ◌∙◌, true, false, ◌≢◌, List, ℕ, ◌+◌, ◌≤◌, ◌<◌, arith, eqb, length, get_or}
use Rattle.picture.specs.Pictures.{Picture, places, is_picture}
use Rattle.picture.specs.Components.{in_section}
use Rattle.lists.proofs.Lists.{tally-length}
use Rattle.topology.proofs.Parts.{is_first, first-is}
use Rattle.topology.proofs.Accepted.{accepted-is, picture-few}
use Rattle.labelling_laws.proofs.Labelled.{Labelled, count_most, outside-first, labelled-first, unlabelled-first, labelled-pass, labelled-fresh, labelled-new, labelled-flood, labelled-end}
use Rattle.labels.specs.Labels.{LabelReady, LabelsHold}
use Rattle.labelling_laws.proofs.Flood.{Flooded}
use Rattle.floods.specs.Floods.{Room, Seed}

module _ (p : Picture) (ok : is_picture p ≡ true) (l stack : List ℕ) (a : LabelReady p l stack) where
  pub ready-room : Room (places p) p.pixels l stack 0
  ready-room =
      let most = tally-length (eqb 0) l in
      record { few = picture-few p ok; pixel = (accepted-is p ok).size; label = a.label; cells = a.cells; room = omega arith }

  module _ (k x c : ℕ) (h : x < places p) (s : Labelled p k x c l) where
    pub scan-outside : in_section p k x ≡ false → Labelled p k (x + 1) c l
    scan-outside e = labelled-pass p k x c l h s (outside-first p k x c l h s e)

    pub scan-labelled : get_or l x 0 ≢ 0 → Labelled p k (x + 1) c l
    scan-labelled e = labelled-pass p k x c l h s (labelled-first p k x c l h s e)

    -- the number of components so far, and one more
    pub scan-count : c + 1 ≤ 1600
    scan-count = let m = count_most p k x c l h s in let n = picture-few p ok in omega arith

    module _ (e : in_section p k x ≡ true) (z : get_or l x 0 ≡ 0) where
      begins : is_first p k x ≡ true
      begins = unlabelled-first p k x c l h s e z

      pub scan-seed : Seed p k x (c + 1) l
      scan-seed =
          record {
            at = (first-is p k x h begins).0;
            fresh = labelled-fresh p k x c l h s begins;
            new = labelled-new p k x c l h s begins;
          }

      pub scan-flood : (m : List ℕ) → length m ≡ length l → Flooded p k x (c + 1) l m → Labelled p k (x + 1) (c + 1) m
      scan-flood m size = labelled-flood p k x c l h s begins m (size ∙ a.label)

-- the labels and the stack at the place x are ready for the next
pub scan-ready :
    (p : Picture) (k x c : ℕ) (l stack m after : List ℕ) → LabelReady p l stack → length after ≡ length stack → Labelled p k x c m →
    LabelReady p m after
scan-ready p k x c l stack m after a e s =
    record { label = s.size; cells = let q = a.cells in omega arith }

pub scan-end : (p : Picture) (k x c : ℕ) (m : List ℕ) → x ≡ places p → Labelled p k x c m → LabelsHold p k c m
scan-end p k x c m e s =
    let w = labelled-end p k c m (subst (λ y. Labelled p k y c m) e s) in
    record { labels = w.0; count = w.1 }
