-- The hold list of a filled picture: its refusal, and the bytes that the core of filling leaves.
use Rattle.std.proofs.Common.{◌≡◌, ◌≢◌, refl, sym, ap, ◌∙◌, false, true, List, ◌++◌, ℕ, ◌≤◌, eqb, ltb, length, take, drop, replicate, length-append, take_at, ltb-false, arith}
use borrow.Author.Tests.{eqb-false}
use Rattle.lists.proofs.Tests.{on-pick, or-fails}
use Rattle.picture.specs.Pictures.{Picture, places, with_pixels, is_picture}
use Rattle.picture.specs.Filling.{filled}
use Rattle.refusals.specs.declared.Refusal.{Refusal}
use Rattle.refusals.specs.Refusals.{number_of}
use Rattle.refusals.proofs.Numbers.{number-some}
use Rattle.geometry.specs.declared.raster.Raster.{Raster}
use Rattle.geometry.specs.Rasters.{picture}
use Rattle.geometry.proofs.Listed.{raster-size}
use Rattle.topology.proofs.Filled.{filled-frame, filling-closes}
use Rattle.faults.specs.PictureFault.{when}
use Rattle.faults.specs.Faults.{size_unfit}
use Rattle.faults.proofs.Faults.{when-zero}
use Rattle.hold_lines.specs.Lines.{refused_line}
use Rattle.hold_list.specs.HoldText.{hold_list, filled_list}
use Rattle.hold_list.proofs.Rooms.{one_lent}

-- a picture whose size is not refused
pub size_holds : (p : Picture) (s fault : ℕ) → fault ≡ when (size_unfit (places p) s) 13 → fault ≡ 0 → hold_list (filled p s) ≡ filled_list s p
unfolding filled_list
size_holds p s fault is none = rw (when-zero 12 (size_unfit (places p) s) (sym is ∙ none))

module _ (x : Raster) (s : ℕ) where
  abbrev p : Picture
  p = picture x

  abbrev n : ℕ
  n = length x.pixels.now

  -- the refusal of a size
  pub size-refused : (e : Refusal) (number : ℕ) → number_of e ≡ when (size_unfit n s) 13 → number ≡ number_of e → refused_line number ≡ filled_list s p
  unfolding filled_list
  size-refused e number is same =
      rw (← raster-size x)
      (on-pick (λ (l : List ℕ). refused_line number ≡ l) (size_unfit n s)
      (λ t. ap refused_line (same ∙ rw t at is))
      (λ t. absurd (omega (arith, number-some e, rw t at is))))

  -- a size that is not refused
  module _ (none : 0 ≡ when (size_unfit n s) 13) where
    fits : size_unfit n s ≡ false
    fits = when-zero 12 (size_unfit n s) (sym none)

    pub size_fits : (1 ≤ s) × (s ≤ places p)
    size_fits =
        let (b, c) = or-fails (eqb s 0) (ltb n s) fits in
        let d : s ≢ 0 = eqb-false s 0 b in
        (omega arith, omega (arith, raster-size x, ltb-false n s c))

    pub raster-holds : hold_list (filled p s) ≡ filled_list s p
    raster-holds = size_holds p s 0 (rw (← raster-size x) none) refl

  -- bytes in front of a local array that are the pixels of a filled picture
  module _ (xs : List ℕ) (long : length xs ≡ length (take n (replicate {A = ℕ} 1600 0))) where
    abbrev bytes : List ℕ
    bytes = xs ++ drop n (replicate {A = ℕ} 1600 0)

    size : length xs ≡ n
    size = long ∙ sym (one_lent x)

    pub filled-room : n ≤ length bytes
    filled-room = omega (arith, size, length-append xs (drop n (replicate {A = ℕ} 1600 0)))

    module _ (e : xs ≡ (filled p s).pixels) where
      pub filled-front : with_pixels p (take n bytes) ≡ filled p s
      filled-front = ap (with_pixels p) (take_at xs (drop n (replicate {A = ℕ} 1600 0)) n size ∙ e) ∙ sym (filled-frame p s)

      pub front-picture : s ≤ places p → is_picture (with_pixels p (take n bytes)) ≡ true
      front-picture few = ap is_picture filled-front ∙ (filling-closes p x.accepted s few).accepted
