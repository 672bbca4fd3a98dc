-- How an answer comes about, with the tests that led to it.
use mathlib.Core.Path.{◌≡◌, refl}
use mathlib.Core.Bool.{true, false, ◌&&◌, not}
use mathlib.Core.Logic.{⊎_elim}
use mathlib.Core.List.{List}
use Prim.Native.Nat.{ℕ, ◌*◌, ◌≤◌, ◌<◌, zero-le}
use native.Mathlib.Nat.{eq-or-lt_of_le}
use native.Mathlib.Omega.{arith}
use borrow.Author.Tests.{eqb-true, eqb-false, leb-false, not-true, not-false}
use lib.Dec.{eqb}
use lib.ListN.{length, get_or}
use Rattle.std.specs.Prelude.{Result, Ok, Err}
use Rattle.picture.specs.Pictures.{side_fits}
use Rattle.p5.specs.declared.header.Header.{Header}
use Rattle.refusals.specs.declared.Refusal.{Refusal}
use Rattle.refusals.specs.declared.Refusal.TheVariants.{NotP5, Malformed, SideOutside, LargestOutside, CountDiffers, PixelAbove}
use Rattle.p5.specs.Headers.{begins_p5, leading, walk}
use Rattle.p5.specs.Files.{largest_fits, at_most, on_pixels, on_header, on_walk, read_file, header_of}
use Rattle.p5.specs.Shapes.{Headed, Above}
use Rattle.lists.proofs.Tests.{on-pick}
use Rattle.p5.proofs.Leading.{leading_le, leading-next}
use Rattle.p5.proofs.Shape.{walk-headed}

-- both sides are from 1 to 40
abbrev pub sides_fit : Header → Type 0
sides_fit h = side_fits h.width && side_fits h.height ≡ true

-- no pixel is above the largest sample
abbrev pub pixels_fit : Header → List ℕ → Type 0
pixels_fit h s = leading (at_most h.largest) s ≡ length s

-- the tests that lead to each answer
pub data Verdict (f : List ℕ) : Result Header Refusal → Type 0 where
  not-p5 : begins_p5 f ≡ false → Verdict f (Err NotP5)
  stopped : {p : ℕ} → begins_p5 f ≡ true → walk f ≡ Err p → Verdict f (Err (Malformed p))
  sides : {h : Header} {s : List ℕ} → Headed f h s → side_fits h.width && side_fits h.height ≡ false → Verdict f (Err SideOutside)
  largest : {h : Header} {s : List ℕ} → Headed f h s → sides_fit h → largest_fits h.largest ≡ false → Verdict f (Err LargestOutside)
  count : {h : Header} {s : List ℕ} → Headed f h s → sides_fit h → largest_fits h.largest ≡ true
      → (length s ≡ h.width * h.height → ⊥) → Verdict f (Err CountDiffers)
  above : {h : Header} {s : List ℕ} → Headed f h s → sides_fit h → largest_fits h.largest ≡ true
      → length s ≡ h.width * h.height → (pixels_fit h s → ⊥) → Verdict f (Err (PixelAbove (leading (at_most h.largest) s)))
  fits : {h : Header} {s : List ℕ} → Headed f h s → sides_fit h → largest_fits h.largest ≡ true
      → length s ≡ h.width * h.height → pixels_fit h s → Verdict f (Ok h)

pub verdict : (f : List ℕ) → Verdict f (read_file f)
unfolding read_file on_header on_pixels
verdict f = on-pick (Verdict f) (not (begins_p5 f)) (λ e. not-p5 (not-true _ e)) (λ e. walked (not-false _ e) (walk f) refl)
  where
    judged : (h : Header) (s : List ℕ) → Headed f h s → Verdict f (on_header h s)
    judged h s k =
        on-pick (Verdict f) (not (side_fits h.width && side_fits h.height))
        (λ a. sides k (not-true _ a))
        (λ a. on-pick (Verdict f) (not (largest_fits h.largest))
        (λ b. largest k (not-false _ a) (not-true _ b))
        (λ b. on-pick (Verdict f) (not (eqb (length s) (h.width * h.height)))
        (λ c. count k (not-false _ a) (not-false _ b) (eqb-false _ _ (not-true _ c)))
        (λ c. on-pick (Verdict f) (eqb (leading (at_most h.largest) s) (length s))
        (λ d. fits k (not-false _ a) (not-false _ b) (eqb-true _ _ (not-false _ c)) (eqb-true _ _ d))
        (λ d. above k (not-false _ a) (not-false _ b) (eqb-true _ _ (not-false _ c)) (eqb-false _ _ d)))))

    walked : begins_p5 f ≡ true → (w : Result Header ℕ) → walk f ≡ w → Verdict f (on_walk f w)
    walked e (Ok h) g = judged h _ (walk-headed f e g)
    walked e (Err p) g = stopped e g

-- the offset of an answer lies within the file, 0 on a refusal
pub answer-within : (f : List ℕ) → (header_of (read_file f)).offset ≤ length f
answer-within f = within (verdict f)
  where
    within : {o : Result Header Refusal} → Verdict f o → (header_of o).offset ≤ length f
    within (not-p5 _) = zero-le
    within (stopped _ _) = zero-le
    within (sides _ _) = zero-le
    within (largest _ _ _) = zero-le
    within (count _ _ _ _) = zero-le
    within (above _ _ _ _ _) = zero-le
    within (fits k _ _ _ _) = omega (arith, k.offset)

-- the place of the first pixel that does not pass is above the largest sample
pub exceeds : (h : Header) (s : List ℕ) → (pixels_fit h s → ⊥) → Above h s (leading (at_most h.largest) s)
exceeds h s x =
    let t = at_most h.largest in
    let l : leading t s < length s = ⊎_elim (λ e. absurd (x e)) (λ l. l) (eq-or-lt_of_le (leading_le t s)) in
    record { within = l; above = leb-false (get_or s (leading t s) 0) h.largest (leading-next t s l) }
