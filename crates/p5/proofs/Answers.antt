-- Laws of the answer for a walked header, its pixels and a whole file.
use Rattle.std.proofs.Common.{◌≡◌, refl, sym, true, false, ◌&&◌, List, ℕ, ◌*◌, length, Option, Some, None, Result, Ok, Err, nat_lt, arith}
use Rattle.std.proofs.lemmas.List.Recursion.{is_position_or_len}
use Rattle.std.specs.List.{position, position_or_len}
use borrow.Author.Tests.{leb-true, leb-false, ltb-true, ltb-false, lt-ltb, le-ltb, eq-eqb, ne_eqb}
use lib.Dec.{eqb, leb, ltb}
use Rattle.picture.specs.Pictures.{side_fits}
use Rattle.refusals.specs.declared.Refusal.{Refusal}
use Rattle.refusals.specs.declared.Refusal.TheVariants.{NotP5, SideOutside, LargestOutside, CountDiffers, PixelAbove}
use Rattle.p5.specs.declared.header.Header.{Header}
use Rattle.p5.specs.Headers.{begins_p5, leading, walk}
use Rattle.p5.specs.Files.{largest_fits, at_most, on_pixels, on_header, on_walk, read_file, outcome_number, header_of, no_header}
use Rattle.lists.proofs.Tests.{on_test}
use Rattle.p5.proofs.Leading.{leading_le}

-- the first place above the largest sample, by the bytes that are not above it
module _ (m : ℕ) (s : List ℕ) where
  position-leading : position_or_len (nat_lt m) s ≡ leading (at_most m) s
  position-leading =
      sym
      (is_position_or_len (leading (at_most m)) (nat_lt m) refl
      (λ b l. on_test (leb b m) (λ t. rw (t, le-ltb m b (leb-true b m t)) (omega arith)) (λ t. rw (t, lt-ltb m b (leb-false b m t))))
      s)

  pub above_none : position (nat_lt m) s ≡ None → leading (at_most m) s ≡ length s
  above_none e =
      on_test (ltb (leading (at_most m) s) (length s))
      (λ t. let z : ◌≡◌ {A = Option ℕ} (Some (leading (at_most m) s)) None = rw (position-leading, t) at e in let z : ◌≡◌ {A = ℕ} 0 1 = cc in absurd (omega arith))
      (λ t. omega (arith, ltb-false _ _ t, leading_le (at_most m) s))

  pub above-some : {x : ℕ} → position (nat_lt m) s ≡ Some x → (leading (at_most m) s ≡ length s → ⊥) × (leading (at_most m) s ≡ x)
  above-some {x} e =
      on_test (ltb (leading (at_most m) s) (length s))
      (λ t. let z : ◌≡◌ {A = Option ℕ} (Some (leading (at_most m) s)) (Some x) = rw (position-leading, t) at e in
      let l = ltb-true _ _ t in (λ same. omega arith, cc))
      (λ t. let z : ◌≡◌ {A = Option ℕ} None (Some x) = rw (position-leading, t) at e in let z : ◌≡◌ {A = ℕ} 0 1 = cc in absurd (omega arith))

module _ (h : Header) (s : List ℕ) where
  pub pixels-fit : leading (at_most h.largest) s ≡ length s → Ok h ≡ on_pixels h s
  unfolding on_pixels
  pixels-fit e = rw (eq-eqb _ _ e)

  pub pixels-exceed : (leading (at_most h.largest) s ≡ length s → ⊥) → Err (PixelAbove (leading (at_most h.largest) s)) ≡ on_pixels h s
  unfolding on_pixels
  pixels-exceed e = rw (ne_eqb _ _ e)

  pub pixels-none : position (nat_lt h.largest) s ≡ None → Ok h ≡ on_pixels h s
  pixels-none e = pixels-fit (above_none h.largest s e)

  pub pixels-some : {x : ℕ} → position (nat_lt h.largest) s ≡ Some x → Err (PixelAbove x) ≡ on_pixels h s
  pixels-some e =
      let above = above-some h.largest s e in
      rw (← above.1) (pixels-exceed above.0)

  pub sides-outside : side_fits h.width && side_fits h.height ≡ false → Err SideOutside ≡ on_header h s
  unfolding on_header
  sides-outside e = rw e

  module _ (sides : side_fits h.width && side_fits h.height ≡ true) where
    pub largest-outside : largest_fits h.largest ≡ false → Err LargestOutside ≡ on_header h s
    unfolding on_header
    largest-outside e = rw (sides, e)

    module _ (largest : largest_fits h.largest ≡ true) where
      pub count-differs : eqb (length s) (h.width * h.height) ≡ false → Err CountDiffers ≡ on_header h s
      unfolding on_header
      count-differs e = rw (sides, largest, e)

      pub count_same : eqb (length s) (h.width * h.height) ≡ true → on_pixels h s ≡ on_header h s
      unfolding on_header
      count_same e = rw (sides, largest, e)

module _ (f : List ℕ) where
  pub read-other : begins_p5 f ≡ false → Err NotP5 ≡ read_file f
  unfolding read_file
  read-other e = rw e

  pub read-p5 : begins_p5 f ≡ true → on_walk f (walk f) ≡ read_file f
  unfolding read_file
  read-p5 e = rw e

-- the header of a refusal
pub refused-header : (o : Result Header Refusal) → (outcome_number o ≡ 0 → ⊥) → header_of o ≡ no_header
refused-header (Ok h) n = absurd (n refl)
refused-header (Err e) n = refl
