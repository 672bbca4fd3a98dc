-- A walked header and the shape of the bytes that it stands on.
use mathlib.Core.Path.{◌≡◌, sym, ap, ap₂, subst, ◌∙◌}
use mathlib.Core.Bool.{true, false, false≢true}
use mathlib.Core.List.{List, [], ◌∷◌, ◌++◌}
use Prim.Native.Nat.{ℕ, ◌+◌, ◌<◌}
use native.Mathlib.Numerals.{add-one}
use native.Mathlib.Omega.{arith}
use borrow.Author.Tests.{eqb-true}
use lib.Dec.{eqb}
use lib.ListN.{length, get_or, drop, length-drop}
use lib.Seq.{drop-cons, drop-drop}
use Rattle.std.specs.Prelude.{Ok}
use Rattle.p5.specs.declared.header.Header.{Header}
use Rattle.p5.specs.Headers.{begins_p5, is_white, is_digit, leading, walk}
use Rattle.p5.specs.Shapes.{Gap, Headed}
use Rattle.lists.proofs.Tests.{and_left, and_right}
use Rattle.p5.proofs.Blanks.{white-digit}
use Rattle.p5.proofs.Gap.{first_byte, gap-first}
use Rattle.p5.proofs.Fields.{number-stands, drop-field, stands-number}
use Rattle.p5.proofs.Walking.{Walking, walking, whole, end-white, white-within, walk_end}

pub p5-bytes : (f : List ℕ) → begins_p5 f ≡ true → f ≡ 80 ∷ 53 ∷ drop 2 f
p5-bytes [] e = absurd (false≢true e)
p5-bytes (a ∷ []) e = absurd (false≢true (and_right (eqb a 80) false e))
p5-bytes (a ∷ b ∷ s) e = ap₂ (λ (x y : ℕ). x ∷ y ∷ s) (eqb-true a 80 (and_left (eqb a 80) _ e)) (eqb-true b 53 (and_right (eqb a 80) _ e))

-- a walked header has the shape
headed-of : (f : List ℕ) (h : Header) → begins_p5 f ≡ true → Walking f (Ok h) → Headed f h (drop h.offset f)
headed-of f h begins (whole {a = a} {b = b} {c = c} e g k i) =
    let x = number-stands f 2 e in
    let y = number-stands f a g in
    let z = number-stands f b k in
    let within : c < length f = white-within f c i in
    record {
      gap₁ = x.gap;
      width = x.numeral;
      gap₂ = y.gap;
      height = y.numeral;
      gap₃ = z.gap;
      largest = z.numeral;
      last = get_or f c 0;
      bytes = p5-bytes f begins ∙ ap (λ (l : List ℕ). 80 ∷ 53 ∷ l) (x.bytes ∙ rw (y.bytes, z.bytes, add-one, drop-cons f c 0));
      is-gap₁ = x.is-gap;
      is-width = x.is_number;
      is-gap₂ = y.is-gap;
      is-height = y.is_number;
      is-gap₃ = z.is-gap;
      is-largest = z.is_number;
      is_last = i;
      offset = omega (arith, length-drop (c + 1) f);
    }

pub walk-headed : (f : List ℕ) {h : Header} → begins_p5 f ≡ true → walk f ≡ Ok h → Headed f h (drop h.offset f)
walk-headed f {h} begins e = headed-of f h begins (subst (Walking f) e (walking f))

-- after a number a gap begins, so no digit follows
white-first : (s : List ℕ) → is_white (get_or s 0 0) ≡ true → leading is_digit s ≡ 0
white-first [] e = absurd (false≢true e)
white-first (b ∷ s) e = rw (white-digit b e)

gap-digit : (g s : List ℕ) → Gap g → leading is_digit (g ++ s) ≡ 0
gap-digit g s k = white-first (g ++ s) (gap-first s k)

-- and the shape is walked
module _ (f : List ℕ) (h : Header) (s : List ℕ) (k : Headed f h s) where
  -- the position after each number, and the bytes from there on
  abbrev after₁ : ℕ
  after₁ = 2 + (length k.gap₁ + length k.width)

  abbrev after₂ : ℕ
  after₂ = after₁ + (length k.gap₂ + length k.height)

  abbrev after₃ : ℕ
  after₃ = after₂ + (length k.gap₃ + length k.largest)

  abbrev rest₃ : List ℕ
  rest₃ = k.last ∷ s

  abbrev rest₂ : List ℕ
  rest₂ = k.gap₃ ++ (k.largest ++ rest₃)

  abbrev rest₁ : List ℕ
  rest₁ = k.gap₂ ++ (k.height ++ rest₂)

  from₀ : drop 2 f ≡ k.gap₁ ++ (k.width ++ rest₁)
  from₀ = ap (drop 2) k.bytes

  from₁ : drop after₁ f ≡ rest₁
  from₁ = drop-field f 2 k.gap₁ rest₁ k.width from₀

  from₂ : drop after₂ f ≡ rest₂
  from₂ = drop-field f after₁ k.gap₂ rest₂ k.height from₁

  from₃ : drop after₃ f ≡ rest₃
  from₃ = drop-field f after₂ k.gap₃ rest₃ k.largest from₂

  ends : after₃ + 1 ≡ h.offset
  ends = omega (arith, k.offset, length-drop after₃ f, ap length from₃)

  pub headed-begins : begins_p5 f ≡ true
  headed-begins = ap begins_p5 k.bytes

  pub headed-walk : walk f ≡ Ok h
  headed-walk =
      let one = stands-number f 2 k.gap₁ rest₁ k.width k.is-gap₁ k.is-width from₀ (gap-digit k.gap₂ _ k.is-gap₂) in
      let two = stands-number f after₁ k.gap₂ rest₂ k.height k.is-gap₂ k.is-height from₁ (gap-digit k.gap₃ _ k.is-gap₃) in
      let three = stands-number f after₂ k.gap₃ rest₃ k.largest k.is-gap₃ k.is-largest from₂ (rw (white-digit k.last k.is_last)) in
      let last : get_or f after₃ 0 ≡ k.last = sym (first_byte f after₃) ∙ ap (λ (l : List ℕ). get_or l 0 0) from₃ in
      sym (walk_end f one two three)
      ∙ sym (end-white f h.width h.height h.largest after₃ (ap is_white last ∙ k.is_last))
      ∙ ap (λ (o : ℕ). Ok (record { width = h.width; height = h.height; largest = h.largest; offset = o })) ends

  pub headed-rest : drop h.offset f ≡ s
  headed-rest = ap (λ (o : ℕ). drop o f) (sym ends) ∙ sym (drop-drop 1 after₃ f) ∙ ap (drop 1) from₃
