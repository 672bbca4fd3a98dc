-- An argument names a size where the digits at its front are all of it.
use Rattle.std.proofs.Common.{◌≡◌, ◌≢◌, refl, sym, ap, ap₂, ◌∙◌, Bool, ◌&&◌, List, [], ℕ, eqb, leb, length, take, Result, Err, append-nil, take_all, le-leb, leb-true, arith}
use borrow.Author.Tests.{eqb-false}
use Rattle.lists.specs.Lists.{pick, all}
use Rattle.lists.proofs.Tests.{on-pick, and_left, and_right, and_both}
use Rattle.p5.specs.declared.field.Number.{Number}
use Rattle.p5.specs.Headers.{leading, is_digit, decimal_value, number, digits_at}
use Rattle.p5.specs.Shapes.{Numeral}
use Rattle.p5.proofs.Leading.{leading-all, leading-append}
use Rattle.p5.proofs.Digits.{digits-few}
use Rattle.hold_list.specs.HoldText.{named_size}

-- equal numbers have equal values and positions
number-same : {v w p q : ℕ} → number v p ≡ number w q → (v ≡ w) × (p ≡ q)
number-same {v} {w} {p} {q} e =
    let f : ◌≡◌ {A = Number} (record { value = v; end = p }) (record { value = w; end = q }) = cc in
    (ap (λ (n : Number). n.value) f, ap (λ (n : Number). n.end) f)

unread : {p v q : ℕ} → Err p ≡ number v q → ⊥
unread e = let z : ◌≡◌ {A = ℕ} 0 1 = cc in omega arith

-- a field that ends with the argument says that the argument is a number
abbrev Reads : List ℕ → ℕ → Result Number ℕ → Type 0
Reads a v x = x ≡ number v (length a) → Numeral a v

module _ (a : List ℕ) where
  -- the whole argument is a number of 1 to 5 digits
  numeral-size : {v : ℕ} → Numeral a v → named_size a ≡ v
  unfolding named_size
  numeral-size n =
      ap (λ (b : Bool). pick b (decimal_value a) 0)
      (and_both (le-leb 1 (length a) n.some) (and_both (le-leb (length a) _ (omega (arith, n.most))) n.digits)) ∙
      sym n.value

  numeral-read : {v : ℕ} → Numeral a v → digits_at a 0 ≡ number v (length a)
  numeral-read n =
      let count : leading is_digit a ≡ length a = omega (arith, rw append-nil at (leading-append is_digit a [] n.digits)) in
      digits-few a 0 (omega (arith, n.some)) (omega (arith, n.most)) ∙
      ap₂ number (ap (λ (m : ℕ). decimal_value (take m a)) count ∙ (ap decimal_value (take_all (length a) a (omega arith)) ∙ sym n.value)) (omega arith)

  read-numeral : (v : ℕ) → digits_at a 0 ≡ number v (length a) → Numeral a v
  unfolding digits_at
  read-numeral v =
      let d = leading is_digit a in
      on-pick (Reads a v) (eqb d 0) (λ z e. absurd (unread e))
      (λ z.
      on-pick (Reads a v) (leb d 5)
      (λ k e.
      let (value, end) = number-same e in
      let whole : take d a ≡ a = take_all d a (omega arith) in
      record {
        some = let nonzero = eqb-false d 0 z in omega arith;
        most = let few = leb-true d 5 k in omega arith;
        digits = rw whole at (leading-all is_digit a);
        value = sym value ∙ ap decimal_value whole;
      })
      (λ k e. absurd (unread e)))

  none_named : ((v : ℕ) → digits_at a 0 ≡ number v (length a) → ⊥) → 0 ≡ named_size a
  unfolding named_size
  none_named none =
      on-pick (λ (n : ℕ). 0 ≡ n) (leb 1 (length a) && (leb (length a) 5 && all is_digit a))
      (λ e.
      let r = and_right (leb 1 (length a)) _ e in
      absurd
      (none (decimal_value a)
      (numeral-read
      (record {
        some = leb-true 1 (length a) (and_left (leb 1 (length a)) _ e);
        most = leb-true (length a) 5 (and_left (leb (length a) 5) _ r);
        digits = and_right (leb (length a) 5) _ r;
        value = refl;
      }))))
      (λ e. refl)

  -- what the digits at the front say: no size, no size for what stands behind them, their value
  pub named-unfit : (p : ℕ) → digits_at a 0 ≡ Err p → 0 ≡ named_size a
  named-unfit p e = none_named (λ v f. unread (sym e ∙ f))

  module _ (v end : ℕ) (e : digits_at a 0 ≡ number v end) where
    pub named-behind : end ≢ length a → 0 ≡ named_size a
    named-behind d = none_named (λ u f. d (number-same (sym e ∙ f)).1)

    pub named_value : end ≡ length a → v ≡ named_size a
    named_value f = sym (numeral-size (read-numeral v (e ∙ ap (number v) f)))
