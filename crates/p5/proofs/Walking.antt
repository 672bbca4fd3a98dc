-- Laws of the walk over the header.
use mathlib.Core.Path.{◌≡◌, refl, sym, ap, subst, ◌∙◌}
use mathlib.Core.Bool.{Bool, true, false, false≢true}
use mathlib.Core.List.{List}
use Prim.Native.Nat.{ℕ, ◌+◌, ◌≤◌, ◌<◌}
use native.Mathlib.Omega.{arith}
use borrow.Author.Tests.{ltb-true, ltb-false}
use lib.Dec.{ltb}
use lib.ListN.{length, get_or, get_or-eq_default}
use Rattle.std.specs.Prelude.{Result, Ok, Err}
use Rattle.p5.specs.declared.field.Number.{Number}
use Rattle.p5.specs.declared.header.Header.{Header}
use Rattle.p5.specs.Headers.{number, is_white, end_at, number_at, from_width, from_height, from_largest, walk}
use Rattle.lists.proofs.Tests.{on-pick}

module _ (f : List ℕ) (w h m p : ℕ) where
  pub end-white : is_white (get_or f p 0) ≡ true → Ok (record { width = w; height = h; largest = m; offset = p + 1 }) ≡ end_at f w h m p
  unfolding end_at
  end-white e = rw e

  pub end-stop : is_white (get_or f p 0) ≡ false → Err p ≡ end_at f w h m p
  unfolding end_at
  end-stop e = rw e

-- beyond the file there is no white space
pub white-past : (f : List ℕ) (p : ℕ) → length f ≤ p → false ≡ is_white (get_or f p 0)
white-past f p h = sym (ap is_white (get_or-eq_default f 0 h))

-- a byte that is white space lies within the file
pub white-within : (f : List ℕ) (p : ℕ) → is_white (get_or f p 0) ≡ true → p < length f
white-within f p e = within (ltb p (length f)) refl
  where
    within : (b : Bool) → ltb p (length f) ≡ b → p < length f
    within true t = ltb-true _ _ t
    within false t = absurd (false≢true (white-past f p (ltb-false _ _ t) ∙ e))

-- the walk by the answers of the three numbers
module _ (f : List ℕ) where
  pub walk_first : {p : ℕ} → number_at f 2 ≡ Err p → Err p ≡ walk f
  unfolding walk
  walk_first e = sym (ap (from_width f) e)

  module _ {w a : ℕ} (first : number_at f 2 ≡ number w a) where
    pub walk-second : {p : ℕ} → number_at f a ≡ Err p → Err p ≡ walk f
    unfolding walk
    walk-second e = sym (ap (from_width f) first ∙ ap (from_height f w) e)

    module _ {h b : ℕ} (second : number_at f a ≡ number h b) where
      pub walk-third : {p : ℕ} → number_at f b ≡ Err p → Err p ≡ walk f
      unfolding walk
      walk-third e = sym (ap (from_width f) first ∙ ap (from_height f w) second ∙ ap (from_largest f w h) e)

      pub walk_end : {m c : ℕ} → number_at f b ≡ number m c → end_at f w h m c ≡ walk f
      unfolding walk
      walk_end e = sym (ap (from_width f) first ∙ ap (from_height f w) second ∙ ap (from_largest f w h) e)

-- how a walk ends: with a whole header, or at one of the three numbers or at the last byte
pub data Walking (f : List ℕ) : Result Header ℕ → Type 0 where
  whole : {w a h b m c : ℕ} → number_at f 2 ≡ number w a → number_at f a ≡ number h b → number_at f b ≡ number m c
      → is_white (get_or f c 0) ≡ true → Walking f (Ok (record { width = w; height = h; largest = m; offset = c + 1 }))
  first : {p : ℕ} → number_at f 2 ≡ Err p → Walking f (Err p)
  second : {w a p : ℕ} → number_at f 2 ≡ number w a → number_at f a ≡ Err p → Walking f (Err p)
  third : {w a h b p : ℕ} → number_at f 2 ≡ number w a → number_at f a ≡ number h b → number_at f b ≡ Err p → Walking f (Err p)
  fourth : {w a h b m c : ℕ} → number_at f 2 ≡ number w a → number_at f a ≡ number h b → number_at f b ≡ number m c
      → is_white (get_or f c 0) ≡ false → Walking f (Err c)

pub walking : (f : List ℕ) → Walking f (walk f)
unfolding walk end_at
walking f = from-width (number_at f 2) refl
  where
    from-largest : {w a h b : ℕ} → number_at f 2 ≡ number w a → number_at f a ≡ number h b → (x : Result Number ℕ) → number_at f b ≡ x
        → Walking f (from_largest f w h x)
    from-largest e g (Ok n) k = on-pick (Walking f) (is_white (get_or f n.end 0)) (whole e g k) (fourth e g k)
    from-largest e g (Err p) k = third e g k

    from-height : {w a : ℕ} → number_at f 2 ≡ number w a → (x : Result Number ℕ) → number_at f a ≡ x → Walking f (from_height f w x)
    from-height e (Ok n) g = from-largest e g (number_at f n.end) refl
    from-height e (Err p) g = second e g

    from-width : (x : Result Number ℕ) → number_at f 2 ≡ x → Walking f (from_width f x)
    from-width (Ok n) e = from-height e (number_at f n.end) refl
    from-width (Err p) e = first e

-- the pixels begin within the file
pub offset-within : (f : List ℕ) {h : Header} → walk f ≡ Ok h → h.offset ≤ length f
offset-within f e = ends (subst (Walking f) e (walking f))
  where
    ends : {h : Header} → Walking f (Ok h) → h.offset ≤ length f
    ends (whole {c = c} e g k i) = omega (arith, white-within f c i)
