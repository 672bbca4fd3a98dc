-- The place of a refusal: the first unfit byte or the file's length, and the first place above the largest sample.
use mathlib.Core.Path.{◌≡◌, refl, sym, ap, subst, ◌∙◌}
use mathlib.Core.Logic.{◌↔◌, inl, inr, ⊎_elim}
use mathlib.Core.List.{List, ◌++◌, append_assoc}
use Prim.Native.Nat.{ℕ, suc, ◌≤◌, ◌<◌, zero-le}
use native.Mathlib.Nat.{eq-or-lt_of_le}
use native.Mathlib.Omega.{arith}
use borrow.Author.Tests.{leb-true}
use lib.ListN.{length, take, drop, take-append-drop}
use lib.Seq.{length-take-le, take-take}
use Rattle.std.specs.Prelude.{Result, Ok, Err}
use Rattle.refusals.specs.declared.Refusal.{Refusal}
use Rattle.refusals.specs.declared.Refusal.TheVariants.{Malformed, PixelAbove}
use Rattle.p5.specs.declared.header.Header.{Header}
use Rattle.p5.specs.Headers.{walk}
use Rattle.p5.specs.Files.{at_most, read_file, outcome_number, place_of}
use Rattle.p5.specs.Shapes.{Headed, Above, Cause, Begins, FirstUnfit, FirstAbove}
use Rattle.p5.proofs.Leading.{leading-below}
use Rattle.p5.proofs.Shape.{headed-walk}
use Rattle.p5.proofs.Walking.{Walking, walking}
use Rattle.p5.proofs.Cut.{walk-cut}
use Rattle.p5.proofs.Begun.{begun}
use Rattle.p5.proofs.Verdicts.{Verdict, verdict, exceeds, not-p5, stopped, sides, largest, count, above, fits}
use Rattle.p5.proofs.Refused.{NoneBelow, only, refused}

-- where a walk stopped within the file, the bytes up to and with that place begin no header
no_header : (f : List ℕ) (p : ℕ) → Walking f (Err p) → p < length f → Begins (take (suc p) f) → ⊥
no_header f p w l b =
    let x = take (suc p) f in
    let y = drop (suc p) f in
    let here = subst (λ (g : List ℕ). Walking g (Err p)) (sym (take-append-drop (suc p) f)) w in
    let stops : Err p ≡ walk (x ++ b.more) = walk-cut x y b.more p here (omega (arith, length-take-le (suc p) f l)) in
    let walks : walk (x ++ b.more) ≡ Ok b.header = headed-walk _ _ _ b.headed in
    let z : ◌≡◌ {A = ℕ} 0 1 = cc in
    omega arith

unfit-of : (f : List ℕ) (p : ℕ) → Verdict f (Err (Malformed p)) → FirstUnfit f p
unfit-of f p (stopped e g) =
    let w = subst (Walking f) g (walking f) in
    let b = begun f e p w in
    record { within = b.within; fit = b.fit; unfit = ⊎_elim inl (λ l. inr (no_header f p w l)) (eq-or-lt_of_le b.within) }

above_of : (f : List ℕ) (x : ℕ) → Verdict f (Err (PixelAbove x)) → FirstAbove f x
above_of f x (above {h} {s} k e g n d) =
    record {
      header = h;
      rest = s;
      headed = k;
      found = exceeds h s d;
      none = λ i z. leb-true _ _ (leading-below (at_most h.largest) s i z);
    }

-- there is one first unfit position
begins-less : (f : List ℕ) (m n : ℕ) → m ≤ n → Begins (take n f) → Begins (take m f)
begins-less f m n l b =
    let u = take n f in
    let again : take m f ++ drop m u ≡ u = ap (λ (v : List ℕ). v ++ drop m u) (sym (take-take m n f l)) ∙ take-append-drop m u in
    let same : take m f ++ (drop m u ++ b.more) ≡ u ++ b.more =
    sym (append_assoc (take m f) (drop m u) b.more) ∙ ap (λ (v : List ℕ). v ++ b.more) again in
    record {
      more = drop m u ++ b.more;
      header = b.header;
      rest = b.rest;
      headed = subst (λ (v : List ℕ). Headed v b.header b.rest) (sym same) b.headed;
    }

unfit-before : (f : List ℕ) (p q : ℕ) → FirstUnfit f p → FirstUnfit f q → p < q → ⊥
unfit-before f p q a b l = ⊎_elim (λ e. omega (arith, b.within)) (λ no. no (begins-less f (suc p) q l b.fit)) a.unfit

-- and one first place above the largest sample
above_before : (f : List ℕ) (x y : ℕ) → FirstAbove f x → FirstAbove f y → x < y → ⊥
above_before f x y a b l =
    let c = only f b.headed (λ h s. Above h s x) a.headed a.found in
    omega (arith, c.above, b.none x l)

-- the answers with a place
abbrev malformed : ℕ → Result Header Refusal
malformed p = Err (Malformed p)

abbrev exceeding : ℕ → Result Header Refusal
exceeding x = Err (PixelAbove x)

numbered-2 : (f : List ℕ) {o : Result Header Refusal} → Verdict f o → outcome_number o ≡ 2 → o ≡ Err (Malformed (place_of o))
numbered-2 f (not-p5 _) e = absurd (omega arith)
numbered-2 f (stopped _ _) e = refl
numbered-2 f (sides _ _) e = absurd (omega arith)
numbered-2 f (largest _ _ _) e = absurd (omega arith)
numbered-2 f (count _ _ _ _) e = absurd (omega arith)
numbered-2 f (above _ _ _ _ _) e = absurd (omega arith)
numbered-2 f (fits _ _ _ _ _) e = absurd (omega arith)

numbered-6 : (f : List ℕ) {o : Result Header Refusal} → Verdict f o → outcome_number o ≡ 6 → o ≡ Err (PixelAbove (place_of o))
numbered-6 f (not-p5 _) e = absurd (omega arith)
numbered-6 f (stopped _ _) e = absurd (omega arith)
numbered-6 f (sides _ _) e = absurd (omega arith)
numbered-6 f (largest _ _ _) e = absurd (omega arith)
numbered-6 f (count _ _ _ _) e = absurd (omega arith)
numbered-6 f (above _ _ _ _ _) e = refl
numbered-6 f (fits _ _ _ _ _) e = absurd (omega arith)

-- an answer of the number n names the first place of its kind, and no other
module _ (f : List ℕ) (n : ℕ) (make : ℕ → Result Header Refusal) (First : ℕ → Type 0)
    (refusal : (outcome_number (read_file f) ≡ n) ↔ (Cause f n × NoneBelow f n))
    (number : (p : ℕ) → outcome_number (make p) ≡ n)
    (is : (o : Result Header Refusal) → Verdict f o → outcome_number o ≡ n → o ≡ make (place_of o))
    (first : (p : ℕ) → Verdict f (make p) → First p)
    (before : (p q : ℕ) → First p → First q → p < q → ⊥) where
  first-at : (p : ℕ) → (read_file f ≡ make p) ↔ ((Cause f n × NoneBelow f n) × First p)
  first-at p = (λ e. (refusal.0 (ap outcome_number e ∙ number p), first p (subst (Verdict f) e (verdict f))), back)
    where
      back : (Cause f n × NoneBelow f n) × First p → read_file f ≡ make p
      back c =
          let q = place_of (read_file f) in
          let e : read_file f ≡ make q = is (read_file f) (verdict f) (refusal.1 c.0) in
          let b = first q (subst (Verdict f) e (verdict f)) in
          let less = before p q c.1 b in
          let more = before q p b c.1 in
          let same : q ≡ p = omega arith in
          e ∙ ap make same

-- 2 is answered with the first unfit position and no other, 6 with the first place above the largest sample and no other
pub malformed-at : (f : List ℕ) (p : ℕ) → (read_file f ≡ Err (Malformed p)) ↔ ((Cause f 2 × NoneBelow f 2) × FirstUnfit f p)
malformed-at f =
    first-at f 2 malformed (FirstUnfit f) (refused f 2 (omega arith)) (λ p. refl) (λ o. numbered-2 f) (unfit-of f) (unfit-before f)

pub above_at : (f : List ℕ) (x : ℕ) → (read_file f ≡ Err (PixelAbove x)) ↔ ((Cause f 6 × NoneBelow f 6) × FirstAbove f x)
above_at f =
    first-at f 6 exceeding (FirstAbove f) (refused f 6 (omega arith)) (λ x. refl) (λ o. numbered-6 f) (above_of f) (above_before f)

-- the place of an answer lies within the file, 0 where there is none
pub place-within : (f : List ℕ) → place_of (read_file f) ≤ length f
place-within f = within (verdict f)
  where
    within : {o : Result Header Refusal} → Verdict f o → place_of o ≤ length f
    within (not-p5 _) = zero-le
    within (stopped {p} e g) = (unfit-of f p (stopped e g)).within
    within (sides _ _) = zero-le
    within (largest _ _ _) = zero-le
    within (count _ _ _ _) = zero-le
    within (above {h} {s} k e g n x) =
        let a = above_of f _ (above {h = h} {s = s} k e g n x) in omega (arith, a.found.within, a.headed.offset)
    within (fits _ _ _ _ _) = zero-le
