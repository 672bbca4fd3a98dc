-- Each refusal number is answered if and only if its cause holds and no earlier one does.
use mathlib.Core.Path.{◌≡◌, sym, ap, subst, ◌∙◌}
use mathlib.Core.Bool.{true, false, ◌&&◌, false≢true}
use mathlib.Core.Logic.{◌↔◌, ◌⊎◌, inl, inr, ⊎_elim}
use mathlib.Core.List.{List}
use Prim.Native.Nat.{ℕ, ◌+◌, ◌*◌, ◌≤◌, ◌<◌}
use native.Mathlib.Omega.{arith}
use borrow.Author.Tests.{leb-true, leb-false}
use borrow.Author.Count.{below_more}
use lib.Dec.{leb}
use lib.ListN.{length, get_or, drop}
use Rattle.std.specs.Prelude.{Result}
use Rattle.picture.specs.Pictures.{side_fits}
use Rattle.p5.specs.declared.header.Header.{Header}
use Rattle.refusals.specs.declared.Refusal.{Refusal}
use Rattle.p5.specs.Headers.{begins_p5}
use Rattle.p5.specs.Files.{largest_fits, at_most, read_file, outcome_number}
use Rattle.p5.specs.Shapes.{Headed, Inside, Outside, Above, Cause, other, unheaded, side, largest, count, above}
use Rattle.lists.proofs.Tests.{and_left, and_right, and-fails}
use Rattle.p5.proofs.Shape.{p5-bytes, headed-begins, headed-walk, headed-rest}
use Rattle.p5.proofs.Accepted.{inside}
use Rattle.p5.proofs.Leading.{leading-below}
use Rattle.p5.proofs.Verdicts as verdicts
use Rattle.p5.proofs.Verdicts.{Verdict, verdict, sides_fit, pixels_fit, exceeds, not-p5, stopped, sides, fits}

outside : (low high x : ℕ) → leb low x && leb x high ≡ false → Outside low high x
outside low high x e =
    ⊎_elim (λ l. inl (leb-false low x l)) (λ l. inr (leb-false x high l)) (and-fails (leb low x) (leb x high) e)

inside-outside : {low high x : ℕ} → Inside low high x → Outside low high x → ⊥
inside-outside i o = ⊎_elim (λ l. omega (arith, i.0)) (λ l. omega (arith, i.1)) o

-- no cause below a number holds
abbrev pub NoneBelow : List ℕ → ℕ → Type 0
NoneBelow f n = (j : ℕ) → j < n → Cause f j → ⊥

module _ (f : List ℕ) where
  -- the numbers of causes are 1 to 6
  range : {j : ℕ} → Cause f j → Inside 1 6 j
  range (other _) = (omega arith, omega arith)
  range (unheaded _) = (omega arith, omega arith)
  range (side _ _ _ _) = (omega arith, omega arith)
  range (largest _ _ _ _) = (omega arith, omega arith)
  range (count _ _ _ _) = (omega arith, omega arith)
  range (above _ _ _ _ _) = (omega arith, omega arith)

  -- one more cause that does not hold
  more : (n : ℕ) → NoneBelow f n → (Cause f n → ⊥) → NoneBelow f (n + 1)
  more n = below_more (λ j. Cause f j → ⊥) n

  below₁ : NoneBelow f 1
  below₁ j l c = omega (arith, (range c).0)

  below₂ : begins_p5 f ≡ true → NoneBelow f 2
  below₂ e = more 1 below₁ no
    where
      no : Cause f 1 → ⊥
      no (other o) = o _ (p5-bytes f e)

  -- the causes that a file with a header does not have, by the tests that passed
  module _ {h : Header} {s : List ℕ} (k : Headed f h s) where
    -- there is no other header
    pub only : {h' : Header} {s' : List ℕ} (P : Header → List ℕ → Type 0) → Headed f h' s' → P h' s' → P h s
    only {h'} {s'} P k' p =
        let same : h' ≡ h = cc (headed-walk f h' s' k', headed-walk f h s k) in
        let rest : s' ≡ s = sym (headed-rest f h' s' k') ∙ ap (λ (x : Header). drop x.offset f) same ∙ headed-rest f h s k in
        subst (λ (x : List ℕ). P h x) rest (subst (λ (x : Header). P x s') same p)

    below₃ : NoneBelow f 3
    below₃ = more 2 (below₂ (headed-begins f h s k)) no
      where
        no : Cause f 2 → ⊥
        no (unheaded u) = u h s k

    below₄ : sides_fit h → NoneBelow f 4
    below₄ e = more 3 below₃ no
      where
        no : Cause f 3 → ⊥
        no (side h' s' k' o) =
            ⊎_elim (inside-outside (inside 1 40 h.width (and_left (side_fits h.width) _ e)))
            (inside-outside (inside 1 40 h.height (and_right (side_fits h.width) _ e)))
            (only (λ x y. Outside 1 40 x.width ⊎ Outside 1 40 x.height) k' o)

    below₅ : sides_fit h → largest_fits h.largest ≡ true → NoneBelow f 5
    below₅ e g = more 4 (below₄ e) no
      where
        no : Cause f 4 → ⊥
        no (largest h' s' k' o) = inside-outside (inside 1 255 h.largest g) (only (λ x y. Outside 1 255 x.largest) k' o)

    below₆ : sides_fit h → largest_fits h.largest ≡ true → length s ≡ h.width * h.height → NoneBelow f 6
    below₆ e g n = more 5 (below₅ e g) no
      where
        no : Cause f 5 → ⊥
        no (count h' s' k' o) = only (λ x y. length y ≡ x.width * x.height → ⊥) k' o n

    below₇ : sides_fit h → largest_fits h.largest ≡ true → length s ≡ h.width * h.height → pixels_fit h s → NoneBelow f 7
    below₇ e g n z = more 6 (below₆ e g n) no
      where
        no : Cause f 6 → ⊥
        no (above h' s' x k' o) =
            let a = only (λ u y. Above u y x) k' o in
            omega (arith, a.above, leb-true (get_or s x 0) h.largest (leading-below (at_most h.largest) s x (rw z a.within)))

-- of an answer's number: its cause holds, no earlier one does, and with 0 none at all
record Summary (f : List ℕ) (n : ℕ) : Type 0 where
  cause : 1 ≤ n → Cause f n
  first : NoneBelow f n
  clean : n ≡ 0 → (j : ℕ) → Cause f j → ⊥

refusal : (f : List ℕ) (n : ℕ) → 1 ≤ n → Cause f n → NoneBelow f n → Summary f n
refusal f n some c b = record { cause = λ _. c; first = b; clean = λ e. absurd (omega arith) }

summary : (f : List ℕ) (o : Result Header Refusal) → Verdict f o → Summary f (outcome_number o)
summary f o (not-p5 e) = refusal f 1 (omega arith) (other (λ t b. false≢true (sym e ∙ ap begins_p5 b))) (below₁ f)
summary f o (stopped e g) =
    refusal f 2 (omega arith)
    (unheaded (λ h s k. let z : ◌≡◌ {A = ℕ} 0 1 = cc (headed-walk f h s k) in omega arith))
    (below₂ f e)
summary f o (sides {h} {s} k e) =
    refusal f 3 (omega arith)
    (side h s k
    (⊎_elim (λ x. inl (outside 1 40 h.width x)) (λ x. inr (outside 1 40 h.height x))
    (and-fails (side_fits h.width) (side_fits h.height) e)))
    (below₃ f k)
summary f o (verdicts.largest {h} {s} k e g) = refusal f 4 (omega arith) (largest h s k (outside 1 255 h.largest g)) (below₄ f k e)
summary f o (verdicts.count {h} {s} k e g n) = refusal f 5 (omega arith) (count h s k n) (below₅ f k e g)
summary f o (verdicts.above {h} {s} k e g n x) =
    refusal f 6 (omega arith) (above h s _ k (exceeds h s x))
    (below₆ f k e g n)
summary f o (fits k e g n x) =
    record {
      cause = λ z. absurd (omega arith);
      first = λ j l. absurd (omega arith);
      clean = λ _ j c. below₇ f k e g n x j (omega (arith, (range f c).1)) c;
    }

-- a refusal number is answered if and only if its cause holds and no earlier one does
pub refused : (f : List ℕ) (n : ℕ) → 1 ≤ n → (outcome_number (read_file f) ≡ n) ↔ (Cause f n × NoneBelow f n)
refused f n some = (λ e. subst Both e (λ l. (s.cause l, s.first)) some, equal)
  where
    s : Summary f (outcome_number (read_file f))
    s = summary f (read_file f) (verdict f)

    Both : ℕ → Type 0
    Both m = 1 ≤ m → Cause f m × NoneBelow f m

    equal : Cause f n × NoneBelow f n → outcome_number (read_file f) ≡ n
    equal c =
        let m = outcome_number (read_file f) in
        let here : m ≡ 0 → ⊥ = λ e. s.clean e n c.0 in
        let less : m < n → ⊥ = λ l. c.1 m l (s.cause (omega arith)) in
        let more : n < m → ⊥ = λ l. s.first n l c.0 in
        omega arith

-- and 0 if and only if no cause holds
pub unrefused : (f : List ℕ) → (outcome_number (read_file f) ≡ 0) ↔ ((j : ℕ) → Cause f j → ⊥)
unrefused f = (s.clean, λ none. let here : 1 ≤ outcome_number (read_file f) → ⊥ = λ l. none _ (s.cause l) in omega arith)
  where
    s : Summary f (outcome_number (read_file f))
    s = summary f (read_file f) (verdict f)
