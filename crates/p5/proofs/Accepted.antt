-- An accepted file is exactly a file of the shape, and the answer is the shape's header.
use mathlib.Core.Path.{◌≡◌, refl, sym, ap, subst, ◌∙◌}
use mathlib.Core.Bool.{true, ◌&&◌}
use mathlib.Core.Logic.{◌↔◌}
use mathlib.Core.List.{List}
use Prim.Native.Nat.{ℕ}
use native.Mathlib.Omega.{arith}
use borrow.Author.Tests.{leb-true, le-leb, eq-eqb}
use lib.Dec.{leb}
use Rattle.std.specs.Prelude.{Result, Ok}
use Rattle.picture.specs.Pictures.{side_fits}
use Rattle.p5.specs.declared.header.Header.{Header}
use Rattle.refusals.specs.declared.Refusal.{Refusal}
use Rattle.p5.specs.Files.{at_most, on_header, on_walk, read_file, outcome_number, header_of}
use Rattle.p5.specs.Shapes.{Inside, Accepts}
use Rattle.lists.proofs.Tests.{and_both, and_left, and_right}
use Rattle.p5.proofs.Leading.{leading-below, leading-full}
use Rattle.p5.proofs.Answers.{pixels-fit, count_same, read-p5}
use Rattle.p5.proofs.Shape.{headed-begins, headed-walk, headed-rest}
use Rattle.p5.proofs.Verdicts.{Verdict, verdict, not-p5, stopped, sides, largest, count, above, fits}

pub inside : (low high x : ℕ) → leb low x && leb x high ≡ true → Inside low high x
inside low high x e = (leb-true low x (and_left (leb low x) _ e), leb-true x high (and_right (leb low x) _ e))

pub fits-inside : {low high x : ℕ} → Inside low high x → leb low x && leb x high ≡ true
fits-inside i = and_both (le-leb _ _ i.0) (le-leb _ _ i.1)

accepts-of : (f : List ℕ) (h : Header) → Verdict f (Ok h) → Accepts f h
accepts-of f h (fits {s = s} k both large many all) =
    record {
      pixels = s;
      headed = k;
      width = inside 1 40 h.width (and_left (side_fits h.width) _ both);
      height = inside 1 40 h.height (and_right (side_fits h.width) _ both);
      largest = inside 1 255 h.largest large;
      count = many;
      most = λ i l. leb-true _ _ (leading-below (at_most h.largest) s i (rw all l));
    }

accepted-of : (f : List ℕ) (h : Header) → Accepts f h → read_file f ≡ Ok h
accepted-of f h a =
    let s = a.pixels in
    let k = a.headed in
    sym (read-p5 f (headed-begins f h s k))
    ∙ ap (on_walk f) (headed-walk f h s k)
    ∙ ap (on_header h) (headed-rest f h s k)
    ∙ sym (count_same h s (and_both (fits-inside a.width) (fits-inside a.height)) (fits-inside a.largest) (eq-eqb _ _ a.count))
    ∙ sym (pixels-fit h s (leading-full (at_most h.largest) s (λ i l. le-leb _ _ (a.most i l))))

-- a file is accepted with the header h if and only if it is P5, gap, width, gap, height, gap, largest sample, one white space byte
-- and n pixels, with the sides and the largest sample in range and no pixel above the largest sample
pub accepted : (f : List ℕ) (h : Header) → (read_file f ≡ Ok h) ↔ Accepts f h
accepted f h = (λ e. accepts-of f h (subst (Verdict f) e (verdict f)), accepted-of f h)

-- so the number is 0 if and only if the file has the shape of the header that is answered
numbered-0 : (f : List ℕ) {o : Result Header Refusal} → Verdict f o → outcome_number o ≡ 0 → o ≡ Ok (header_of o)
numbered-0 f (not-p5 _) e = absurd (omega arith)
numbered-0 f (stopped _ _) e = absurd (omega arith)
numbered-0 f (sides _ _) e = absurd (omega arith)
numbered-0 f (largest _ _ _) e = absurd (omega arith)
numbered-0 f (count _ _ _ _) e = absurd (omega arith)
numbered-0 f (above _ _ _ _ _) e = absurd (omega arith)
numbered-0 f (fits _ _ _ _ _) e = refl

pub accepted-number : (f : List ℕ) → (outcome_number (read_file f) ≡ 0) ↔ Accepts f (header_of (read_file f))
accepted-number f = (λ e. (accepted f _).0 (numbered-0 f (verdict f) e), λ a. ap outcome_number ((accepted f _).1 a))
