-- Laws of the gap before a number: a run of white space and comments whose first byte is white space.
use mathlib.Core.Path.{◌≡◌, sym, ap, subst, ◌∙◌}
use mathlib.Core.Bool.{true, false, false≢true}
use mathlib.Core.List.{List, [], ◌∷◌, ◌++◌, append-nil}
use Prim.Native.Nat.{ℕ, ◌+◌, ◌≤◌, ◌<◌}
use native.Mathlib.Nat.{add-zero}
use native.Mathlib.Omega.{arith}
use borrow.Author.Tests.{eq-eqb, ne_eqb}
use lib.ListN.{length, get_or, take, drop, take-append-drop, length-drop, get_or-append}
use lib.Seq.{drop-drop, get_or-drop, get_or-take, length-take-le}
use Rattle.std.specs.Prelude.{Err}
use Rattle.p5.specs.Headers.{is_white, blank_length, is_digit, gap_end, digits_at, number_at}
use Rattle.p5.specs.Shapes.{none, white, Gap}
use Rattle.lists.proofs.Tests.{on_test}
use Rattle.p5.proofs.Blanks.{blank-le, blank-run, blank_cut, counted, digit-blank}

-- the two ways of a gap: it begins with white space, or there is none
module _ (f : List ℕ) (p : ℕ) where
  pub gap-white : is_white (get_or f p 0) ≡ true → p + blank_length false (drop p f) ≡ gap_end f p
  unfolding gap_end
  gap-white e = rw e

  pub gap-none : is_white (get_or f p 0) ≡ false → p ≡ gap_end f p
  unfolding gap_end
  gap-none e = rw e

  -- the gap ends at or after its start
  pub gap_from : p ≤ gap_end f p
  gap_from = on_test (is_white (get_or f p 0)) (λ e. omega (arith, gap-white e)) (λ e. omega (arith, gap-none e))

  -- where there is a gap, its first byte is white space
  gap-begins : (gap_end f p ≡ p → ⊥) → is_white (get_or f p 0) ≡ true
  gap-begins found = on_test (is_white (get_or f p 0)) (λ e. e) (λ e. absurd (found (sym (gap-none e))))

-- one byte of white space is a gap
pub gap-one : {b : ℕ} → is_white b ≡ true → Gap (b ∷ [])
gap-one e = record { begins = e; blank = white e none }

pub first_byte : (f : List ℕ) (p : ℕ) → get_or (drop p f) 0 0 ≡ get_or f p 0
first_byte f p = get_or-drop p f 0 0 ∙ ap (λ (i : ℕ). get_or f i 0) (add-zero p)

-- where a gap begins, it is what stands there, completed by more bytes where the file ends in a comment
pub record GapOpen (f : List ℕ) (p : ℕ) : Type 0 where
  pub gap : List ℕ
  pub more : List ℕ
  pub bytes : drop p f ≡ gap ++ drop (gap_end f p) f
  pub is-gap : Gap (gap ++ more)
  pub end : gap_end f p ≡ p + length gap
  pub some : 1 ≤ length gap
  pub whole : gap_end f p < length f → more ≡ []

pub gap-open : (f : List ℕ) (p : ℕ) → (gap_end f p ≡ p → ⊥) → GapOpen f p
gap-open f p found =
    let s = drop p f in
    let n = blank_length false s in
    let r = counted false s in
    let w = gap-begins f p found in
    let ends : gap_end f p ≡ p + n = sym (gap-white f p w) in
    let long : length (take n s) ≡ n = length-take-le n s (blank-le false s) in
    let first : get_or (take n s ++ r.more) 0 0 ≡ get_or f p 0 =
    get_or-append (take n s) r.more 0 0 (omega arith) ∙ get_or-take n s 0 0 (omega arith) ∙ first_byte f p in
    record {
      gap = take n s;
      more = r.more;
      bytes = sym (take-append-drop n s) ∙ ap (λ (l : List ℕ). take n s ++ l) (drop-drop n p f ∙ ap (λ (m : ℕ). drop m f) (sym ends));
      is-gap = record { begins = ap is_white first ∙ w; blank = r.part };
      end = ends ∙ ap (λ (m : ℕ). p + m) (sym long);
      some = omega arith;
      whole = λ l. r.whole (omega (arith, length-drop p f));
    }

-- where there is a gap and the file goes on after it, it is what stands there
pub record GapSplit (f : List ℕ) (p : ℕ) : Type 0 where
  pub gap : List ℕ
  pub bytes : drop p f ≡ gap ++ drop (gap_end f p) f
  pub is-gap : Gap gap
  pub end : gap_end f p ≡ p + length gap

pub gap-split : (f : List ℕ) (p : ℕ) → (gap_end f p ≡ p → ⊥) → gap_end f p < length f → GapSplit f p
gap-split f p found l =
    let o = gap-open f p found in
    record {
      gap = o.gap;
      bytes = o.bytes;
      is-gap = subst Gap (ap (λ (m : List ℕ). o.gap ++ m) (o.whole l) ∙ append-nil o.gap) o.is-gap;
      end = o.end;
    }

-- a gap has a first byte
pub gap-some : {g : List ℕ} → Gap g → 1 ≤ length g
gap-some {g} k = first g k.begins
  where
    first : (l : List ℕ) → is_white (get_or l 0 0) ≡ true → 1 ≤ length l
    first [] e = absurd (false≢true e)
    first (b ∷ l) e = omega arith

-- and that byte is white space, whatever follows the gap
pub gap-first : {g : List ℕ} (s : List ℕ) → Gap g → is_white (get_or (g ++ s) 0 0) ≡ true
gap-first {g} s k = ap is_white (get_or-append g s 0 0 (gap-some k)) ∙ k.begins

-- a gap before a digit is the whole gap
pub gap-join : (f : List ℕ) (p : ℕ) {g : List ℕ} (b : ℕ) (s : List ℕ) → Gap g → drop p f ≡ g ++ b ∷ s → is_digit b ≡ true → gap_end f p ≡ p + length g
gap-join f p {g} b s k e d =
    let first : get_or f p 0 ≡ get_or (g ++ b ∷ s) 0 0 = sym (first_byte f p) ∙ ap (λ (l : List ℕ). get_or l 0 0) e in
    let none : blank_length false (b ∷ s) ≡ 0 = rw (digit-blank b d) in
    let long : blank_length false (drop p f) ≡ length g = ap (blank_length false) e ∙ blank-run (b ∷ s) k.blank ∙ omega arith in
    sym (gap-white f p (ap is_white first ∙ gap-first (b ∷ s) k)) ∙ ap (λ (n : ℕ). p + n) long

-- the gap depends on no byte after its end
pub gap-cut : (x y u : List ℕ) (p : ℕ) → gap_end (x ++ y) p < length x → gap_end (x ++ u) p ≡ gap_end (x ++ y) p
gap-cut x y u p h =
    let within : p < length x = omega (arith, gap_from (x ++ y) p) in
    let byte : (v : List ℕ) → get_or (x ++ v) p 0 ≡ get_or x p 0 = λ v. get_or-append x v 0 p within in
    let same : get_or (x ++ u) p 0 ≡ get_or (x ++ y) p 0 = byte u ∙ sym (byte y) in
    on_test (is_white (get_or (x ++ y) p 0))
    (λ e. sym (gap-white (x ++ u) p (ap is_white same ∙ e))
    ∙ ap (λ (n : ℕ). p + n) (blank_cut x y u p (omega arith) (omega (arith, gap-white (x ++ y) p e)))
    ∙ gap-white (x ++ y) p e)
    (λ e. sym (gap-none (x ++ u) p (ap is_white same ∙ e)) ∙ gap-none (x ++ y) p e)

-- the two ways of a header number
module _ (f : List ℕ) (p : ℕ) where
  pub number-none : gap_end f p ≡ p → Err p ≡ number_at f p
  unfolding number_at
  number-none e = rw (eq-eqb _ _ e)

  pub number-some : (gap_end f p ≡ p → ⊥) → digits_at f (gap_end f p) ≡ number_at f p
  unfolding number_at
  number-some e = rw (ne_eqb _ _ e)
