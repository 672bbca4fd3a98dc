-- Laws of a run of white space and comments: byte by byte as a loop comes to its end, and the shape that it stands on.
use mathlib.Core.Path.{◌≡◌, refl, sym, ap, subst, ◌∙◌}
use mathlib.Core.Bool.{Bool, true, false, not}
use mathlib.Core.List.{List, [], ◌∷◌, ◌++◌, append_assoc}
use Prim.Native.Nat.{ℕ, suc, ◌+◌, ◌≤◌, ◌<◌, zero-le, suc-le-suc}
use native.Mathlib.Nat.{le_of_suc-le-suc}
use native.Mathlib.Numerals.{add-one}
use native.Mathlib.Omega.{arith}
use borrow.Author.Tests.{eqb-true, ne_eqb, lt-leb, leb-true, not-true}
use lib.Dec.{eqb, leb}
use lib.ListN.{length, get_or, take, drop, length-append, length-drop, drop_of_length-le}
use lib.Seq.{drop-cons, drop-append-le}
use Rattle.lists.specs.Lists.{all}
use Rattle.p5.specs.Headers.{is_white, ends_line, comment_after, is_blank, blank_length, is_digit}
use Rattle.p5.specs.Shapes.{Comment, Blank, none, white, comment}
use Rattle.lists.proofs.Tests.{on-pick, on_test, and_left, and_right, test-false, either}

-- the run from a position on, by the byte there
module _ (f : List ℕ) (i : ℕ) (c : Bool) where
  pub blank-pass : i < length f → is_blank c (get_or f i 0) ≡ true
      → (i + 1) + blank_length (comment_after c (get_or f i 0)) (drop (i + 1) f) ≡ i + blank_length c (drop i f)
  blank-pass h e =
      let one : blank_length c (drop i f) ≡ suc (blank_length (comment_after c (get_or f i 0)) (drop (i + 1) f)) =
      rw (add-one, drop-cons f i 0) (rw e) in
      omega arith

  pub blank-stop : i < length f → is_blank c (get_or f i 0) ≡ false → i ≡ i + blank_length c (drop i f)
  blank-stop h e =
      let zero : blank_length c (drop i f) ≡ 0 = rw (drop-cons f i 0) (rw e) in
      omega arith

  pub blank-past : length f ≤ i → i ≡ i + blank_length c (drop i f)
  blank-past h =
      let zero : blank_length c (drop i f) ≡ 0 = ap (blank_length c) (drop_of_length-le f h) in
      omega arith

pub blank-le : (c : Bool) (s : List ℕ) → blank_length c s ≤ length s
blank-le c [] = zero-le
blank-le c (b ∷ s) =
    on-pick (λ (n : ℕ). n ≤ suc (length s)) (is_blank c b) (λ e. suc-le-suc (blank-le (comment_after c b) s)) (λ e. zero-le)

-- white space is below #, and # below the digits
white-small : (b : ℕ) → is_white b ≡ true → b < 35
white-small b e =
    either (eqb b 9) _ (λ x. omega (arith, eqb-true b 9 x))
    (either (eqb b 10) _ (λ x. omega (arith, eqb-true b 10 x))
    (either (eqb b 13) _ (λ x. omega (arith, eqb-true b 13 x)) (λ x. omega (arith, eqb-true b 32 x))))
    e

pub white-digit : (b : ℕ) → is_white b ≡ true → is_digit b ≡ false
white-digit b e = rw (lt-leb 48 b (omega (arith, white-small b e)))

white-hash : (b : ℕ) → is_white b ≡ true → eqb b 35 ≡ false
white-hash b e = ne_eqb b 35 (λ z. omega (arith, white-small b e))

-- a digit ends a run of white space and comments
pub digit-blank : (b : ℕ) → is_digit b ≡ true → is_blank false b ≡ false
digit-blank b e =
    let l : 48 ≤ b = leb-true 48 b (and_left (leb 48 b) _ e) in
    let w : is_white b ≡ false = test-false (is_white b) (λ x. omega (arith, white-small b x)) in
    rw (w, ne_eqb b 35 (λ z. omega arith))

-- the run by its first byte: outside a comment, and inside one
module _ (b : ℕ) (s : List ℕ) where
  run-white : is_white b ≡ true → blank_length false (b ∷ s) ≡ suc (blank_length false s)
  run-white e = rw (e, white-hash b e)

  run-hash : eqb b 35 ≡ true → blank_length false (b ∷ s) ≡ suc (blank_length true s)
  run-hash e = rw (eqb-true b 35 e)

  run-other : is_white b ≡ false → eqb b 35 ≡ false → blank_length false (b ∷ s) ≡ 0
  run-other e g = rw (e, g)

  run_inside : ends_line b ≡ false → blank_length true (b ∷ s) ≡ suc (blank_length true s)
  run_inside e = rw e

  run_ends : ends_line b ≡ true → blank_length true (b ∷ s) ≡ suc (blank_length false s)
  run_ends e = rw e

-- the rest of a comment that runs, and white space and comments after it
pub record Rest (u : List ℕ) : Type 0 where
  pub text : List ℕ
  pub last : ℕ
  pub after : List ℕ
  pub bytes : u ≡ text ++ last ∷ after
  pub inside : all (λ b. not (ends_line b)) text ≡ true
  pub ends : ends_line last ≡ true
  pub blank : Blank after

-- # before the rest of a comment
hash-rest : {u : List ℕ} → Rest u → Blank (35 ∷ u)
hash-rest {u} r =
    let k : Comment (35 ∷ r.text ++ r.last ∷ []) =
    record { text = r.text; last = r.last; bytes = refl; inside = r.inside; ends = r.ends } in
    subst Blank (ap (λ (l : List ℕ). 35 ∷ l) (append_assoc r.text (r.last ∷ []) r.after ∙ sym r.bytes))
    (comment k r.blank)

-- one byte more of the comment's text
text-rest : {u : List ℕ} (b : ℕ) → ends_line b ≡ false → Rest u → Rest (b ∷ u)
text-rest b e r =
    record {
      text = b ∷ r.text;
      last = r.last;
      after = r.after;
      bytes = ap (λ (l : List ℕ). b ∷ l) r.bytes;
      inside = rw e r.inside;
      ends = r.ends;
      blank = r.blank;
    }

-- the byte that ends the comment
last_rest : {u : List ℕ} (b : ℕ) → ends_line b ≡ true → Blank u → Rest (b ∷ u)
last_rest {u} b e k = record { text = []; last = b; after = u; bytes = refl; inside = refl; ends = e; blank = k }

-- the rest of a run, by whether a comment runs
abbrev pub Part : Bool → List ℕ → Type 0
Part true u = Rest u
Part false u = Blank u

-- the bytes that a run counts have this shape, completed by more bytes where the list ends in a comment
pub record Counted (c : Bool) (s : List ℕ) : Type 0 where
  pub more : List ℕ
  pub part : Part c (take (blank_length c s) s ++ more)
  pub whole : blank_length c s < length s → more ≡ []

-- one byte more at the front
longer : {c d : Bool} (b : ℕ) (s : List ℕ) (r : Counted d s) → blank_length c (b ∷ s) ≡ suc (blank_length d s)
    → Part c (b ∷ take (blank_length d s) s ++ r.more) → Counted c (b ∷ s)
longer {c} {d} b s r e l =
    record {
      more = r.more;
      part = subst (λ (n : ℕ). Part c (take n (b ∷ s) ++ r.more)) (sym e) l;
      whole = λ h. r.whole (omega arith);
    }

pub counted : (c : Bool) (s : List ℕ) → Counted c s
counted false [] = record { more = []; part = none; whole = λ h. refl }
counted true [] = record { more = 10 ∷ []; part = last_rest 10 refl none; whole = λ h. absurd (omega arith) }
counted false (b ∷ s) = outside (counted false s) (counted true s)
  where
    hash : (y : Counted true s) → eqb b 35 ≡ true → Blank (b ∷ take (blank_length true s) s ++ y.more)
    hash y g = rw (eqb-true b 35 g) (hash-rest y.part)

    stop : is_white b ≡ false → eqb b 35 ≡ false → Counted false (b ∷ s)
    stop e g = record { more = []; part = rw (run-other b s e g) none; whole = λ h. refl }

    outside : Counted false s → Counted true s → Counted false (b ∷ s)
    outside x y =
        on_test (is_white b) (λ e. longer b s x (run-white b s e) (white e x.part))
        (λ e. on_test (eqb b 35) (λ g. longer b s y (run-hash b s g) (hash y g)) (stop e))
counted true (b ∷ s) = inside (counted false s) (counted true s)
  where
    inside : Counted false s → Counted true s → Counted true (b ∷ s)
    inside x y =
        on_test (ends_line b) (λ e. longer b s x (run_ends b s e) (last_rest b e x.part))
        (λ e. longer b s y (run_inside b s e) (text-rest b e y.part))

-- a comment's text and its last byte are counted, and the run goes on after them
comment-rest : (u : List ℕ) (b : ℕ) (t : List ℕ) → all (λ b. not (ends_line b)) u ≡ true → ends_line b ≡ true
    → blank_length true (u ++ b ∷ t) ≡ length u + suc (blank_length false t)
comment-rest [] b t a e = run_ends b t e ∙ omega arith
comment-rest (d ∷ u) b t a e =
    let ih = comment-rest u b t (and_right (not (ends_line d)) _ a) e in
    run_inside d (u ++ b ∷ t) (not-true (ends_line d) (and_left (not (ends_line d)) _ a)) ∙ omega arith

comment-run : {c : List ℕ} (t : List ℕ) → Comment c → blank_length false (c ++ t) ≡ length c + blank_length false t
comment-run {c} t k =
    let u = k.text in
    let b = k.last in
    let split : c ++ t ≡ 35 ∷ u ++ b ∷ t = ap (λ (l : List ℕ). l ++ t) k.bytes ∙ ap (λ (l : List ℕ). 35 ∷ l) (append_assoc u (b ∷ []) t) in
    let long : length c ≡ suc (length u + 1) = ap length k.bytes ∙ ap suc (length-append u (b ∷ [])) in
    ap (blank_length false) split ∙ ap suc (comment-rest u b t k.inside k.ends) ∙ omega arith

-- white space and comments are counted whole
pub blank-run : {g : List ℕ} (t : List ℕ) → Blank g → blank_length false (g ++ t) ≡ length g + blank_length false t
blank-run t none = omega arith
blank-run t (white {b} {s} e k) = run-white b (s ++ t) e ∙ omega (arith, blank-run t k)
blank-run t (comment {c} {s} k r) =
    ap (blank_length false) (append_assoc c s t) ∙ comment-run (s ++ t) k ∙ omega (arith, blank-run t r, length-append c s)

-- the count depends on no byte after the first that it leaves out
cut : (c : Bool) (x y u : List ℕ) → blank_length c (x ++ y) < length x → blank_length c (x ++ u) ≡ blank_length c (x ++ y)
cut c [] y u h = absurd (omega arith)
cut c (b ∷ x) y u h = by (is_blank c b) refl (cut (comment_after c b) x y u)
  where
    by : (t : Bool) → is_blank c b ≡ t
        → (blank_length (comment_after c b) (x ++ y) < length x → blank_length (comment_after c b) (x ++ u) ≡ blank_length (comment_after c b) (x ++ y))
        → blank_length c (b ∷ x ++ u) ≡ blank_length c (b ∷ x ++ y)
    by true e ih = rw e (ap suc (ih (le_of_suc-le-suc (rw e at h))))
    by false e ih = rw e

pub blank_cut : (x y u : List ℕ) (i : ℕ) → i ≤ length x → i + blank_length false (drop i (x ++ y)) < length x
    → blank_length false (drop i (x ++ u)) ≡ blank_length false (drop i (x ++ y))
blank_cut x y u i within h =
    let short : blank_length false (drop i (x ++ y)) < length (drop i x) = omega (arith, length-drop i x) in
    rw (drop-append-le i x u, drop-append-le i x y) (cut false (drop i x) y u (rw (drop-append-le i x y) at short))
