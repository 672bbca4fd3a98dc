-- Laws of `leading`, the number of bytes at the front that pass a test.
use mathlib.Core.Path.{◌≡◌, refl, sym, ap, ◌∙◌}
use mathlib.Core.Bool.{Bool, true, false, false≢true}
use mathlib.Core.Logic.{⊎_elim}
use mathlib.Core.List.{List, [], ◌∷◌, ◌++◌}
use Prim.Native.Nat.{ℕ, zero, suc, ◌+◌, ◌≤◌, ◌<◌, zero-le, suc-le-suc}
use native.Mathlib.Nat.{le_of_suc-le-suc, eq-or-lt_of_le, zero-add, suc-add}
use native.Mathlib.Omega.{arith}
use lib.ListN.{length, get_or, take, drop, length-drop}
use lib.Seq.{drop-append-le}
use Rattle.std.specs.List.{prefix_len}
use Rattle.lists.specs.Lists.{all}
use Rattle.p5.specs.Headers.{leading}
use Rattle.lists.proofs.Tests.{on-pick, on_test, and_both, and_left, and_right}

module _ (t : ℕ → Bool) where
  pub leading_le : (s : List ℕ) → leading t s ≤ length s
  leading_le [] = zero-le
  leading_le (b ∷ s) = on-pick (λ (n : ℕ). n ≤ suc (length s)) (t b) (λ e. suc-le-suc (leading_le s)) (λ e. zero-le)

  -- the next byte does not
  pub leading-next : (s : List ℕ) → leading t s < length s → t (get_or s (leading t s) 0) ≡ false
  leading-next [] = λ h. absurd (omega arith)
  leading-next (b ∷ s) =
      on-pick (λ (n : ℕ). n < suc (length s) → t (get_or (b ∷ s) n 0) ≡ false) (t b)
      (λ e h. leading-next s (le_of_suc-le-suc h))
      (λ e h. e)

  -- each byte counted passes
  pub leading-below : (s : List ℕ) (i : ℕ) → i < leading t s → t (get_or s i 0) ≡ true
  leading-below [] i h = absurd (omega arith)
  leading-below (b ∷ s) zero h = on-pick (λ (n : ℕ). 0 < n → t b ≡ true) (t b) (λ e _. e) (λ e z. absurd (omega arith)) h
  leading-below (b ∷ s) (suc i) h =
      leading-below s i (on-pick (λ (n : ℕ). suc i < n → i < leading t s) (t b) (λ e l. le_of_suc-le-suc l) (λ e l. absurd (omega arith)) h)

  -- the bytes counted pass together
  pub leading-take : (s : List ℕ) (n : ℕ) → n ≤ leading t s → all t (take n s) ≡ true
  leading-take s zero h = refl
  leading-take [] (suc n) h = refl
  leading-take (b ∷ s) (suc n) h =
      let e : t b ≡ true = leading-below (b ∷ s) 0 (omega arith) in
      and_both e (leading-take s n (le_of_suc-le-suc (rw e at h)))

  pub leading-all : (s : List ℕ) → all t (take (leading t s) s) ≡ true
  leading-all s = leading-take s (leading t s) (omega arith)

  -- where every byte passes, all are counted
  pub leading-full : (s : List ℕ) → ((i : ℕ) → i < length s → t (get_or s i 0) ≡ true) → leading t s ≡ length s
  leading-full s h =
      ⊎_elim (λ e. e) (λ l. absurd (false≢true (sym (leading-next s l) ∙ h _ l))) (eq-or-lt_of_le (leading_le s))

  -- bytes that pass, then others
  pub leading-append : (u s : List ℕ) → all t u ≡ true → leading t (u ++ s) ≡ length u + leading t s
  leading-append [] s h = sym (zero-add _)
  leading-append (b ∷ u) s h =
      rw (and_left (t b) _ h) (ap suc (leading-append u s (and_right (t b) _ h)) ∙ sym (suc-add _ _))

  -- the count depends on no byte after the first that does not pass
  cut : (x y u : List ℕ) → leading t (x ++ y) < length x → leading t (x ++ u) ≡ leading t (x ++ y)
  cut [] y u h = absurd (omega arith)
  cut (b ∷ x) y u h = by (t b) refl (cut x y u)
    where
      by : (c : Bool) → t b ≡ c → (leading t (x ++ y) < length x → leading t (x ++ u) ≡ leading t (x ++ y))
          → leading t (b ∷ x ++ u) ≡ leading t (b ∷ x ++ y)
      by true e ih = rw e (ap suc (ih (le_of_suc-le-suc (rw e at h))))
      by false e ih = rw e

  pub leading-cut : (x y u : List ℕ) (i : ℕ) → i + leading t (drop i (x ++ y)) < length x → leading t (drop i (x ++ u)) ≡ leading t (drop i (x ++ y))
  leading-cut x y u i h =
      let within : i ≤ length x = omega arith in
      let short : leading t (drop i (x ++ y)) < length (drop i x) = omega (arith, length-drop i x) in
      rw (drop-append-le i x u, drop-append-le i x y) (cut (drop i x) y u (rw (drop-append-le i x y) at short))

  -- nor do its first bytes
  many : (x y u : List ℕ) (n : ℕ) → n ≤ length x → n ≤ leading t (x ++ y) → n ≤ leading t (x ++ u)
  many x y u zero h k = zero-le
  many [] y u (suc n) h k = absurd (omega arith)
  many (b ∷ x) y u (suc n) h k =
      let e : t b ≡ true = leading-below (b ∷ x ++ y) 0 (omega arith) in
      rw e (suc-le-suc (many x y u n (le_of_suc-le-suc h) (le_of_suc-le-suc (rw e at k))))

  pub leading-many : (x y u : List ℕ) (i n : ℕ) → i + n ≤ length x → n ≤ leading t (drop i (x ++ y)) → n ≤ leading t (drop i (x ++ u))
  leading-many x y u i n h k =
      let within : i ≤ length x = omega arith in
      rw (drop-append-le i x u) (many (drop i x) y u n (omega (arith, length-drop i x)) (rw (drop-append-le i x y) at k))

  -- the first n bytes tell the count where it is below n, and else that it is n at least
  pub leading-front :
      (s : List ℕ) (n : ℕ) → (leading t (take n s) < n → leading t (take n s) ≡ leading t s) × (n ≤ leading t (take n s) → n ≤ leading t s)
  leading-front s zero = (λ h. absurd (omega arith), λ h. zero-le)
  leading-front [] (suc n) = (λ h. refl, λ h. h)
  leading-front (b ∷ s) (suc n) =
      on_test (t b)
      (λ e.
      rw e
      (λ h. ap suc ((leading-front s n).0 (le_of_suc-le-suc h)), λ h. suc-le-suc ((leading-front s n).1 (le_of_suc-le-suc h))))
      (λ e. rw e (λ h. refl, λ h. h))

  -- the library's count
  pub leading-prefix : (s : List ℕ) → leading t s ≡ prefix_len t s
  leading-prefix [] = refl
  leading-prefix (b ∷ s) = on_test (t b) (λ e. rw e (omega (arith, leading-prefix s))) (λ e. rw e)
