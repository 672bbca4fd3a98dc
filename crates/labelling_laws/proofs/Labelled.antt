-- The scan of a labelling: the places whose component begins before x have its number, the others none.
use mathlib.Core.Path.{◌≡◌, refl, sym, ap, ◌∙◌}
use mathlib.Core.Bool.{true, false}
use mathlib.Core.Logic.{⊎_elim, ◌≢◌, by_cases}
use mathlib.Core.List.{List}
use Prim.Native.Nat.{ℕ, suc, ◌+◌, ◌≤◌, ◌<◌}
use native.Mathlib.Decide.{dec_lt}
use native.Mathlib.Omega.{arith}
use lib.ListN.{length, get_or, replicate, length-replicate, get_or-replicate, get_or-eq_default}
use lib.Seq.{ext_get_or}
use Rattle.lists.specs.Lists.{tally, range}
use Rattle.picture.specs.Pictures.{Picture, places}
use Rattle.picture.specs.Components.{in_section, components}
use Rattle.picture.specs.Labels.{labels}
use Rattle.lists.proofs.Tests.{clash, test-false}
use Rattle.topology.proofs.Connected.{start, conn-target}
use Rattle.topology.proofs.Adjacency.{At, Joined, section-at, at-section}
use Rattle.topology.proofs.Reached.{first_at, first-least, first-same, first-at, same_first}
use Rattle.topology.proofs.Parts.{is_first, first-is, is-first, not_first}
use Rattle.topology.proofs.ComponentNumbers.{number_at, at-dec, number-some, number-less, length-labels, labels_at, labels-none, count-components}
use Rattle.labelling_laws.proofs.Flood.{Flooded}
use Rattle.lists.proofs.Positions.{tally-next-in, tally-next-out, tally-bound}

-- at the place x, with c components so far
pub record Labelled (p : Picture) (k x c : ℕ) (l : List ℕ) : Type 0 where
  pub count : c ≡ tally (is_first p k) (range 0 x)
  pub size : length l ≡ places p
  pub done : (y : ℕ) → At p k y → first_at p k y < x → get_or l y 0 ≡ number_at p k y
  pub rest : (y : ℕ) → (At p k y → x ≤ first_at p k y) → get_or l y 0 ≡ 0

module _ (p : Picture) (k : ℕ) where
  pub labelled-start : Labelled p k 0 0 (replicate (places p) 0)
  labelled-start =
      record {
        count = refl;
        size = length-replicate (places p) 0;
        done = λ y s h. absurd (omega arith);
        rest =
            λ y h.
            by_cases (dec_lt y (places p))
            (λ b. get_or-replicate (places p) y 0 0 b)
            (λ b. let e = length-replicate {A = ℕ} (places p) 0 in get_or-eq_default (replicate (places p) 0) 0 (omega arith));
      }

  module _ (x c : ℕ) (l : List ℕ) (b : x < places p) (s : Labelled p k x c l) where
    pub count_most : c ≤ x
    count_most = let q = s.count in let r = tally-bound (is_first p k) x in omega arith

    pub label-most : (y : ℕ) → get_or l y 0 ≤ c
    label-most y =
        let q = s.count in
        ⊎_elim
        (λ a.
        by_cases (dec_lt (first_at p k y) x)
        (λ h. let r = s.done y a h in let m = number-less p k y x a h in omega arith)
        (λ h. let r = s.rest y (λ a. omega arith) in omega arith))
        (λ a. let r = s.rest y (λ d. absurd (a d)) in omega arith)
        (at-dec p k y)

    -- a place outside the section, or with a label, begins no component
    pub outside-first : in_section p k x ≡ false → is_first p k x ≡ false
    outside-first e = test-false (is_first p k x) (λ f. clash (at-section p k x (first-is p k x b f).0) e)

    pub labelled-first : get_or l x 0 ≢ 0 → is_first p k x ≡ false
    labelled-first d =
        test-false (is_first p k x) (λ f. let (a, e) = first-is p k x b f in d (s.rest x (λ a. omega arith)))

    -- a place of the section without a label begins one
    pub unlabelled-first : in_section p k x ≡ true → get_or l x 0 ≡ 0 → is_first p k x ≡ true
    unlabelled-first e z =
        let a = section-at p k x b e in
        let m = first-least p k (start a) in
        is-first p k x a
        (by_cases (dec_lt (first_at p k x) x)
        (λ h. absurd (let q = s.done x a h in let r = number-some p k x in omega arith))
        (λ h. omega arith))

    pub labelled-pass : is_first p k x ≡ false → Labelled p k (x + 1) c l
    labelled-pass f =
        record {
          count = s.count ∙ (sym (tally-next-out (is_first p k) x f) ∙ ap (λ (z : ℕ). tally (is_first p k) (range 0 z)) next);
          size = s.size;
          done = λ y a h. let d = not_first p k x y a f in s.done y a (omega arith);
          rest = λ y h. s.rest y (λ a. let q = h a in omega arith);
        }
      where
        next : suc x ≡ x + 1
        next = omega arith

    module _ (f : is_first p k x ≡ true) where
      -- the component of x has no labels, and no label is the next number
      pub labelled-fresh : (y : ℕ) → Joined p k x y → get_or l y 0 ≡ 0
      labelled-fresh y j =
          let (a, e) = first-is p k x b f in
          let q = first-same p k j in
          s.rest y (λ d. omega arith)

      pub labelled-new : (y : ℕ) → get_or l y 0 ≢ c + 1
      labelled-new y e = let q = label-most y in absurd (omega arith)

      pub labelled-flood : (m : List ℕ) → length m ≡ places p → Flooded p k x (c + 1) l m → Labelled p k (x + 1) (c + 1) m
      unfolding number_at
      labelled-flood m size w =
          record {
            count =
                let q = s.count in
                let r = tally-next-in (is_first p k) x f in
                let n = ap (λ (z : ℕ). tally (is_first p k) (range 0 z)) next in
                omega arith;
            size = size;
            done = done;
            rest = rest;
          }
        where
          next : suc x ≡ x + 1
          next = omega arith

          first : At p k x × (first_at p k x ≡ x)
          first = first-is p k x b f

          number : (y : ℕ) → first_at p k y ≡ x → c + 1 ≡ number_at p k y
          number y e =
              let q = s.count in
              let r = ap (λ (z : ℕ). tally (is_first p k) (range 0 z)) e in
              omega arith

          done : (y : ℕ) → At p k y → first_at p k y < x + 1 → get_or m y 0 ≡ number_at p k y
          done y a h =
              by_cases (dec_lt (first_at p k y) x)
              (λ g.
              w.old y (λ j. let q = first-same p k j in let r = first.1 in omega arith) ∙ s.done y a g)
              (λ g.
              let e : first_at p k y ≡ x = omega arith in
              w.new y (same_first p k x y first.0 a (first.1 ∙ sym e)) ∙ number y e)

          rest : (y : ℕ) → (At p k y → x + 1 ≤ first_at p k y) → get_or m y 0 ≡ 0
          rest y h =
              w.old y
              (λ j. let q = first-same p k j in let r = first.1 in let g = h (conn-target j) in omega arith) ∙
              s.rest y (λ a. let q = h a in omega arith)

  pub labelled-end : (c : ℕ) (l : List ℕ) → Labelled p k (places p) c l → (l ≡ labels p k) × (c ≡ length (components p k))
  labelled-end c l s = (
    ext_get_or 0 l (labels p k) (s.size ∙ sym (length-labels p k))
        (λ y b.
        let q = s.size in
        let h : y < places p = omega arith in
        ⊎_elim
        (λ a. s.done y a (first-at p k y a).within ∙ sym (labels_at p k y a))
        (λ a. s.rest y (λ d. absurd (a d)) ∙ sym (labels-none p k y h a))
        (at-dec p k y)),
    s.count ∙ sym (count-components p k),
  )
