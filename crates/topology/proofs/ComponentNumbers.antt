-- The labels of a section: a place has the number of its component's first place among the first places.
use mathlib.Core.Path.{◌≡◌, sym, ap, subst, ◌∙◌}
use mathlib.Core.Bool.{true}
use mathlib.Core.Logic.{◌⊎◌, inr, by_cases}
use mathlib.Core.List.{List}
use Prim.Native.Nat.{ℕ, suc, ◌+◌, ◌≤◌, ◌<◌}
use native.Mathlib.Decide.{dec_lt}
use native.Mathlib.Omega.{arith}
use lib.ListN.{length, get_or, length-map}
use Rattle.lists.specs.Lists.{tally, select, range, is_in}
use Rattle.picture.specs.Pictures.{Picture, places}
use Rattle.picture.specs.Components.{component_at, components}
use Rattle.picture.specs.Labels.{label_from, labels}
use Rattle.lists.proofs.Tests.{test-false}
use Rattle.lists.proofs.Lists.{length-select, length-range, get_or-map-range}
use Rattle.topology.proofs.Connected.{conn-target}
use Rattle.topology.proofs.Keeping.{sec-dec}
use Rattle.topology.proofs.Adjacency.{At, Joined, joined-sym}
use Rattle.topology.proofs.Reached.{first_at, in-joined, joined_in, first-joined, first-same, first-at, same_first}
use Rattle.topology.proofs.Parts.{is_first, first-is, first-true, components-are, components-mem}
use Rattle.lists.proofs.Positions.{tally-rises, tally-inject, index-only, index-none}

-- the number of the component that holds a place of the section
unfoldable pub number_at : Picture → ℕ → ℕ → ℕ
number_at p k y = suc (tally (is_first p k) (range 0 (first_at p k y)))

pub at-dec : (p : Picture) (k y : ℕ) → At p k y ⊎ (At p k y → ⊥)
at-dec p k y = by_cases (dec_lt y (places p)) (λ h. sec-dec (places p) _ k y h) (λ h. inr (λ s. h s.within))

module _ (p : Picture) (k : ℕ) where
  pub number-some : (y : ℕ) → 1 ≤ number_at p k y
  unfolding number_at
  number-some y = omega arith

  -- a component whose first place is earlier has a smaller number
  pub number-less : (y x : ℕ) → At p k y → first_at p k y < x → number_at p k y ≤ tally (is_first p k) (range 0 x)
  unfolding number_at
  number-less y x s h = tally-rises (is_first p k) (first_at p k y) x h (first-true p k y s)

  pub number_same : {y z : ℕ} → Joined p k y z → number_at p k y ≡ number_at p k z
  unfolding number_at
  number_same c = ap (λ (x : ℕ). suc (tally (is_first p k) (range 0 x))) (first-same p k c)

  pub same_number : (y z : ℕ) → At p k y → At p k z → number_at p k y ≡ number_at p k z → Joined p k y z
  unfolding number_at
  same_number y z s t e =
      same_first p k y z s t
      (tally-inject (is_first p k) (first_at p k y) (first_at p k z) (first-true p k y s) (first-true p k z t) (omega arith))

  -- the label that the definition gives
  label_at : (y : ℕ) → At p k y → label_from 0 y (components p k) ≡ number_at p k y
  unfolding number_at
  label_at y s =
      ap (label_from 0 y) (components-are p k) ∙
      (index-only (component_at p k) (is_in y) (is_first p k) 0 1 (places p) (first_at p k y) (first-at p k y s).within
      (joined_in p k (joined-sym p k (first-joined p k y s)))
      (first-true p k y s)
      (λ x b f g. let (sx, e) = first-is p k x b f in sym e ∙ first-same p k (in-joined p k x y sx g)) ∙
      omega arith)

  label-none : (y : ℕ) → (At p k y → ⊥) → label_from 0 y (components p k) ≡ 0
  label-none y h =
      index-none (is_in y) 0 1 (components p k)
      (λ c m.
      let (x, s, e) = components-mem p k m in
      test-false (is_in y c)
      (λ g. h (target (in-joined p k x y s (subst (λ (d : List ℕ). is_in y d ≡ true) (sym e) g)))))
    where
      target : {x : ℕ} → Joined p k x y → At p k y
      target c = conn-target c

  pub length-labels : length (labels p k) ≡ places p
  unfolding labels
  length-labels = length-map (range 0 (places p)) (λ x. label_from 0 x (components p k)) ∙ length-range 0 (places p)

  labels-are : (y : ℕ) → y < places p → get_or (labels p k) y 0 ≡ label_from 0 y (components p k)
  unfolding labels
  labels-are y b =
      let e : 0 + y ≡ y = omega arith in
      get_or-map-range (λ x. label_from 0 x (components p k)) 0 0 (places p) y b ∙ ap (λ x. label_from 0 x (components p k)) e

  pub labels_at : (y : ℕ) → At p k y → get_or (labels p k) y 0 ≡ number_at p k y
  labels_at y s = labels-are y s.within ∙ label_at y s

  pub labels-none : (y : ℕ) → y < places p → (At p k y → ⊥) → get_or (labels p k) y 0 ≡ 0
  labels-none y b h = labels-are y b ∙ label-none y h

  pub count-components : length (components p k) ≡ tally (is_first p k) (range 0 (places p))
  count-components =
      ap length (components-are p k) ∙
      (length-map (select (is_first p k) (range 0 (places p))) (component_at p k) ∙
      length-select (is_first p k) (range 0 (places p)))
