-- The fault of a lent tree after an earlier one.
-- p the picture, r the picture of the raster that the check was handed.
use Rattle.std.proofs.Common.{◌≡◌, ◌∙◌, sym, ap, List, ℕ, true, arith, ◌<◌}
use Rattle.std.specs.Prelude.{not, leb, ◌||◌}
use borrow.Author.Tests.{not-false, leb-false}
use Rattle.lists.proofs.Tests.{or-fails}
use Rattle.picture.specs.Pictures.{Picture, places}
use Rattle.refusals.specs.declared.Refusal.{Refusal}
use Rattle.refusals.specs.Refusals.{number_of}
use Rattle.refusals.proofs.Numbers.{number-some}
use Rattle.faults.specs.PictureFault.{when}
use Rattle.faults.proofs.Faults.{first_some, first-none, when-zero}
use Rattle.board.specs.Trees.{is_tree, tree_fault_of, places_fault_of, checked_fault}

module _ (f : ℕ) (p : Picture) (count : ℕ) (hs fs ss m : List ℕ) where
  -- the earlier fault has been refused
  pub unchecked : (e : Refusal) → number_of e ≡ f → number_of e ≡ checked_fault f p count hs fs ss m
  unfolding checked_fault
  unchecked e n = let some = number-some e in first_some f _ _ n (omega arith)

  module _ (r : Picture) (same : r ≡ p) (z : 0 ≡ f) where
    after : (g : ℕ) → g ≡ when (not (is_tree r count hs fs ss m)) 11 → g ≡ checked_fault f p count hs fs ss m
    unfolding checked_fault
    after g n = n ∙ (ap (λ (q : Picture). when (not (is_tree q count hs fs ss m)) 11) same ∙ sym (first-none f _ (sym z)))

    -- the check refuses the tree
    pub differs : (e : Refusal) → number_of e ≡ when (not (is_tree r count hs fs ss m)) 11 → number_of e ≡ checked_fault f p count hs fs ss m
    differs e n = after (number_of e) n

    -- it does not: the lent lists are the tree
    pub checked : 0 ≡ when (not (is_tree r count hs fs ss m)) 11 → checked_fault f p count hs fs ss m ≡ 0
    checked n = sym (after 0 n)

-- a check that refuses nothing: the lent lists are the tree
pub lent-is : (p : Picture) (count : ℕ) (hs fs ss m : List ℕ) → 0 ≡ when (not (is_tree p count hs fs ss m)) 11 → is_tree p count hs fs ss m ≡ true
lent-is p count hs fs ss m n = not-false _ (when-zero 10 _ (sym n))

-- two places that are not refused are below n
pub inside : (n x y : ℕ) → 0 ≡ when (leb n x || leb n y) 10 → (x < n) × (y < n)
inside n x y e =
    let b = or-fails (leb n x) (leb n y) (when-zero 9 _ (sym e)) in (leb-false n x b.0, leb-false n y b.1)

-- the fault of two places after that of the lengths
module _ (p : Picture) (hs fs ss m q : List ℕ) (x y : ℕ) where
  pub places-first : (e : Refusal) → number_of e ≡ tree_fault_of p hs fs ss m q → number_of e ≡ places_fault_of p hs fs ss m q x y
  unfolding places_fault_of
  places-first e n = let some = number-some e in first_some (tree_fault_of p hs fs ss m q) _ _ n (omega arith)

  pub places-then : (n g : ℕ) → n ≡ places p → 0 ≡ tree_fault_of p hs fs ss m q → g ≡ when (leb n x || leb n y) 10 → g ≡ places_fault_of p hs fs ss m q x y
  unfolding places_fault_of
  places-then n g size z e =
      e ∙ (ap (λ (k : ℕ). when (leb k x || leb k y) 10) size ∙ sym (first-none (tree_fault_of p hs fs ss m q) _ (sym z)))
