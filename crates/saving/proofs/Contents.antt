-- Laws of the fault of what is to be saved, and of the call's answers.
use mathlib.Core.Path.{◌≡◌, refl, sym, ap, subst, ◌∙◌}
use mathlib.Core.Bool.{Bool, true, false, ◌&&◌}
use mathlib.Core.Logic.{◌≢◌}
use mathlib.Core.List.{List}
use Prim.Native.Nat.{ℕ, ◌*◌, ◌≤◌}
use native.Mathlib.Omega.{arith}
use borrow.Author.Tests.{eqb-true, eqb-false, eq-eqb, le-ltb, ltb-false}
use lib.Dec.{eqb, ltb}
use lib.ListN.{length}
use Rattle.picture.specs.Pictures.{side_fits}
use Rattle.p5.specs.Files.{largest_fits, at_most}
use Rattle.p5.proofs.Leading.{leading_le}
use Rattle.picture.proofs.Sides.{sides-area}
use Rattle.lists.specs.Lists.{pick, over}
use Rattle.lists.proofs.Tests.{on_test, pick-in, pick_out}
use Rattle.faults.specs.PictureFault.{first_of, when}
use Rattle.faults.proofs.Faults.{first-none, then-first, then-failed, then-none}
use Rattle.saving.specs.ShortFiles.{file_of}
use Rattle.saving.specs.Calls.{first_above, content_fault, saving_fault, Saved, SaveSays}
use Rattle.saving.specs.Steps.{IsSaved, ContentSays}

-- no fault: sides and largest sample in range, as many pixels as places, none above the largest sample
pub record Savable (w h m : ℕ) (xs : List ℕ) : Type 0 where
  pub sides : side_fits w && side_fits h ≡ true
  pub largest : largest_fits m ≡ true
  pub count : length xs ≡ w * h
  pub pixels : first_above m xs ≡ length xs

module _ (w h m : ℕ) (xs : List ℕ) where
  pub fault-sides : side_fits w && side_fits h ≡ false → 3 ≡ content_fault w h m xs
  unfolding content_fault
  fault-sides e = rw e

  module _ (sides : side_fits w && side_fits h ≡ true) where
    pub fault-largest : largest_fits m ≡ false → 4 ≡ content_fault w h m xs
    unfolding content_fault
    fault-largest e = rw (sides, e)

    module _ (largest : largest_fits m ≡ true) where
      pub fault-count : eqb (length xs) (w * h) ≡ false → 8 ≡ content_fault w h m xs
      unfolding content_fault
      fault-count e = rw (sides, largest, e)

      module _ (count : eqb (length xs) (w * h) ≡ true) where
        pub fault-above : eqb (first_above m xs) (length xs) ≡ false → 6 ≡ content_fault w h m xs
        unfolding content_fault
        fault-above e = rw (sides, largest, count, e)

        pub fault-none : eqb (first_above m xs) (length xs) ≡ true → 0 ≡ content_fault w h m xs
        unfolding content_fault
        fault-none e = rw (sides, largest, count, e)

  -- the fault by its cases
  content-cases :
      (P : ℕ → Type 0) → P 3 → P 4 → P 8 →
      (side_fits w && side_fits h ≡ true → length xs ≡ w * h → first_above m xs ≢ length xs → P 6) → (Savable w h m xs → P 0) →
      P (content_fault w h m xs)
  content-cases P three four eight six none =
      on_test (side_fits w && side_fits h)
      (λ a. on_test (largest_fits m)
      (λ b. on_test (eqb (length xs) (w * h))
      (λ c. on_test (eqb (first_above m xs) (length xs))
      (λ d. subst P (fault-none a b c d) (none record { sides = a; largest = b; count = eqb-true _ _ c; pixels = eqb-true _ _ d }))
      (λ d. subst P (fault-above a b c d) (six a (eqb-true _ _ c) (eqb-false _ _ d))))
      (λ c. subst P (fault-count a b c) eight))
      (λ b. subst P (fault-largest a b) four))
      (λ a. subst P (fault-sides a) three)

  -- 6: some pixel is above the largest sample
  pub above-some : content_fault w h m xs ≡ 6 → first_above m xs ≢ length xs
  above-some =
      content-cases (λ (n : ℕ). n ≡ 6 → first_above m xs ≢ length xs)
      (λ e. absurd (omega arith)) (λ e. absurd (omega arith)) (λ e. absurd (omega arith)) (λ _ _ d _. d) (λ _ e. absurd (omega arith))

  -- and they are at most 1,600 pixels
  pub above-few : content_fault w h m xs ≡ 6 → length xs ≤ 1600
  above-few =
      content-cases (λ (n : ℕ). n ≡ 6 → length xs ≤ 1600)
      (λ e. absurd (omega arith)) (λ e. absurd (omega arith)) (λ e. absurd (omega arith))
      (λ a c _ _. omega (arith, sides-area w h a))
      (λ _ e. absurd (omega arith))

module _ {w h m : ℕ} {xs : List ℕ} where
  pub savable : content_fault w h m xs ≡ 0 → Savable w h m xs
  savable =
      content-cases w h m xs (λ (n : ℕ). n ≡ 0 → Savable w h m xs)
      (λ e. absurd (omega arith)) (λ e. absurd (omega arith)) (λ e. absurd (omega arith)) (λ _ _ _ e. absurd (omega arith)) (λ s _. s)

  pub faultless : Savable w h m xs → content_fault w h m xs ≡ 0
  faultless s = sym (fault-none w h m xs s.sides s.largest (eq-eqb _ _ s.count) (eq-eqb _ _ s.pixels))

-- the refusal of what is to be saved, as an answer
module _ (w h m : ℕ) (xs : List ℕ) {r : Saved} where
  pub content-number : {n : ℕ} → n ≡ content_fault w h m xs → n ≢ 6 → IsSaved n 0 0 r → ContentSays w h m xs r
  content-number e d q =
      let place : pick (eqb (content_fault w h m xs) 6) (first_above m xs) 0 ≡ 0 = pick_out _ 6 _ _ (λ z. d (e ∙ z)) in
      rw (place, ← e) q

  pub content-above : {x : ℕ} → 6 ≡ content_fault w h m xs → x ≡ first_above m xs → IsSaved 6 x 0 r → ContentSays w h m xs r
  content-above e g q =
      let place : pick (eqb (content_fault w h m xs) 6) (first_above m xs) 0 ≡ first_above m xs = pick-in _ 6 _ _ (sym e) in
      rw (place, ← e, ← g) q

-- the fault of the output's length is no 6
short-not-above : (t : Bool) → when t 9 ≢ 6
short-not-above true z = omega arith
short-not-above false z = omega arith

-- what is to be saved is tested before the output's length
module _ (w h m : ℕ) (xs : List ℕ) (out : ℕ) where
  saving-is : first_of (content_fault w h m xs) (when (ltb out (length (file_of w h m xs))) 9) ≡ saving_fault w h m xs out
  unfolding saving_fault
  saving-is = refl

  content-first : {n : ℕ} → n ≡ content_fault w h m xs → n ≢ 0 → n ≡ saving_fault w h m xs out
  content-first {n} e d = then-first _ 8 (ltb out (length (file_of w h m xs))) _ saving-is n e d

  pub room-fault : content_fault w h m xs ≡ 0 → saving_fault w h m xs out ≡ when (ltb out (length (file_of w h m xs))) 9
  room-fault e = sym saving-is ∙ first-none (content_fault w h m xs) _ e

  pub room-given : content_fault w h m xs ≡ 0 → length (file_of w h m xs) ≤ out → saving_fault w h m xs out ≡ 0
  room-given e l = sym (then-failed _ 8 _ _ saving-is e (le-ltb out _ l))

  -- no fault: nothing to refuse, and room for the file
  pub saving-none : saving_fault w h m xs out ≡ 0 → (content_fault w h m xs ≡ 0) × (length (file_of w h m xs) ≤ out)
  saving-none z = let n = then-none _ 8 _ _ saving-is z in (n.0, ltb-false out _ n.1)

  -- 6 is a fault of what is to be saved
  pub saving-above : saving_fault w h m xs out ≡ 6 → content_fault w h m xs ≡ 6
  saving-above z =
      on_test (eqb (content_fault w h m xs) 0)
      (λ t. absurd (short-not-above (ltb out (length (file_of w h m xs))) (sym (room-fault (eqb-true _ _ t)) ∙ z)))
      (λ t. content-first refl (eqb-false _ _ t) ∙ z)

-- a call by its fault
module _ {w h m : ℕ} {xs o : List ℕ} where
  -- a fault of what is to be saved
  pub save-refused : {r : Saved} → ContentSays w h m xs r → r.number ≢ 0 → SaveSays w h m xs o o r
  save-refused {r} q d =
      let fault = saving_fault w h m xs (length o) in
      let number : r.number ≡ content_fault w h m xs = ap (λ (s : Saved). s.number) q in
      let same : r.number ≡ fault = content-first w h m xs (length o) number d in
      let place : pick (eqb (content_fault w h m xs) 6) (first_above m xs) 0 ≡ pick (eqb fault 6) (first_above m xs) 0 =
      ap (λ (f : ℕ). pick (eqb f 6) (first_above m xs) 0) (sym number ∙ same) in
      record {
        number = same;
        place = ap (λ (s : Saved). s.place) q ∙ place;
        count = ap (λ (s : Saved). s.count) q ∙ sym (pick_out fault 0 _ _ (λ z. d (same ∙ z)));
        output = sym (pick_out fault 0 _ _ (λ z. d (same ∙ z)));
      }

  -- an output that is too short: 9, which has no place
  pub save-short :
      {r : Saved} {n : ℕ} → content_fault w h m xs ≡ 0 → n ≡ saving_fault w h m xs (length o) → n ≢ 0 → IsSaved n 0 0 r →
      SaveSays w h m xs o o r
  save-short c e some q =
      let fault = saving_fault w h m xs (length o) in
      let short = ltb (length o) (length (file_of w h m xs)) in
      let no_place : fault ≢ 6 = λ z. short-not-above short (sym (room-fault w h m xs (length o) c) ∙ z) in
      record {
        number = ap (λ (s : Saved). s.number) q ∙ e;
        place = ap (λ (s : Saved). s.place) q ∙ sym (pick_out fault 6 _ _ no_place);
        count = ap (λ (s : Saved). s.count) q ∙ sym (pick_out fault 0 _ _ (λ z. some (e ∙ z)));
        output = sym (pick_out fault 0 _ _ (λ z. some (e ∙ z)));
      }

  pub save-done :
      {r : Saved} {o' : List ℕ} {n : ℕ} → saving_fault w h m xs (length o) ≡ 0 → n ≡ length (file_of w h m xs) → IsSaved 0 0 n r →
      o' ≡ over (file_of w h m xs) o → SaveSays w h m xs o o' r
  save-done f k q e =
      let fault = saving_fault w h m xs (length o) in
      record {
        number = ap (λ (s : Saved). s.number) q ∙ sym f;
        place = ap (λ (s : Saved). s.place) q ∙ sym (pick_out fault 6 _ _ (λ z. omega arith));
        count = ap (λ (s : Saved). s.count) q ∙ k ∙ sym (pick-in _ 0 _ _ f);
        output = e ∙ sym (pick-in _ 0 _ _ f);
      }

  -- what an unrefused call answers and leaves
  pub save-left :
      {o' : List ℕ} {r : Saved} → SaveSays w h m xs o o' r → r.number ≡ 0 →
      (r.count ≡ length (file_of w h m xs)) × (o' ≡ over (file_of w h m xs) o)
  save-left s z =
      let fault = saving_fault w h m xs (length o) in
      let n : fault ≡ 0 = sym s.number ∙ z in
      (s.count ∙ pick-in fault 0 _ _ n, s.output ∙ pick-in fault 0 _ _ n)

  -- a call that is refused with 6 answers the first place above the largest sample, and there is one
  pub save-above :
      {o' : List ℕ} {r : Saved} → SaveSays w h m xs o o' r → r.number ≡ 6 →
      (r.place ≡ first_above m xs) × (first_above m xs ≢ length xs)
  save-above s z =
      let fault = saving_fault w h m xs (length o) in
      let n : fault ≡ 6 = sym s.number ∙ z in
      (s.place ∙ pick-in fault 6 _ _ n, above-some w h m xs (saving-above w h m xs (length o) n))

  -- the place that a call answers fits 16 bits
  pub save-place : {o' : List ℕ} {r : Saved} → SaveSays w h m xs o o' r → r.place ≤ 1600
  save-place {r = r} s =
      let fault = saving_fault w h m xs (length o) in
      on_test (eqb fault 6)
      (λ t.
      let n : fault ≡ 6 = eqb-true fault 6 t in
      let place : r.place ≡ first_above m xs = s.place ∙ pick-in fault 6 _ _ n in
      omega (arith, leading_le (at_most m) xs, above-few w h m xs (saving-above w h m xs (length o) n)))
      (λ t. let place : r.place ≡ 0 = s.place ∙ pick_out fault 6 _ _ (eqb-false fault 6 t) in omega arith)
