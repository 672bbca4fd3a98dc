-- The laws of the faults, and what a core is lent where there is none.
use mathlib.Core.Path.{◌≡◌, refl, sym, ap, ◌∙◌}
use mathlib.Core.Bool.{Bool, true, false, ◌&&◌, ◌||◌, not}
use mathlib.Core.Logic.{◌≢◌}
use Prim.Native.Nat.{ℕ, zero, suc, ◌*◌, ◌≤◌, ◌<◌}
use native.Mathlib.Omega.{arith}
use lib.Dec.{eqb, ltb, leb}
use lib.ListN.{length, get_or}
use borrow.Author.Tests.{eqb-false, ltb-false, leb-false, le-ltb}
use Rattle.picture.specs.Pictures.{Picture, side_fits, is_picture}
use Rattle.faults.specs.PictureFault.{first_of, when, sides_fault, picture_fault, picture_fault_of}
use Rattle.lists.proofs.Tests.{or-fails, on_test}
use Rattle.picture.proofs.Sides.{sides-area}
use Rattle.faults.proofs.Accepted.{no-fault, accepted}
use Rattle.topology.proofs.Accepted.{at_byte}
use Rattle.faults.specs.Faults.{work_fault, work_fault_of, output_fault, place_fault, touch_fault, size_unfit, size_fault}
use Rattle.faults.specs.Steps.{Faultless, Admitted, Admits}
use Rattle.refusals.specs.declared.Refusal.{Refusal}
use Rattle.refusals.specs.Refusals.{number_of}
use Rattle.refusals.proofs.Numbers.{number-some}
use Rattle.geometry.specs.declared.raster.Raster.{Raster}
use Rattle.geometry.specs.Rasters.{picture}
use Rattle.std.proofs.Common.{Ok, Err}

-- the first of two numbers
pub first_some : (f g r : ℕ) → r ≡ f → r ≢ 0 → r ≡ first_of f g
first_some zero g r e d = absurd (d e)
first_some (suc f) g r e d = e

pub first-none : (f g : ℕ) → f ≡ 0 → first_of f g ≡ g
first-none zero g e = refl
first-none (suc f) g e = absurd (omega arith)

pub first-zero : (f g : ℕ) → first_of f g ≡ 0 → (f ≡ 0) × (g ≡ 0)
first-zero zero g e = (refl, e)
first-zero (suc f) g e = absurd (omega arith)

-- the second number may be read where the first is 0
pub first-later : (f l n : ℕ) (g : ℕ → ℕ) → (f ≡ 0 → l ≡ n) → first_of f (g l) ≡ first_of f (g n)
first-later zero l n g e = ap g (e refl)
first-later (suc f) l n g e = refl

-- one number for either of two causes
pub first_either : (f n : ℕ) (a b : Bool) → first_of (first_of f (when b (suc n))) (when a (suc n)) ≡ first_of f (when (a || b) (suc n))
first_either zero n true true = refl
first_either zero n true false = refl
first_either zero n false true = refl
first_either zero n false false = refl
first_either (suc f) n a b = refl

pub when-zero : (n : ℕ) (b : Bool) → when b (suc n) ≡ 0 → b ≡ false
when-zero n true e = absurd (omega arith)
when-zero n false e = refl

-- numbers at most m
first-most : (m f g : ℕ) → f ≤ m → g ≤ m → first_of f g ≤ m
first-most m zero g a b = b
first-most m (suc f) g a b = a

when-most : (m : ℕ) (t : Bool) (n : ℕ) → n ≤ m → when t n ≤ m
when-most m true n h = h
when-most m false n h = omega arith

-- a fault f, then suc n where a test passes; g is the fault of both
module _ (f n : ℕ) (t : Bool) (g : ℕ) (is : first_of f (when t (suc n)) ≡ g) where
  pub then-first : (r : ℕ) → r ≡ f → r ≢ 0 → r ≡ g
  then-first r e d = first_some f _ r e d ∙ is

  pub then-passed : f ≡ 0 → t ≡ true → suc n ≡ g
  then-passed z e = sym (first-none f _ z ∙ ap (λ (b : Bool). when b (suc n)) e) ∙ is

  pub then-failed : f ≡ 0 → t ≡ false → 0 ≡ g
  then-failed z e = sym (first-none f _ z ∙ ap (λ (b : Bool). when b (suc n)) e) ∙ is

  pub then-none : g ≡ 0 → (f ≡ 0) × (t ≡ false)
  then-none e = let z = first-zero f (when t (suc n)) (is ∙ e) in (z.0, when-zero n t z.1)

-- a refusal with the number of the fault
pub refused : (p : Picture) (f : ℕ) (e : Refusal) → number_of e ≡ f → Admits p f (Err e)
refused p f e n = record { fault = n; raster = tt }

-- the first of two faults has been refused
pub refused_first : (p : Picture) (f g h : ℕ) (e : Refusal) → first_of f g ≡ h → number_of e ≡ f → Admits p h (Err e)
refused_first p f g h e is n = let some = number-some e in refused p h e (first_some f g _ n (omega arith) ∙ is)

-- the second has
pub refused_then : (p : Picture) (f g h : ℕ) (e : Refusal) → first_of f g ≡ h → 0 ≡ f → number_of e ≡ g → Admits p h (Err e)
refused_then p f g h e is z n = refused p h e (n ∙ (sym (first-none f g (sym z)) ∙ is))

-- neither has
pub admitted_both : (p : Picture) (f g h : ℕ) (x : Raster) → first_of f g ≡ h → 0 ≡ f → 0 ≡ g → picture x ≡ p → Admits p h (Ok x)
admitted_both p f g h x is z y e = record { fault = y ∙ (sym (first-none f g (sym z)) ∙ is); raster = e }

-- no fault of a picture's arguments: n is the number of pixels, at most 1,600
module _ (a w h l : ℕ) where
  pub fault-size : picture_fault a w h l ≡ 0 → l ≡ w * h
  fault-size e = (no-fault a w h l e).sized.size

  pub fault-few : picture_fault a w h l ≡ 0 → w * h ≤ 1600
  fault-few e = sides-area w h (no-fault a w h l e).sized.sides

  -- the greatest number of such a fault
  picture-most : picture_fault a w h l ≤ 10
  unfolding picture_fault sides_fault
  picture-most =
      let other = not (eqb a 4 || eqb a 8) in
      let outside = not (side_fits w && side_fits h) in
      let longer = not (eqb l (w * h)) in
      first-most 10 (when other 7) (first_of (when outside 3) (when longer 8)) (when-most 10 other 7 (omega arith))
      (first-most 10 (when outside 3) (when longer 8) (when-most 10 outside 3 (omega arith)) (when-most 10 longer 8 (omega arith)))

  module _ (work : ℕ) where
    -- the code counts from the number of pixels
    pub work-counted : first_of (picture_fault a w h l) (when (ltb work (5 * l)) 9) ≡ work_fault a w h l work
    unfolding work_fault
    work-counted = first-later (picture_fault a w h l) l (w * h) (λ n. when (ltb work (5 * n)) 9) fault-size

    pub work_none : picture_fault a w h l ≡ 0 → 5 * l ≤ work → work_fault a w h l work ≡ 0
    work_none e b = sym (then-failed _ 8 _ _ work-counted e (le-ltb work (5 * l) b))

    -- no fault of a picture's arguments and work
    pub work-enough : work_fault a w h l work ≡ 0 → (picture_fault a w h l ≡ 0) × (5 * l ≤ work)
    work-enough e = let z = then-none _ 8 _ _ work-counted e in (z.0, ltb-false work (5 * l) z.1)

    pub work-size : work_fault a w h l work ≡ 0 → l ≡ w * h
    work-size e = fault-size (work-enough e).0

    module _ (out : ℕ) where
      pub output-counted : first_of (work_fault a w h l work) (when (ltb out l) 9) ≡ output_fault a w h l out work
      unfolding output_fault
      output-counted = first-later (work_fault a w h l work) l (w * h) (λ n. when (ltb out n) 9) work-size

      pub output-none : work_fault a w h l work ≡ 0 → l ≤ out → output_fault a w h l out work ≡ 0
      output-none e b = sym (then-failed _ 8 _ _ output-counted e (le-ltb out l b))

      pub output-enough : output_fault a w h l out work ≡ 0 → (work_fault a w h l work ≡ 0) × (w * h ≤ out)
      unfolding output_fault
      output-enough e = let z = then-none _ 8 _ _ refl e in (z.0, ltb-false out (w * h) z.1)

      module _ (s : ℕ) where
        pub size-counted : first_of (output_fault a w h l out work) (when (size_unfit l s) 13) ≡ size_fault a w h l out work s
        unfolding size_fault
        size-counted =
            first-later (output_fault a w h l out work) l (w * h) (λ n. when (size_unfit n s) 13) (λ e. work-size (output-enough e).0)

        pub size-enough : size_fault a w h l out work s ≡ 0 → (output_fault a w h l out work ≡ 0) × (1 ≤ s) × (s ≤ w * h)
        unfolding size_fault
        size-enough e =
            let z = then-none _ 12 _ _ refl e in
            let (b, c) = or-fails (eqb s 0) (ltb (w * h) s) z.1 in
            let d : s ≢ 0 = eqb-false s 0 b in
            (z.0, omega arith, ltb-false (w * h) s c)

    work-most : work_fault a w h l work ≤ 10
    unfolding work_fault
    work-most =
        let short = ltb work (5 * (w * h)) in
        first-most 10 (picture_fault a w h l) (when short 9) picture-most (when-most 10 short 9 (omega arith))

    module _ (x : ℕ) where
      pub place-counted : first_of (work_fault a w h l work) (when (leb l x) 10) ≡ place_fault a w h l work x
      unfolding place_fault
      place-counted = first-later (work_fault a w h l work) l (w * h) (λ n. when (leb n x) 10) work-size

      pub place-enough : place_fault a w h l work x ≡ 0 → (work_fault a w h l work ≡ 0) × (x < w * h)
      unfolding place_fault
      place-enough e = let z = then-none _ 9 _ _ refl e in (z.0, leb-false (w * h) x z.1)

      pub place-most : place_fault a w h l work x ≤ 10
      unfolding place_fault
      place-most = first-most 10 (work_fault a w h l work) (when (leb (w * h) x) 10) work-most (when-most 10 (leb (w * h) x) 10 (omega arith))

      -- a handbook first
      module _ (handbook : ℕ) where
        pub handbook-unknown : (eqb handbook 4 || eqb handbook 5) ≡ false → touch_fault handbook a w h l work x ≡ 14
        unfolding touch_fault
        handbook-unknown e = rw e

        pub handbook-known : (eqb handbook 4 || eqb handbook 5) ≡ true → touch_fault handbook a w h l work x ≡ place_fault a w h l work x
        unfolding touch_fault
        handbook-known e = rw e

        pub touch-enough : touch_fault handbook a w h l work x ≡ 0 → (work_fault a w h l work ≡ 0) × (x < w * h)
        touch-enough e =
            on_test (eqb handbook 4 || eqb handbook 5)
            (λ t. place-enough (sym (handbook-known t) ∙ e))
            (λ t. absurd (let z = handbook-unknown t in omega arith))

-- a picture without a fault is accepted, since its pixels come from a slice of bytes
pub faultless-accepted : (p : Picture) → picture_fault_of p ≡ 0 → ((i : ℕ) → get_or p.pixels i 0 ≤ 255) → is_picture p ≡ true
faultless-accepted p e f = accepted p e (at_byte p.pixels f)

module _ (p : Picture) (work : ℕ) (e : work_fault_of p work ≡ 0) where
  pub faultless : Faultless p work
  faultless =
      let z = work-enough p.adjacency p.width p.height (length p.pixels) work e in
      record {
        fault = z.0;
        size = fault-size p.adjacency p.width p.height (length p.pixels) z.0;
        few = fault-few p.adjacency p.width p.height (length p.pixels) z.0;
        room = z.1;
      }

  pub admitted : ((i : ℕ) → get_or p.pixels i 0 ≤ 255) → Admitted p work
  admitted f = record { faultless = faultless; picture = faultless-accepted p faultless.fault f }
