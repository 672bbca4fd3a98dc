-- The watershed: the bound on its steps is large enough, it keeps parts, is nowhere above the picture, and nothing in it is lowerable.
use mathlib.Core.Path.{◌≡◌, refl, sym, ap, subst, ◌∙◌}
use mathlib.Core.Bool.{true, ◌&&◌, ◌||◌}
use mathlib.Core.Logic.{⊎_elim, by_cases}
use mathlib.Core.List.{List}
use Prim.Native.Nat.{ℕ, zero, suc, ◌+◌, ◌-◌, ◌≤◌, ◌<◌}
use native.Mathlib.Decide.{ℕ_discrete}
use native.Mathlib.Omega.{arith}
use lib.Dec.{eqb, ltb}
use lib.ListN.{length, get_or, set, length-set}
use lib.Seq.{get_or-set_same, get_or-set_other}
use borrow.Author.Tests.{ltb-true, ltb-false, eqb-true, eq-eqb}
use Rattle.lists.specs.Lists.{pick, range, total}
use Rattle.picture.specs.Pictures.{Picture, places, value_at, with_pixels}
use Rattle.picture.specs.Watersheds.{lowerable, best_from, best, lowered, watershed_from, watershed}
use Rattle.lists.proofs.Tests.{and_left, and_right, and_both, or_cases, or_right, on_test, on-pick, on-elim, clash}
use Rattle.lists.proofs.Indices.{below_suc}
use Rattle.lists.proofs.Sums.{total_lowered}
use Rattle.topology.proofs.Keeping.{Keeps, Lowers, Fallen, keeps-refl, keeps-compose, lowering-keeps}
use Rattle.topology.proofs.Adjacency.{Adj, adj-sym}
use Rattle.topology.proofs.Bridge.{lowerable-above, lowerable-lowers}

-- y comes before z in the order of lowering, or is z
pub data Leads (p : Picture) (y z : ℕ) : Type 0 where
  less : value_at p y < value_at p z → Leads p y z
  ties : value_at p y ≡ value_at p z → y ≤ z → Leads p y z

-- the lowerable place below x that leads the others, plus 1; 0 for none
pub data Best (p : Picture) (x : ℕ) : ℕ → Type 0 where
  nobody : ((y : ℕ) → y < x → lowerable p y ≡ true → ⊥) → Best p x 0
  leader : (y : ℕ) → y < x → lowerable p y ≡ true → ((z : ℕ) → z < x → lowerable p z ≡ true → Leads p y z) → Best p x (suc y)

module _ (p : Picture) where
  leads-trans : (x y z : ℕ) → value_at p x < value_at p y → Leads p y z → Leads p x z
  leads-trans x y z h (less g) = less (omega arith)
  leads-trans x y z h (ties e g) = less (omega arith)

  -- one place more
  best-step : (x b : ℕ) → Best p x b → Best p (suc x) (pick (lowerable p x && (eqb b 0 || ltb (value_at p x) (value_at p (b - 1)))) (suc x) b)
  best-step x b (nobody f) =
      on-pick (Best p (suc x)) (lowerable p x && (eqb 0 0 || ltb (value_at p x) (value_at p (0 - 1))))
      (λ e.
      leader x (omega arith) (and_left (lowerable p x) _ e)
      (below_suc x (λ z. lowerable p z ≡ true → Leads p x z)
      (λ z h g. absurd (f z h g))
      (λ g. ties refl (omega arith))))
      (λ e.
      nobody
      (below_suc x (λ z. lowerable p z ≡ true → ⊥) f
      (λ g. clash (and_both g refl) e)))
  best-step x b (leader y h l f) =
      let back : suc y - 1 ≡ y = omega arith in
      on-pick (Best p (suc x)) (lowerable p x && (eqb (suc y) 0 || ltb (value_at p x) (value_at p (suc y - 1))))
      (λ e.
      let t = and_right (lowerable p x) (eqb (suc y) 0 || ltb (value_at p x) (value_at p (suc y - 1))) e in
      let q : value_at p x < value_at p y =
      ⊎_elim
      (λ g. absurd (let i = eqb-true (suc y) 0 g in omega arith))
      (λ g. subst (λ (m : ℕ). value_at p x < value_at p m) back (ltb-true (value_at p x) (value_at p (suc y - 1)) g))
      (or_cases (eqb (suc y) 0) (ltb (value_at p x) (value_at p (suc y - 1))) t)
      in
      leader x (omega arith) (and_left (lowerable p x) _ e)
      (below_suc x (λ z. lowerable p z ≡ true → Leads p x z)
      (λ z b g. leads-trans x y z q (f z b g))
      (λ g. ties refl (omega arith))))
      (λ e.
      leader y (omega arith) l
      (below_suc x (λ z. lowerable p z ≡ true → Leads p y z) f
      (λ g.
      on_test (ltb (value_at p x) (value_at p (suc y - 1)))
      (λ i.
      absurd
      (clash
      (and_both g
      (or_right (eqb (suc y) 0) i))
      e))
      (λ i.
      let q : value_at p y ≤ value_at p x =
      subst (λ (m : ℕ). value_at p m ≤ value_at p x) back (ltb-false (value_at p x) (value_at p (suc y - 1)) i)
      in
      by_cases (ℕ_discrete (value_at p y) (value_at p x))
      (λ j. ties j (omega arith))
      (λ j. less (omega arith))))))

  best-from : (l x b : ℕ) → Best p x b → Best p (x + l) (best_from p b (range x l))
  best-from zero x b h = subst (λ (m : ℕ). Best p m b) (omega arith) h
  best-from (suc l) x b h =
      subst
      (λ (m : ℕ). Best p m (best_from p b (range x (suc l))))
      (omega arith)
      (best-from l (suc x) _ (best-step x b h))

  -- what the definition chooses next
  pub best-is : Best p (places p) (best p)
  unfolding best
  best-is =
      subst (λ (m : ℕ). Best p m (best_from p 0 (range 0 (places p)))) (omega arith)
      (best-from (places p) 0 0 (nobody (λ y h l. absurd (omega arith))))

-- one lowering and the end of `watershed_from`
pub water-stop : (l : ℕ) (p : Picture) → best p ≡ 0 → watershed_from (suc l) p ≡ p
water-stop l p e =
    on-elim (λ (q : Picture). q ≡ p) (eqb (best p) 0) (λ h. refl) (λ h. absurd (clash (eq-eqb (best p) 0 e) h))

pub water-step : (l : ℕ) (p : Picture) (x : ℕ) → best p ≡ suc x → watershed_from (suc l) p ≡ watershed_from l (lowered p x)
water-step l p x e =
    on-elim (λ (q : Picture). q ≡ watershed_from l (lowered p x)) (eqb (best p) 0)
    (λ h. absurd (let q = eqb-true (best p) 0 h in omega arith))
    (λ h. let q : best p - 1 ≡ x = omega arith in ap (λ (y : ℕ). watershed_from l (lowered p y)) q)

-- ys is what lowering, one lowerable pixel after the other, can make of xs, and it ends there
pub record Watered (f : Picture) (xs ys : List ℕ) : Type 0 where
  pub size : length ys ≡ length xs
  pub under : (y : ℕ) → get_or ys y 0 ≤ get_or xs y 0
  pub keeps : (k : ℕ) → Keeps (places f) (Adj f) (value_at (with_pixels f xs)) (value_at (with_pixels f ys)) k
  pub stuck : (y : ℕ) → y < places f → lowerable (with_pixels f ys) y ≡ true → ⊥

module _ (f : Picture) where
  -- one pixel replaced
  pub set-fallen : (xs : List ℕ) (x k : ℕ) → x < length xs → Fallen (value_at (with_pixels f xs)) (value_at (with_pixels f (set xs x k))) x k
  set-fallen xs x k h = record { at = get_or-set_same xs x k 0 h; other = λ y d. get_or-set_other xs x y k 0 d }

  pub lower-keeps : (xs : List ℕ) (x k : ℕ) → x < length xs → Lowers (places f) (Adj f) (value_at (with_pixels f xs)) x k → (j : ℕ) → Keeps (places f) (Adj f) (value_at (with_pixels f xs)) (value_at (with_pixels f (set xs x k))) j
  lower-keeps xs x k h l =
      lowering-keeps (places f) (Adj f) (adj-sym f) (value_at (with_pixels f xs)) (value_at (with_pixels f (set xs x k))) x k l
      (set-fallen xs x k h)

  pub lower-under : (xs : List ℕ) (x k : ℕ) → x < length xs → get_or xs x 0 ≡ suc k → (y : ℕ) → get_or (set xs x k) y 0 ≤ get_or xs y 0
  lower-under xs x k h e y =
      by_cases (ℕ_discrete y x)
      (λ q. subst (λ (z : ℕ). get_or (set xs x k) z 0 ≤ get_or xs z 0) (sym q) (let g = get_or-set_same xs x k 0 h in omega arith))
      (λ d. let g = get_or-set_other xs x y k 0 d in omega arith)

  Outcome : ℕ → List ℕ → Type 0
  Outcome l xs = (ys : List ℕ) × (watershed_from l (with_pixels f xs) ≡ with_pixels f ys) × Watered f xs ys

  -- the bound on the steps of `watershed_from` is large enough where it is above the sum of the pixels
  outcome : (l : ℕ) (xs : List ℕ) → length xs ≡ places f → total xs < l → Outcome l xs
  unfolding Outcome
  outcome zero xs e h = absurd (omega arith)
  outcome (suc l) xs e h = next (best (with_pixels f xs)) refl (best-is (with_pixels f xs)) (λ ys g i. outcome l ys g i)
    where
      next :
          (b : ℕ) → best (with_pixels f xs) ≡ b → Best (with_pixels f xs) (places f) b →
          ((ys : List ℕ) → length ys ≡ places f → total ys < l → Outcome l ys) → Outcome (suc l) xs
      next b g (nobody n) r = (
        xs,
        water-stop l (with_pixels f xs) g,
        record { size = refl; under = λ y. omega arith; keeps = λ k. keeps-refl (places f) (Adj f); stuck = n },
      )
      next b g (leader x c m t) r =
          let (k, v) = lowerable-above (with_pixels f xs) x c m in
          let w : get_or xs x 0 - 1 ≡ k = omega arith in
          let c' : x < length xs = omega arith in
          let s = total_lowered xs x k c' v in
          let (ys, i, d) = r (set xs x k) (length-set xs x k ∙ e) (omega arith) in
          let lo = lowerable-lowers (with_pixels f xs) x c k v m in (
            ys,
            water-step l (with_pixels f xs) x g ∙ (ap (λ (z : ℕ). watershed_from l (with_pixels f (set xs x z))) w ∙ i),
            record {
              size = d.size ∙ length-set xs x k;
              under = λ y. let a = d.under y in let q = lower-under xs x k c' v y in omega arith;
              keeps = λ j. keeps-compose (places f) (Adj f) (lower-keeps xs x k c' lo j) (d.keeps j);
              stuck = d.stuck;
            },
          )

  module _ (e : length f.pixels ≡ places f) where
    made : Outcome (suc (total f.pixels)) f.pixels
    made = outcome (suc (total f.pixels)) f.pixels e (omega arith)

    -- the watershed has the picture's adjacency and sides
    pub watershed-shape : watershed f ≡ with_pixels f (watershed f).pixels
    unfolding watershed Outcome made
    watershed-shape = let q = made.1 in q ∙ ap (λ (g : Picture). with_pixels f g.pixels) (sym q)

    pub watershed-watered : Watered f f.pixels (watershed f).pixels
    unfolding watershed Outcome made
    watershed-watered = subst (λ (g : Picture). Watered f f.pixels g.pixels) (sym made.1) made.2
