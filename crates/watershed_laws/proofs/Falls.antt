-- Falls and the watershed: a pixel that leads the lowerable ones may fall as far as it drops in one go, and there are at most 255 falls a pixel.
use mathlib.Core.Path.{◌≡◌, refl, sym, ap, subst, ◌∙◌}
use mathlib.Core.Bool.{true}
use mathlib.Core.Logic.{⊎_elim, by_cases}
use mathlib.Core.List.{List}
use Prim.Native.Nat.{ℕ, zero, suc, ◌+◌, ◌-◌, ◌*◌, ◌≤◌, ◌<◌}
use native.Mathlib.Decide.{ℕ_discrete}
use native.Mathlib.Omega.{arith}
use lib.ListN.{length, get_or, set, length-set}
use lib.Seq.{set-set, set-get_or}
use Rattle.lists.specs.Lists.{total}
use Rattle.picture.specs.Pictures.{Picture, places, value_at, with_pixels}
use Rattle.picture.specs.Watersheds.{lowerable, best, watershed_from, watershed}
use Rattle.lists.proofs.Sums.{total-less, total_lowered, total-bounded}
use Rattle.topology.proofs.Adjacency.{Adj, adj-sym, adj-dec}
use Rattle.topology.proofs.Bridge.{lowerable-above, lowerable-lowers, lowers-lowerable}
use Rattle.topology.proofs.Water.{Leads, less, ties, Best, nobody, leader, best-is, water-stop, water-step, set-fallen}
use Rattle.watershed_laws.proofs.Oracle.{Drops, drops-lowers, drops-lowerable}

-- x is before every lowerable place in the order of lowering, or is it
unfoldable pub First : Picture → ℕ → Type 0
First g x = (y : ℕ) → y < places g → lowerable g y ≡ true → Leads g x y

-- a picture in which nothing is lowerable is its own watershed
pub watershed-end : (g : Picture) → ((y : ℕ) → y < places g → lowerable g y ≡ true → ⊥) → watershed g ≡ g
unfolding watershed
watershed-end g f = water-stop (total g.pixels) g (none (best-is g))
  where
    none : {b : ℕ} → Best g (places g) b → b ≡ 0
    none (nobody h) = refl
    none (leader y b l h) = absurd (f y b l)

module _ (f : Picture) where
  abbrev with : List ℕ → Picture
  with xs = with_pixels f xs

  leads-both : (g : Picture) (x y : ℕ) → Leads g x y → Leads g y x → x ≡ y
  leads-both g x y (less a) (less b) = absurd (omega arith)
  leads-both g x y (less a) (ties e b) = absurd (omega arith)
  leads-both g x y (ties e a) (less b) = absurd (omega arith)
  leads-both g x y (ties e a) (ties h b) = omega arith

  -- the first is the best
  first-best : (g : Picture) (x : ℕ) → x < places g → lowerable g x ≡ true → First g x → best g ≡ suc x
  unfolding First
  first-best g x b l h = is (best-is g)
    where
      is : {m : ℕ} → Best g (places g) m → m ≡ suc x
      is (nobody n) = absurd (n x b l)
      is (leader y c k t) = ap suc (leads-both g y x (t x b l) (h y c k))

  -- one lowering of the first leaves the watershed as it is
  step-water :
      (xs : List ℕ) (x k : ℕ) → length xs ≡ places f → x < places f → get_or xs x 0 ≡ suc k → lowerable (with xs) x ≡ true → First (with xs) x →
      watershed (with (set xs x k)) ≡ watershed (with xs)
  unfolding watershed
  step-water xs x k e b v l h =
      let w : get_or xs x 0 - 1 ≡ k = omega arith in
      let c : x < length xs = omega arith in
      sym
      (water-step (total xs) (with xs) x (first-best (with xs) x b l h) ∙
      (ap (λ (z : ℕ). watershed_from (total xs) (with (set xs x z))) w ∙
      ap (λ (z : ℕ). watershed_from z (with (set xs x k))) (sym (total_lowered xs x k c v))))

  module _ (xs : List ℕ) (e : length xs ≡ places f) (x low s : ℕ) (d : Drops (places f) (Adj f) (value_at (with xs)) x low s) (first : First (with xs) x) where
    inside : x < length xs
    inside = let b = d.within in omega arith

    -- on the way down x stays the first
    first_below : (j : ℕ) → s ≤ j → suc j < get_or xs x 0 → First (with (set xs x (suc j))) x
    unfolding First
    first_below j a b y c l =
        by_cases (ℕ_discrete y x)
        (λ q. subst (λ (z : ℕ). Leads (with (set xs x (suc j))) x z) (sym q) (ties refl (omega arith)))
        (λ q.
        let (k, v) = lowerable-above (with (set xs x (suc j))) y c l in
        let lo = lowerable-lowers (with (set xs x (suc j))) y c k v l in
        let fall = set-fallen f xs x (suc j) inside in
        let vx = fall.at in
        let vy = fall.other y q in
        ⊎_elim
        (λ m. before (first y c (lowers-lowerable (with xs) y c k m)) vx vy b)
        (λ m. let n = m.1 in less (omega arith))
        (drops-lowerable (places f) (Adj f) (adj-sym f) (value_at (with xs)) x low (suc j) shorter (adj-dec f) (value_at (with (set xs x (suc j)))) fall y k q lo))
      where
        shorter : Drops (places f) (Adj f) (value_at (with xs)) x low (suc j)
        shorter =
            let r = d.reach in
            record {
              within = d.within;
              lowest = d.lowest;
              near = d.near;
              reach = omega arith;
              falls = b;
              joined = λ i g h. d.joined i (omega arith) h;
            }

        before : {y : ℕ} → Leads (with xs) x y → get_or (set xs x (suc j)) x 0 ≡ suc j → get_or (set xs x (suc j)) y 0 ≡ get_or xs y 0 → suc j < get_or xs x 0 → Leads (with (set xs x (suc j))) x y
        before (less g) p r t = less (omega arith)
        before (ties g h) p r t = less (omega arith)

    fall-by : (l j : ℕ) → l + j ≡ get_or xs x 0 → s ≤ j → watershed (with (set xs x j)) ≡ watershed (with xs)
    fall-by zero j g a =
        let q : j ≡ get_or xs x 0 = omega arith in
        ap (λ (z : ℕ). watershed (with (set xs x z))) q ∙ ap (λ (ys : List ℕ). watershed (with ys)) (set-get_or xs x 0)
    fall-by (suc l) j g a =
        ap (λ (ys : List ℕ). watershed (with ys)) (sym (set-set xs x (suc j) j)) ∙
        (step-water (set xs x (suc j)) x j (length-set xs x (suc j) ∙ e) d.within (set-fallen f xs x (suc j) inside).at
        (lowers-lowerable (with (set xs x (suc j))) x d.within j
        (drops-lowers (places f) (Adj f) (adj-sym f) (value_at (with xs)) x low s d
        (value_at (with (set xs x (suc j)))) j a (omega arith) (set-fallen f xs x (suc j) inside)))
        at_top ∙
        fall-by l (suc j) (omega arith) (omega arith))
      where
        at_top : First (with (set xs x (suc j))) x
        at_top =
            by_cases (ℕ_discrete (suc j) (get_or xs x 0))
            (λ q.
            subst (λ (ys : List ℕ). First (with ys) x)
            (sym (ap (λ (z : ℕ). set xs x z) q ∙ set-get_or xs x 0))
            first)
            (λ q. first_below j a (omega arith))

    -- the whole fall leaves the watershed as it is
    pub fall-water : watershed (with (set xs x s)) ≡ watershed (with xs)
    fall-water = let b = d.falls in fall-by (get_or xs x 0 - s) s (omega arith) (omega arith)

-- a sequence of c falls from the pixels xs to ys
pub data FallSequence (f : Picture) (xs : List ℕ) : ℕ → List ℕ → Type 0 where
  start : FallSequence f xs 0 xs
  fall :
      {c : ℕ} {ys : List ℕ} (x low s : ℕ) → FallSequence f xs c ys → length ys ≡ places f →
      Drops (places f) (Adj f) (value_at (with_pixels f ys)) x low s → FallSequence f xs (suc c) (set ys x s)

-- there are no more falls than the sum of the pixels
pub falls-total : (f : Picture) (xs : List ℕ) {c : ℕ} {ys : List ℕ} → FallSequence f xs c ys → c + total ys ≤ total xs
falls-total f xs start = omega arith
falls-total f xs (fall {c = c} {ys = ys} x low s h e d) =
    let r = falls-total f xs h in
    let b = d.within in
    let q = total-less ys x s (omega arith) d.falls in
    omega arith

-- at most 255 falls a pixel
pub falls-most :
    (f : Picture) (xs : List ℕ) {c : ℕ} {ys : List ℕ} → ((i : ℕ) → get_or xs i 0 ≤ 255) → length xs ≡ places f →
    FallSequence f xs c ys → c ≤ 255 * places f
falls-most f xs b e h = let r = falls-total f xs h in let q = total-bounded 255 xs (λ i h. b i) in omega arith
