-- The tests of the definitions and the facts about connected places that they stand for.
use mathlib.Core.Path.{◌≡◌, refl, sym, subst}
use mathlib.Core.Bool.{Bool, true}
use mathlib.Core.List.{List}
use Prim.Native.Nat.{ℕ, zero, suc, ◌≤◌, ◌<◌}
use native.Mathlib.Omega.{arith}
use lib.Dec.{eqb}
use borrow.Author.Tests.{eqb-true, eq-eqb}
use Rattle.lists.specs.Lists.{all, tally, range, is_in, all_within}
use Rattle.picture.specs.Pictures.{Picture, places, value_at, with_pixels, touch}
use Rattle.picture.specs.Components.{touches_some, component_at, components}
use Rattle.picture.specs.Watersheds.{lowerable_at, lowerable}
use Rattle.picture.specs.Kept.{keeps_at, keeps_parts}
use Rattle.lists.proofs.Tests.{and_left, and_right, and_both, clash}
use Rattle.lists.proofs.Lists.{any-mem, mem-any, all-mem, mem-all, range-mem, mem-range}
use Rattle.topology.proofs.Connected.{start, conn-source, conn-target, conn-trans, conn-mono}
use Rattle.topology.proofs.Keeping.{Keeps, Lowers}
use Rattle.topology.proofs.Adjacency.{Adj, At, Joined, joined-sym}
use Rattle.topology.proofs.Reached.{mem-joined, joined-mem, joined_in, in-joined}
use Rattle.topology.proofs.Parts.{OnePart, all-parts, parts_all, tally-part, part-tally}

-- a component lies within another
module _ (f b : Picture) (k : ℕ) (x y : ℕ) (s : At f k x) (t : At b k y) where
  pub within-joined : all_within (component_at f k x) (component_at b k y) ≡ true → (z : ℕ) → Joined f k x z → Joined b k y z
  within-joined h z c = in-joined b k y z t (all-mem (λ u. is_in u (component_at b k y)) h (joined-mem f k c))

  pub joined-within : ((z : ℕ) → Joined f k x z → Joined b k y z) → all_within (component_at f k x) (component_at b k y) ≡ true
  joined-within g =
      mem-all (λ u. is_in u (component_at b k y)) (component_at f k x) (λ u m. joined_in b k (g u (mem-joined f k x u s m)))

-- lowerable pixels
module _ (p : Picture) (x : ℕ) (b : x < places p) where
  touches-low : (k y : ℕ) → At p k y → touches_some p x (component_at p k y) ≡ true → (z : ℕ) × Adj p x z × Joined p k y z
  touches-low k y s h = let (z, m, e) = any-mem (touch p x) (component_at p k y) h in (z, e, mem-joined p k y z s m)

  low-touches : (k : ℕ) {y z : ℕ} → Adj p x z → Joined p k y z → touches_some p x (component_at p k y) ≡ true
  low-touches k a c = mem-any (touch p x) (joined-mem p k c) a

  lowers_at : (v k : ℕ) → value_at p x ≡ v → v ≡ suc k → lowerable_at v p x ≡ true → Lowers (places p) (Adj p) (value_at p) x k
  lowers_at zero k e f h = absurd (clash h refl)
  lowers_at (suc j) k e f h = subst (λ (m : ℕ). Lowers (places p) (Adj p) (value_at p) x m) q made
    where
      q : j ≡ k
      q = omega arith

      o : OnePart p j (touches_some p x)
      o = tally-part p j (touches_some p x) (eqb-true (tally (touches_some p x) (components p j)) 1 h)

      made : Lowers (places p) (Adj p) (value_at p) x j
      made =
          let (z, a, c) = touches-low j o.at o.place o.passes in
          record {
            within = b;
            value = e;
            near = z;
            touches = a;
            below = conn-target c;
            joined =
                λ y ay sy. conn-trans (joined-sym p j c) (o.only y sy (low-touches j ay (start sy)));
          }

  pub lowerable-lowers : (k : ℕ) → value_at p x ≡ suc k → lowerable p x ≡ true → Lowers (places p) (Adj p) (value_at p) x k
  unfolding lowerable
  lowerable-lowers k e h = lowers_at (value_at p x) k refl e h

  pub lowers-lowerable : (k : ℕ) → Lowers (places p) (Adj p) (value_at p) x k → lowerable p x ≡ true
  unfolding lowerable
  lowers-lowerable k l =
      subst (λ (v : ℕ). lowerable_at v p x ≡ true) (sym l.value)
      (eq-eqb (tally (touches_some p x) (components p k)) 1
      (part-tally p k (touches_some p x)
      (record {
        at = l.near;
        place = l.below;
        passes = low-touches k l.touches (start l.below);
        only =
            λ y sy h.
            let (z, a, c) = touches-low k y sy h in
            conn-trans (l.joined z a (conn-target c)) (joined-sym p k c);
      })))

  -- a pixel of value 0 is not lowerable
  pub lowerable-above : lowerable p x ≡ true → (k : ℕ) × (value_at p x ≡ suc k)
  unfolding lowerable
  lowerable-above h = above (value_at p x) refl h
    where
      above : (v : ℕ) → value_at p x ≡ v → lowerable_at v p x ≡ true → (k : ℕ) × (value_at p x ≡ suc k)
      above zero e g = absurd (clash g refl)
      above (suc k) e g = (k, e)

-- keeping parts at one height
module _ (f : Picture) (xs : List ℕ) (k : ℕ) where
  abbrev b : Picture
  b = with_pixels f xs

  hosted : List ℕ → Bool
  hosted c = eqb (tally (λ d. all_within c d) (components b k)) 1

  guest : List ℕ → Bool
  guest d = eqb (tally (λ c. all_within c d) (components f k)) 1

  pub keeps-sound : keeps_at f b k ≡ true → Keeps (places f) (Adj f) (value_at f) (value_at b) k
  unfolding keeps_at hosted guest
  keeps-sound h = record { subset = subset; reaches = reaches; separates = separates }
    where
      host : (y : ℕ) → At f k y → OnePart b k (λ d. all_within (component_at f k y) d)
      host y s =
          tally-part b k (λ d. all_within (component_at f k y) d)
          (eqb-true (tally (λ d. all_within (component_at f k y) d) (components b k)) 1
          (all-parts f k hosted (and_left (all hosted (components f k)) (all guest (components b k)) h) y s))

      one-guest : (y : ℕ) → At b k y → OnePart f k (λ c. all_within c (component_at b k y))
      one-guest y s =
          tally-part f k (λ c. all_within c (component_at b k y))
          (eqb-true (tally (λ c. all_within c (component_at b k y)) (components f k)) 1
          (all-parts b k guest (and_right (all hosted (components f k)) (all guest (components b k)) h) y s))

      inside : (y : ℕ) (s : At f k y) (z : ℕ) → Joined f k y z → Joined b k y z
      inside y s z c =
          let o = host y s in
          let g = within-joined f b k y o.at s o.place o.passes in
          conn-trans (joined-sym b k (g y (start s))) (g z c)

      subset : (y : ℕ) → At f k y → At b k y
      subset y s = conn-source (inside y s y (start s))

      reaches : (y : ℕ) → At b k y → (z : ℕ) × At f k z × Joined b k y z
      reaches y s =
          let o = one-guest y s in
          (o.at, o.place, within-joined f b k o.at y o.place s o.passes o.at (start o.place))

      separates : (y z : ℕ) → At f k y → At f k z → Joined b k y z → Joined f k y z
      separates y z sy sz c =
          let o = one-guest y (subset y sy) in
          let p = joined-within f b k y y sy (subset y sy) (inside y sy) in
          let q = joined-within f b k z y sz (subset y sy) (λ u d. conn-trans c (inside z sz u d)) in
          conn-trans (joined-sym f k (o.only y sy p)) (o.only z sz q)

  pub keeps-complete : Keeps (places f) (Adj f) (value_at f) (value_at b) k → keeps_at f b k ≡ true
  unfolding keeps_at hosted guest
  keeps-complete e =
      and_both
      (parts_all f k hosted
      (λ y s.
      eq-eqb (tally (λ d. all_within (component_at f k y) d) (components b k)) 1
      (part-tally b k (λ d. all_within (component_at f k y) d)
      (record {
        at = y;
        place = e.subset y s;
        passes = joined-within f b k y y s (e.subset y s) (λ z c. conn-mono e.subset c);
        only = λ z sz h. joined-sym b k (within-joined f b k y z s sz h y (start s));
      }))))
      (parts_all b k guest
      (λ y s.
      let (z, sz, c) = e.reaches y s in
      eq-eqb (tally (λ d. all_within d (component_at b k y)) (components f k)) 1
      (part-tally f k (λ d. all_within d (component_at b k y))
      (record {
        at = z;
        place = sz;
        passes = joined-within f b k z y sz s (λ u d. conn-trans c (conn-mono e.subset d));
        only =
            λ u su h.
            e.separates z u sz su (conn-trans (joined-sym b k c) (within-joined f b k u y su s h u (start su)));
      }))))

-- at every height
module _ (f : Picture) (xs : List ℕ) where
  pub parts-keeps : keeps_parts f (with_pixels f xs) ≡ true → (k : ℕ) → k ≤ 255 → Keeps (places f) (Adj f) (value_at f) (value_at (with_pixels f xs)) k
  unfolding keeps_parts
  parts-keeps h k b =
      keeps-sound f xs k
      (all-mem (keeps_at f (with_pixels f xs)) h (mem-range 0 256 (omega arith) (omega arith)))

  pub keeps-parts : ((k : ℕ) → k ≤ 255 → Keeps (places f) (Adj f) (value_at f) (value_at (with_pixels f xs)) k) → keeps_parts f (with_pixels f xs) ≡ true
  unfolding keeps_parts
  keeps-parts g =
      mem-all (keeps_at f (with_pixels f xs)) (range 0 256)
      (λ k m. let b = range-mem 0 256 m in keeps-complete f xs k (g k (omega arith)))
