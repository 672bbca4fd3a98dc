-- How far a pixel falls, as the loops over its neighbours find it: the climb in the tree's cells, a neighbour of least value, the height at which it stops.
use mathlib.Core.Path.{◌≡◌, refl, sym, ap, subst, ◌∙◌}
use mathlib.Core.Logic.{◌⊎◌, inl, inr, ⊎_elim, by_cases}
use mathlib.Core.List.{List}
use Prim.Native.Nat.{ℕ, suc, ◌+◌, ◌*◌, ◌≤◌, ◌<◌}
use native.Mathlib.Decide.{ℕ_discrete}
use native.Mathlib.Omega.{arith}
use lib.ListN.{length, get_or}
use Rattle.picture.specs.Pictures.{Picture, places, value_at, with_pixels}
use Rattle.picture.specs.Geometry.{neighbours_in}
use Rattle.picture.proofs.Neighbours.{Listed}
use Rattle.picture.proofs.Neighbours.{neighbour-at, neighbour-index, listed_at}
use Rattle.topology.proofs.Adjacency.{Adj}
use Rattle.watershed_laws.proofs.Oracle.{Stops}
use Rattle.watershed_laws.proofs.TreeOracle.{MeetsAt}

-- the cells hold heights, fathers and the map of a tree, n cells each, in which every climb meets
pub record Climbs (n : ℕ) (tree : List ℕ) : Type 0 where
  pub size : length tree ≡ 3 * n
  pub count : ℕ
  pub few : count ≤ n
  pub rises : (i : ℕ) → suc i < count → (i < get_or tree (n + i) 0) × (get_or tree (n + i) 0 < count)
  pub mapped : (x : ℕ) → x < n → get_or tree (2 * n + x) 0 < count

-- the climbs from the nodes of the places y and z meet at height h
pub record Meets (n : ℕ) (tree : List ℕ) (y z h : ℕ) : Type 0 where
  pub first : y < n
  pub second : z < n
  pub at : MeetsAt (λ i. get_or tree i 0) (λ i. get_or tree (n + i) 0) (get_or tree (2 * n + y) 0) (get_or tree (2 * n + z) 0) h

-- the first m cells of ys hold places
pub record Places (n : ℕ) (ys : List ℕ) (m : ℕ) : Type 0 where
  pub few : m ≤ 8
  pub each : (j : ℕ) → j < m → get_or ys j 0 < n

-- the place of the lesser value, the first if they are equal
pub data Lower (g : List ℕ) (low y : ℕ) : ℕ → Type 0 where
  stays : get_or g low 0 ≤ get_or g y 0 → Lower g low y low
  moves : get_or g y 0 < get_or g low 0 → Lower g low y y

-- low is x or one of the first i places of ys, of which none has a lesser value
pub record Lowest (n : ℕ) (g : List ℕ) (x : ℕ) (ys : List ℕ) (i low : ℕ) : Type 0 where
  pub within : low < n
  pub least : (j : ℕ) → j < i → get_or g low 0 ≤ get_or g (get_or ys j 0) 0
  pub listed : (low ≡ x) ⊎ ((j : ℕ) × (j < i) × (get_or ys j 0 ≡ low))

module _ (n : ℕ) (g : List ℕ) (x : ℕ) (ys : List ℕ) where
  pub lowest_start : x < n → Lowest n g x ys 0 x
  lowest_start h = record { within = h; least = λ j l. absurd (omega arith); listed = inl refl }

  lowest-least : (i low r : ℕ) → ((j : ℕ) → j < i → get_or g low 0 ≤ get_or g (get_or ys j 0) 0) → get_or g r 0 ≤ get_or g low 0 → get_or g r 0 ≤ get_or g (get_or ys i 0) 0 → (j : ℕ) → j < i + 1 → get_or g r 0 ≤ get_or g (get_or ys j 0) 0
  lowest-least i low r p a b j h =
      by_cases (ℕ_discrete j i)
      (λ e. subst (λ (m : ℕ). get_or g r 0 ≤ get_or g (get_or ys m 0) 0) (sym e) b)
      (λ d. let q = p j (omega arith) in omega arith)

  pub lowest-turn : (i low r : ℕ) → get_or ys i 0 < n → Lowest n g x ys i low → Lower g low (get_or ys i 0) r → Lowest n g x ys (i + 1) r
  lowest-turn i low r h p (stays b) =
      record {
        within = p.within;
        least = lowest-least i low low p.least (omega arith) b;
        listed = ⊎_elim (λ e. inl e) (λ (j, l, e). inr (j, omega arith, e)) p.listed;
      }
  lowest-turn i low r h p (moves b) =
      record {
        within = h;
        least = lowest-least i low (get_or ys i 0) p.least (omega arith) (omega arith);
        listed = inr (i, omega arith, refl);
      }

-- one neighbour y of a pixel of value k raises the height s at which it stops, or does not
pub data Raised (n : ℕ) (g tree : List ℕ) (low k y s : ℕ) : ℕ → Type 0 where
  above : k ≤ get_or g y 0 → Raised n g tree low k y s s
  early : (h : ℕ) → Meets n tree y low h → (h ≤ get_or g y 0) ⊎ (h ≤ s) → Raised n g tree low k y s s
  late : {h : ℕ} → get_or g y 0 < k → Meets n tree y low h → get_or g y 0 < h → s < h → Raised n g tree low k y s h

-- s is the value of low or the greatest height at which one of the first i places of ys below k meets it above its own value
pub record Stopped (n : ℕ) (g tree : List ℕ) (low k : ℕ) (ys : List ℕ) (i s : ℕ) : Type 0 where
  pub reach : get_or g low 0 ≤ s
  pub clear :
      (j : ℕ) → j < i → get_or g (get_or ys j 0) 0 < k →
      (h : ℕ) × Meets n tree (get_or ys j 0) low h × ((h ≤ get_or g (get_or ys j 0) 0) ⊎ (h ≤ s))
  pub tight :
      (s ≡ get_or g low 0) ⊎
      ((j : ℕ) × (j < i) × (get_or g (get_or ys j 0) 0 < k) × (get_or g (get_or ys j 0) 0 < s) × Meets n tree (get_or ys j 0) low s)

module _ (n : ℕ) (g tree : List ℕ) (low k : ℕ) (ys : List ℕ) where
  pub stop-start : Stopped n g tree low k ys 0 (get_or g low 0)
  stop-start = record { reach = omega arith; clear = λ j h. absurd (omega arith); tight = inl refl }

  Clear : ℕ → ℕ → Type 0
  Clear s j =
      get_or g (get_or ys j 0) 0 < k →
      (h : ℕ) × Meets n tree (get_or ys j 0) low h × ((h ≤ get_or g (get_or ys j 0) 0) ⊎ (h ≤ s))

  clear-more : (i s r : ℕ) → s ≤ r → ((j : ℕ) → j < i → Clear s j) → Clear r i → (j : ℕ) → j < i + 1 → Clear r j
  unfolding Clear
  clear-more i s r l p q j h =
      by_cases (ℕ_discrete j i)
      (λ e. subst (Clear r) (sym e) q)
      (λ d b.
      let (m, t, u) = p j (omega arith) b in
      (m, t, ⊎_elim (λ v. inl v) (λ v. inr (omega arith)) u))

  pub stop-turn : (i s r : ℕ) → Stopped n g tree low k ys i s → Raised n g tree low k (get_or ys i 0) s r → Stopped n g tree low k ys (i + 1) r
  unfolding Clear
  stop-turn i s r p (above b) =
      record {
        reach = p.reach;
        clear = clear-more i s s (omega arith) p.clear (λ c. absurd (omega arith));
        tight = ⊎_elim (λ e. inl e) (λ (j, l, b, c, q). inr (j, omega arith, b, c, q)) p.tight;
      }
  stop-turn i s r p (early h m b) =
      record {
        reach = p.reach;
        clear = clear-more i s s (omega arith) p.clear (λ c. (h, m, b));
        tight = ⊎_elim (λ e. inl e) (λ (j, l, b, c, q). inr (j, omega arith, b, c, q)) p.tight;
      }
  stop-turn i s r p (late b m c d) =
      let e = p.reach in
      record {
        reach = omega arith;
        clear = clear-more i s r (omega arith) p.clear (λ c. (r, m, inr (omega arith)));
        tight = inr (i, omega arith, b, c, m);
      }

-- the first m cells of ys are the neighbours of x
pub record Around (f : Picture) (x : ℕ) (ys : List ℕ) (m : ℕ) : Type 0 where
  pub few : m ≤ 8
  pub near : (j : ℕ) → j < m → (get_or ys j 0 < places f) × Adj f x (get_or ys j 0)
  pub every : (y : ℕ) → y < places f → Adj f x y → (j : ℕ) × (j < m) × (get_or ys j 0 ≡ y)

pub listed-around : (f : Picture) (x : ℕ) (cells : List ℕ) (m : ℕ) (ys : List ℕ) → 1 ≤ f.width → Listed (neighbours_in f x) cells m ys → Around f x ys m
listed-around f x cells m ys some p =
    record {
      few = p.few;
      near =
          λ j h.
          let l : j < length (neighbours_in f x) = omega (arith, p.count) in
          let q = neighbour-at f x j l in
          rw (at j l) q;
      every =
          λ y h a.
          let (j, l, e) = neighbour-index f x y some h a in
          (j, omega (arith, p.count), at j l ∙ e);
    }
  where
    at : (j : ℕ) → j < length (neighbours_in f x) → get_or ys j 0 ≡ get_or (neighbours_in f x) j 0
    at j l = listed_at (neighbours_in f x) cells ys m p j (omega (arith, p.count))

pub around-places : (f : Picture) (x : ℕ) (ys : List ℕ) (m : ℕ) → Around f x ys m → Places (places f) ys m
around-places f x ys m a = record { few = a.few; each = λ j h. (a.near j h).0 }

-- what the loops find is where the fall stops
module _ (f : Picture) (g tree : List ℕ) (x : ℕ) (ys : List ℕ) (m low s : ℕ) where
  pub found-stops :
      x < places f → get_or g x 0 ≤ 255 → Around f x ys m → Lowest (places f) g x ys m low →
      Stopped (places f) g tree low (get_or g x 0) ys m s → get_or g low 0 < get_or g x 0 →
      Stops (places f) (Adj f) (value_at (with_pixels f g)) (Meets (places f) tree) x low s
  found-stops inside byte a l t below =
      record {
        within = inside;
        byte = byte;
        lowest = l.within;
        near =
            ⊎_elim (λ e. let q = ap (λ (z : ℕ). get_or g z 0) e in absurd (omega arith))
            (λ (j, h, e). subst (Adj f x) e (a.near j h).1)
            l.listed;
        least =
            λ y h r.
            let (j, i, e) = a.every y h r in
            subst (λ (z : ℕ). get_or g low 0 ≤ get_or g z 0) e (l.least j i);
        reach = t.reach;
        clear =
            λ y h r b.
            let (j, i, e) = a.every y h r in
            subst
            (λ (z : ℕ). get_or g z 0 < get_or g x 0 → (h : ℕ) × Meets (places f) tree z low h × ((h ≤ get_or g z 0) ⊎ (h ≤ s)))
            e (t.clear j i) b;
        tight =
            ⊎_elim (λ e. inl e)
            (λ (j, i, b, c, q). inr (get_or ys j 0, (a.near j i).0, (a.near j i).1, b, c, q))
            t.tight;
      }

  -- without a lower neighbour it stops where it is
  pub found_none :
      Around f x ys m → Lowest (places f) g x ys m low → get_or g x 0 ≤ get_or g low 0 →
      (y : ℕ) → y < places f → Adj f x y → get_or g x 0 ≤ get_or g y 0
  found_none a l b y h r =
      let (j, i, e) = a.every y h r in
      let c = subst (λ (z : ℕ). get_or g low 0 ≤ get_or g z 0) e (l.least j i) in
      omega arith
