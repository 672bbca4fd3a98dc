-- The run of the watershed: what holds between two falls, and how a turn of the run keeps it.
use mathlib.Core.Path.{◌≡◌, refl, sym, ap, subst, ◌∙◌}
use mathlib.Core.Bool.{true}
use mathlib.Core.Logic.{◌⊎◌, inl, inr, ⊎_elim, ◌≢◌, by_cases}
use mathlib.Core.List.{List}
use Prim.Native.Nat.{ℕ, ◌+◌, ◌*◌, ◌≤◌, ◌<◌}
use native.Mathlib.Decide.{ℕ_discrete, dec_lt}
use native.Mathlib.Omega.{arith}
use lib.ListN.{length, get_or, set, length-set}
use lib.Seq.{get_or-set_same, get_or-set_other}
use Rattle.lists.specs.Lists.{total}
use Rattle.picture.specs.Pictures.{Picture, places, value_at, with_pixels}
use Rattle.picture.specs.Watersheds.{lowerable, watershed}
use Rattle.lists.proofs.Updates.{put, put_same, put_other}
use Rattle.lists.proofs.Sums.{total-less}
use Rattle.topology.proofs.Accepted.{Accepted, accepted-with, places-bound, byte_at, at_byte}
use Rattle.topology.proofs.Keeping.{Lowers, Fallen}
use Rattle.topology.proofs.Adjacency.{Adj, adj-sym, adj-dec}
use Rattle.topology.proofs.Bridge.{lowerable-above, lowerable-lowers, lowers-lowerable}
use Rattle.topology.proofs.Climb.{Meet, meet-same}
use Rattle.topology.proofs.Water.{set-fallen}
use Rattle.watershed_laws.proofs.Oracle.{Oracle, Stops, Drops, stops-drops, stops-there, drops-lowerable, drops-oracle}
use Rattle.watershed_laws.proofs.Falls.{First, fall-water}
use Rattle.watershed_laws.proofs.WinnerTree.{Winner, winner-fallen, candidates}
use Rattle.watershed_laws.proofs.WinnerSteps.{MakingCandidates}
use Rattle.watershed_laws.proofs.Stopping.{Climbs, Meets, Lowest, Stopped, Around, found-stops, found_none}

-- the state of the run on the frame f: pixels g, the tree's cells, the winner tree t; a lowerable place is a candidate or exempt
pub record Running (f : Picture) (g tree t : List ℕ) (Exempt : ℕ → Type 0) : Type 0 where
  pub accepted : Accepted (with_pixels f g)
  pub climbs : Climbs (places f) tree
  pub oracle : Oracle (places f) (Adj f) (value_at (with_pixels f g)) (Meets (places f) tree)
  pub leaves : length t ≡ 2 * places f
  pub winner : Winner (places f) g t 1 0
  pub lowerables : (y : ℕ) → y < places f → lowerable (with_pixels f g) y ≡ true → (get_or t (places f + y) 0 ≡ y) ⊎ Exempt y

-- the same pixels and cells with another winner tree, and others exempt
pub running-with :
    {f : Picture} {g tree t t₁ : List ℕ} {Exempt Exempt₁ : ℕ → Type 0} → Running f g tree t Exempt → length t₁ ≡ 2 * places f → Winner (places f) g t₁ 1 0 →
    ((y : ℕ) → y < places f → lowerable (with_pixels f g) y ≡ true → (get_or t₁ (places f + y) 0 ≡ y) ⊎ Exempt₁ y) → Running f g tree t₁ Exempt₁
running-with r leaves winner lowerables =
    record {
      accepted = r.accepted;
      climbs = r.climbs;
      oracle = r.oracle;
      leaves = leaves;
      winner = winner;
      lowerables = lowerables;
    }

-- no place is exempt
pub data NoPlace (y : ℕ) : Type 0 where

pub no_place : {C : Type 0} {y : ℕ} → NoPlace y → C
no_place = elim [ ]

-- the place x alone is exempt, is no candidate, and leads the lowerable places
pub record WinnerTaken (f : Picture) (g tree t : List ℕ) (x : ℕ) : Type 0 where
  pub running : Running f g tree t (λ y. y ≡ x)
  pub within : x < places f
  pub unset : get_or t (places f + x) 0 ≡ 65535
  pub first : First (with_pixels f g) x

-- what may have become lowerable by the fall of x to s from the value k
pub record Window (f : Picture) (g : List ℕ) (x s k y : ℕ) : Type 0 where
  pub near : Adj f x y
  pub above : s < get_or g y 0
  pub most : get_or g y 0 ≤ k

-- the run goes on with the same watershed; something has fallen, or all is as it was
pub record LoweredPlace (f : Picture) (g t g₁ tree₁ t₁ : List ℕ) : Type 0 where
  pub running : Running f g₁ tree₁ t₁ NoPlace
  pub water : watershed (with_pixels f g₁) ≡ watershed (with_pixels f g)
  pub less : (total g₁ < total g) ⊎ ((g₁ ≡ g) × (t₁ ≡ t))

-- the place x is the winner
pub record WinnerIs (f : Picture) (g tree t : List ℕ) (x : ℕ) : Type 0 where
  pub running : Running f g tree t NoPlace
  pub top : x ≡ get_or t 1 0
  pub candidate : x ≢ 65535

-- what falls with each turn: the sum of the pixels, then the number of candidates
unfoldable pub measure : ℕ → List ℕ → List ℕ → ℕ
measure n g t = 1601 * total g + candidates n t

-- after a turn r is the winner, the watershed is the same, and the measure is less
pub record TurnDone (f : Picture) (g t g₁ tree₁ t₁ : List ℕ) (r : ℕ) : Type 0 where
  pub running : Running f g₁ tree₁ t₁ NoPlace
  pub water : watershed (with_pixels f g₁) ≡ watershed (with_pixels f g)
  pub less : measure (places f) g₁ t₁ < measure (places f) g t
  pub top : r ≡ get_or t₁ 1 0

-- the map's entry of x becomes that of low
module _ (n : ℕ) (tree : List ℕ) (c : Climbs n tree) (x low : ℕ) (hx : x < n) (hl : low < n) where
  abbrev mapped-as : List ℕ
  mapped-as = set tree (2 * n + x) (get_or tree (2 * n + low) 0)

  -- the place whose entry y takes
  abbrev answers : ℕ → ℕ
  answers = put (λ y. y) x low

  map-before : (i : ℕ) → i < 2 * n → get_or mapped-as i 0 ≡ get_or tree i 0
  map-before i h = get_or-set_other tree (2 * n + x) i (get_or tree (2 * n + low) 0) 0 (λ q. omega arith)

  map-entry : (y : ℕ) → y < n → get_or mapped-as (2 * n + y) 0 ≡ get_or tree (2 * n + answers y) 0
  map-entry y h =
      let s = c.size in
      by_cases (ℕ_discrete y x)
      (λ q.
      ap (λ (m : ℕ). get_or mapped-as (2 * n + m) 0) q ∙
      (get_or-set_same tree (2 * n + x) (get_or tree (2 * n + low) 0) 0 (omega arith) ∙
      ap (λ (m : ℕ). get_or tree (2 * n + m) 0) (sym (put_same (λ y. y) x low y q))))
      (λ q.
      get_or-set_other tree (2 * n + x) (2 * n + y) (get_or tree (2 * n + low) 0) 0 (λ u. q (omega arith)) ∙
      ap (λ (m : ℕ). get_or tree (2 * n + m) 0) (sym (put_other (λ y. y) x low y q)))

  answers-within : (y : ℕ) → y < n → answers y < n
  answers-within y h =
      by_cases (ℕ_discrete y x)
      (λ q. let e = put_same (λ y. y) x low y q in omega arith)
      (λ q. let e = put_other (λ y. y) x low y q in omega arith)

  map-climbs : Climbs n mapped-as
  map-climbs =
      let f = c.few in
      record {
        size = length-set tree (2 * n + x) (get_or tree (2 * n + low) 0) ∙ c.size;
        count = c.count;
        few = f;
        rises = λ i h. rw (map-before (n + i) (omega arith)) (c.rises i h);
        mapped = λ y h. rw (map-entry y h) (c.mapped (answers y) (answers-within y h));
      }

  map-meets : (y z h : ℕ) → Meets n mapped-as y z h → Meets n tree (answers y) (answers z) h
  map-meets y z h q =
      let f = c.few in
      let hy = answers-within y q.first in
      let hz = answers-within z q.second in
      let m₁ = subst (λ (j : ℕ). Meet (λ i. get_or mapped-as (n + i) 0) j (get_or mapped-as (2 * n + z) 0) q.at.node) (map-entry y q.first) q.at.meet in
      let m₂ = subst (λ (j : ℕ). Meet (λ i. get_or mapped-as (n + i) 0) (get_or tree (2 * n + answers y) 0) j q.at.node) (map-entry z q.second) m₁ in
      let (m₃, r) =
      meet-same c.count (λ i. get_or mapped-as (n + i) 0) (λ i. get_or tree (n + i) 0)
      (λ i l. map-before (n + i) (omega arith))
      (λ i l. (c.rises i l).1)
      (c.mapped (answers y) hy) (c.mapped (answers z) hz) m₂
      in
      record {
        first = hy;
        second = hz;
        at = record { node = q.at.node; meet = m₃; height = q.at.height ∙ map-before q.at.node (omega arith) };
      }

module _ (f : Picture) (g tree t : List ℕ) (x : ℕ) (p : WinnerTaken f g tree t x) (ys : List ℕ) (m low s : ℕ)
    (around : Around f x ys m) (lowest : Lowest (places f) g x ys m low) (stopped : Stopped (places f) g tree low (get_or g x 0) ys m s) where
  abbrev run : Running f g tree t (λ y. y ≡ x)
  run = p.running

  found : get_or g low 0 < get_or g x 0 → Stops (places f) (Adj f) (value_at (with_pixels f g)) (Meets (places f) tree) x low s
  found b =
      found-stops f g tree x ys m low s p.within (byte_at g run.accepted.bytes x) around lowest stopped b

  stays-there : get_or g x 0 ≤ s → (j : ℕ) → Lowers (places f) (Adj f) (value_at (with_pixels f g)) x j → ⊥
  stays-there h j l =
      by_cases (dec_lt (get_or g low 0) (get_or g x 0))
      (λ b.
      stops-there (places f) (Adj f) (adj-sym f) (value_at (with_pixels f g)) (Meets (places f) tree) run.oracle x low s (found b)
      (value_at (with_pixels f g)) (get_or g x 0) (record { at = refl; other = λ y d. refl }) h (omega arith) (inr refl) j l)
      (λ b.
      let q = found_none f g tree x ys m low s around lowest (omega arith) l.near l.below.within l.touches in
      omega (arith, l.value, l.below.low))

  -- it does not fall: it was not lowerable
  pub lowered-stays : get_or g x 0 ≤ s → LoweredPlace f g t g tree t
  lowered-stays h =
      record {
        running =
            running-with run run.leaves run.winner
            (λ y b l.
            ⊎_elim (λ e. inl e)
            (λ e.
            let (k, v) = lowerable-above (with_pixels f g) y b l in
            absurd
            (stays-there h k
            (subst (λ (z : ℕ). Lowers (places f) (Adj f) (value_at (with_pixels f g)) z k) e (lowerable-lowers (with_pixels f g) y b k v l))))
            (run.lowerables y b l));
        water = refl;
        less = inr (refl, refl);
      }

  module _ (falls : s < get_or g x 0) where
    low_below : get_or g low 0 < get_or g x 0
    low_below = let r = stopped.reach in omega arith

    drops : Drops (places f) (Adj f) (value_at (with_pixels f g)) x low s
    drops =
        stops-drops (places f) (Adj f) (adj-sym f) (value_at (with_pixels f g)) (Meets (places f) tree) run.oracle x low s
        (found low_below) falls

    inside : x < length g
    inside = let e = run.accepted.size in let h = p.within in omega arith

    abbrev lowered-to : List ℕ
    lowered-to = set g x s

    abbrev remapped : List ℕ
    remapped = set tree (2 * places f + x) (get_or tree (2 * places f + low) 0)

    pub fall-total : total lowered-to < total g
    fall-total = total-less g x s inside falls

    pub fall-same-water : watershed (with_pixels f lowered-to) ≡ watershed (with_pixels f g)
    fall-same-water = fall-water f g run.accepted.size x low s drops p.first

    -- it falls to s and is mapped as low is; its neighbours between s and its old value are exempt
    pub lowered-falls : Running f lowered-to remapped t (Window f lowered-to x s (get_or g x 0))
    lowered-falls =
        record {
          accepted =
              accepted-with (with_pixels f g) lowered-to run.accepted (length-set g x s ∙ run.accepted.size)
              (at_byte lowered-to
              (λ y.
              let b = byte_at g run.accepted.bytes in
              by_cases (ℕ_discrete y x)
              (λ q. subst (λ (z : ℕ). get_or lowered-to z 0 ≤ 255) (sym q) (omega (arith, fallen.at, b x)))
              (λ q. omega (arith, fallen.other y q, b y))));
          climbs = map-climbs (places f) tree run.climbs x low p.within lowest.within;
          oracle =
              drops-oracle (places f) (Adj f) (adj-sym f) (value_at (with_pixels f g)) (value_at (with_pixels f lowered-to))
              (Meets (places f) tree) (Meets (places f) remapped) x low s
              (put (λ y. y) x low)
              run.oracle drops fallen
              (put_same (λ y. y) x low x refl)
              (put_other (λ y. y) x low)
              (map-meets (places f) tree run.climbs x low p.within lowest.within);
          leaves = run.leaves;
          winner =
              winner-fallen (places f) g t run.winner x s p.within
              (omega (arith, places-bound (with_pixels f g) run.accepted))
              p.unset;
          lowerables = lowerables;
        }
      where
        fallen : Fallen (value_at (with_pixels f g)) (value_at (with_pixels f lowered-to)) x s
        fallen = set-fallen f g x s inside

        lowerables :
            (y : ℕ) → y < places f → lowerable (with_pixels f lowered-to) y ≡ true →
            (get_or t (places f + y) 0 ≡ y) ⊎ Window f lowered-to x s (get_or g x 0) y
        lowerables y b l =
            let (k, v) = lowerable-above (with_pixels f lowered-to) y b l in
            let lo = lowerable-lowers (with_pixels f lowered-to) y b k v l in
            by_cases (ℕ_discrete y x)
            (λ q.
            absurd
            (stops-there (places f) (Adj f) (adj-sym f) (value_at (with_pixels f g)) (Meets (places f) tree) run.oracle x low s (found low_below)
            (value_at (with_pixels f lowered-to)) s fallen (omega arith) (omega arith) (inl refl) k
            (subst (λ (z : ℕ). Lowers (places f) (Adj f) (value_at (with_pixels f lowered-to)) z k) q lo)))
            (λ q.
            ⊎_elim
            (λ u.
            ⊎_elim (λ e. inl e) (λ e. absurd (q e)) (run.lowerables y b (lowers-lowerable (with_pixels f g) y b k u)))
            (λ (a, c, d). let e = fallen.other y q in inr (record { near = a; above = omega arith; most = omega arith }))
            (drops-lowerable (places f) (Adj f) (adj-sym f) (value_at (with_pixels f g)) x low s drops (adj-dec f) (value_at (with_pixels f lowered-to)) fallen y k q lo))

    -- the neighbours become candidates, and the turn is done
    pub lowered-made :
        (t₁ : List ℕ) → MakingCandidates (places f) lowered-to t s (get_or g x 0) ys t₁ m →
        LoweredPlace f g t lowered-to remapped t₁
    lowered-made t₁ w =
        let r = lowered-falls in
        record {
          running =
              running-with r w.size w.winner
              (λ y b l.
              inl
              (⊎_elim
              (λ e. w.stay y b e)
              (λ v.
              let (j, i, e) = around.every y b v.near in
              subst
              (λ (z : ℕ). s < get_or lowered-to z 0 → get_or lowered-to z 0 ≤ get_or g x 0 → get_or t₁ (places f + z) 0 ≡ z)
              e (w.made j i) v.above v.most)
              (r.lowerables y b l)));
          water = fall-same-water;
          less = inl fall-total;
        }
