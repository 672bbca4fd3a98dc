-- A scan of the places that floods each flat zone once counts the minima.
use mathlib.Core.Path.{◌≡◌, refl, sym, ap, subst, ◌∙◌}
use mathlib.Core.Bool.{Bool, true, false}
use mathlib.Core.Logic.{⊎_elim, ◌≢◌, by_cases}
use mathlib.Core.List.{List}
use Prim.Native.Nat.{ℕ, suc, ◌≤◌, ◌<◌}
use native.Mathlib.Decide.{ℕ_discrete}
use native.Mathlib.Omega.{arith}
use lib.Dec.{eqb}
use lib.ListN.{length, get_or, set}
use Rattle.lists.specs.Lists.{tally, range}
use Rattle.picture.specs.Pictures.{Picture, places, value_at}
use Rattle.picture.specs.Patches.{patches}
use Rattle.lists.proofs.Tests.{test-false, clash}
use Rattle.lists.proofs.Lists.{tally-set}
use Rattle.topology.proofs.Connected.{start, conn-target, conn-trans, conn-sym}
use Rattle.topology.proofs.Adjacency.{At, Joined, adj-sym, joined-sym, at_own}
use Rattle.topology.proofs.Accepted.{Accepted}
use Rattle.topology.proofs.Reached.{first_at, first-joined, first-least}
use Rattle.lists.proofs.Positions.{tally-next-in, tally-next-out}
use Rattle.topology.proofs.Leaves.{leaf_at, bottom, bottom-is, is-bottom}
use Rattle.topology.proofs.PatchFigures.{patches-count}
use Rattle.labelling_laws.proofs.Zones.{Flat, Zone, ZoneFlooded, zone-joined, zone-whole, zone-leaf, lower-no-leaf}

-- how many places are not visited
abbrev pub unvisited : List ℕ → ℕ
unvisited l = tally (eqb 65535) l

-- a visit to one of them
pub unvisited-set : (l : List ℕ) (y v : ℕ) → y < length l → get_or l y 0 ≡ 65535 → v ≢ 65535 → suc (unvisited (set l y v)) ≡ unvisited l
unvisited-set = tally-set 65535

-- the zones of the places before x are visited, nothing else, and r minima begin there
pub record Scanned (p : Picture) (x r : ℕ) (cells : List ℕ) : Type 0 where
  pub count : r ≡ tally (bottom p) (range 0 x)
  pub seen : (y : ℕ) → y < places p → get_or cells y 0 ≢ 65535 → (z : ℕ) × (z < x) × Zone p (value_at p z) z y
  pub done : (z y : ℕ) → z < x → Zone p (value_at p z) z y → get_or cells y 0 ≢ 65535

module _ (p : Picture) where
  own : (x : ℕ) → x < places p → Flat p (value_at p x) x
  own x b = record { within = b; value = refl }

  -- zones of one value, seen from another of their places
  zone-from : {z x y : ℕ} → Zone p (value_at p z) z x → Zone p (value_at p x) x y → Zone p (value_at p z) z y
  zone-from {z} {x} {y} a b =
      conn-trans a (subst (λ (k : ℕ). Zone p k x y) (conn-target a).value b)

  zone-back : {z x y : ℕ} → Zone p (value_at p z) z y → Zone p (value_at p x) x y → Zone p (value_at p z) z x
  zone-back {z} {x} {y} a b =
      let e = sym (conn-target b).value ∙ (conn-target a).value in
      conn-trans a (conn-sym (adj-sym p) (subst (λ (k : ℕ). Zone p k x y) e b))

  pub scan-start : (cells : List ℕ) → ((y : ℕ) → y < places p → get_or cells y 0 ≡ 65535) → Scanned p 0 0 cells
  scan-start cells h =
      record { count = refl; seen = λ y b m. absurd (m (h y b)); done = λ z y b c. absurd (omega arith) }

  module _ (x r : ℕ) (cells : List ℕ) (b : x < places p) (s : Scanned p x r cells) where
    -- a visited place begins no minimum
    seen-no-bottom : get_or cells x 0 ≢ 65535 → bottom p x ≡ false
    seen-no-bottom m =
        let (z, l, c) = s.seen x b m in
        test-false (bottom p x)
        (λ h.
        let (a, e, g) = bottom-is p x b h in
        let j = joined-sym p (value_at p z) (zone-joined p (value_at p z) c) in
        let f = first-least p (value_at p x) (subst (λ (k : ℕ). Joined p k x z) (sym (conn-target c).value) j) in
        omega arith)

    pub scan-seen : get_or cells x 0 ≢ 65535 → Scanned p (suc x) r cells
    scan-seen m =
        record {
          count = s.count ∙ sym (tally-next-out (bottom p) x (seen-no-bottom m));
          seen = λ y h n. let (z, l, c) = s.seen y h n in (z, omega arith, c);
          done =
              λ z y l c.
              by_cases (ℕ_discrete z x)
              (λ e.
              let (u, i, d) = s.seen x b m in
              s.done u y i (zone-from d (subst (λ (w : ℕ). Zone p (value_at p w) w y) e c)))
              (λ e. s.done z y (omega arith) c);
        }

    module _ (new : get_or cells x 0 ≡ 65535) where
      -- the zone of a place that is not visited has not been visited at all
      pub scan-fresh : (y : ℕ) → Zone p (value_at p x) x y → get_or cells y 0 ≡ 65535
      scan-fresh y c =
          by_cases (ℕ_discrete (get_or cells y 0) 65535) (λ e. e)
          (λ m.
          let (z, l, d) = s.seen y (conn-target c).within m in
          absurd (s.done z x l (zone-back d c) new))

      module _ (after : List ℕ) (low : Bool) (f : ZoneFlooded p (value_at p x) x cells after low) where
        flooded-scan : (q : ℕ) → q ≡ tally (bottom p) (range 0 (suc x)) → Scanned p (suc x) q after
        flooded-scan q e =
            record {
              count = e;
              seen =
                  λ y h m.
                  ⊎_elim
                  (λ c. (x, omega arith, c))
                  (λ n. let (z, l, c) = s.seen y h n in (z, omega arith, c))
                  (f.only y m);
              done =
                  λ z y l c.
                  by_cases (ℕ_discrete z x)
                  (λ e. f.new y (subst (λ (w : ℕ). Zone p (value_at p w) w y) e c))
                  (λ e. f.old y (s.done z y (omega arith) c));
            }

        -- a zone with a lower neighbour
        pub scan-lower : low ≡ true → Scanned p (suc x) r after
        scan-lower e =
            flooded-scan r
            (s.count ∙
            sym
            (tally-next-out (bottom p) x
            (test-false (bottom p x)
            (λ h. clash (bottom-is p x b h).2 (lower-no-leaf p (value_at p x) x (f.lower e))))))

        -- a zone with none begins a minimum at x
        pub scan-minimum : low ≡ false → Scanned p (suc x) (suc r) after
        scan-minimum e = flooded-scan (suc r) (ap suc s.count ∙ sym (tally-next-in (bottom p) x begins))
          where
            k : ℕ
            k = value_at p x

            at : At p k x
            at = at_own p x b

            leaf : leaf_at p k x ≡ true
            leaf = zone-leaf p k x (own x b) (f.high e)

            first : ℕ
            first = first_at p k x

            zone : Zone p k x first
            zone = zone-whole p k (own x b) (f.high e) (first-joined p k x at)

            least : first ≤ x
            least = first-least p k (start at)

            back : Zone p (value_at p first) first x
            back =
                subst (λ (j : ℕ). Zone p j first x) (sym (conn-target zone).value) (conn-sym (adj-sym p) zone)

            same : first ≡ x
            same =
                by_cases (ℕ_discrete first x) (λ e. e)
                (λ d. let l = least in absurd (s.done first x (omega arith) back new))

            begins : bottom p x ≡ true
            begins = is-bottom p k x at same leaf

  -- all places scanned
  pub scan-end : (r : ℕ) (cells : List ℕ) → Accepted p → Scanned p (places p) r cells → r ≡ length (patches p)
  scan-end r cells ok s = s.count ∙ sym (patches-count p ok)
