-- The turns of the run: it starts with every place a candidate, a turn takes the winner away and lowers it, and it ends at the watershed.
use mathlib.Core.Path.{◌≡◌, sym, ap, subst, ◌∙◌}
use mathlib.Core.Bool.{true}
use mathlib.Core.Logic.{inl, inr, ⊎_elim, by_cases}
use mathlib.Core.List.{List}
use Prim.Native.Nat.{ℕ, ◌+◌, ◌*◌, ◌≤◌, ◌<◌}
use native.Mathlib.Decide.{ℕ_discrete}
use native.Mathlib.Omega.{arith}
use lib.ListN.{length, get_or}
use Rattle.lists.specs.Lists.{total}
use Rattle.picture.specs.Pictures.{Picture, places, with_pixels}
use Rattle.picture.specs.Trees.{nodes, node_at, father_of, map_of}
use Rattle.picture.specs.Watersheds.{lowerable, watershed}
use Rattle.topology.proofs.Accepted.{Accepted, places-bound, places-some}
use Rattle.topology.proofs.Nodes.{nodes-few}
use Rattle.topology.proofs.Descent.{map_found}
use Rattle.topology.proofs.Climb.{father-of, father-greater}
use Rattle.topology.proofs.Water.{Leads, less, ties}
use Rattle.watershed_laws.proofs.TreeOracle.{tree-oracle}
use Rattle.watershed_laws.proofs.Falls.{First, watershed-end}
use Rattle.watershed_laws.proofs.WinnerTree.{Beats, last, less as beats-less, ties as beats-ties, winner-beats, winner-place, candidates, candidates-most, candidates-fewer}
use Rattle.watershed_laws.proofs.WinnerSteps.{Assigned, Building}
use Rattle.watershed_laws.proofs.Running.{Running, NoPlace, no_place, WinnerTaken, LoweredPlace, WinnerIs, TurnDone, measure, running-with}

-- the cells hold heights, fathers and map of the tree of p
pub record Holds (p : Picture) (tree : List ℕ) : Type 0 where
  pub size : length tree ≡ 3 * places p
  pub heights : (i : ℕ) → i < length (nodes p) → get_or tree i 0 ≡ (node_at p i).height
  pub fathers : (i : ℕ) → i < length (nodes p) → get_or tree (places p + i) 0 ≡ father_of p (node_at p i)
  pub map : (x : ℕ) → x < places p → get_or tree (2 * places p + x) 0 ≡ map_of p x

module _ (f : Picture) (g tree t : List ℕ) where
  abbrev p : Picture
  p = with_pixels f g

  -- at the start
  pub running-start : Accepted p → Holds p tree → Building (places f) g t 1 → Running f g tree t NoPlace
  running-start ok h b =
      record {
        accepted = ok;
        climbs =
            record {
              size = h.size;
              count = length (nodes p);
              few = nodes-few p;
              rises =
                  λ i l.
                  let e = h.fathers i (omega arith) in
                  let c = father-of p ok i l in
                  let d = father-greater p ok i (omega arith) c in
                  (omega arith, omega arith);
              mapped = λ x l. let e = h.map x l in let c = map_found p ok x l in omega arith;
            };
        oracle =
            record {
              meets =
                  λ y z k j l q.
                  (tree-oracle p ok (λ i. get_or tree i 0) (λ i. get_or tree (places f + i) 0) (λ x. get_or tree (2 * places f + x) 0)
                  h.heights h.fathers h.map).meets y z k j l
                  q.at;
            };
        leaves = b.size;
        winner = b.winner;
        lowerables = λ y l e. inl (b.full y l);
      }

  module _ (run : Running f g tree t NoPlace) where
    most : places f ≤ 1600
    most = places-bound (with_pixels f g) run.accepted

    -- at the end
    pub running-end : get_or t 1 0 ≡ 65535 → watershed (with_pixels f g) ≡ with_pixels f g
    running-end e = watershed-end (with_pixels f g) none
      where
        none : (y : ℕ) → y < places f → lowerable (with_pixels f g) y ≡ true → ⊥
        none y b l = ⊎_elim (λ q. beaten q (winner-beats (places f) g t run.winner y b)) (λ (n : NoPlace y). no_place n) (run.lowerables y b l)
          where
            beaten : get_or t (places f + y) 0 ≡ y → Beats g (get_or t 1 0) (get_or t (places f + y) 0) → ⊥
            beaten q (last h) = let k = most in omega arith
            beaten q (beats-less d h) = d e
            beaten q (beats-ties d h i) = d e

  module _ (x : ℕ) (p : WinnerIs f g tree t x) where
    abbrev run₁ : Running f g tree t NoPlace
    run₁ = p.running

    place : (x < places f) × (get_or t (places f + x) 0 ≡ x)
    place =
        let e = p.top in
        let (a, b) = winner-place (places f) g t run₁.winner (places-some (with_pixels f g) run₁.accepted) (λ q. p.candidate (e ∙ q)) in
        (omega arith, subst (λ (z : ℕ). get_or t (places f + z) 0 ≡ z) (sym e) b)

    -- the winner is a place, and leads the lowerable ones
    pub turn-place : x < places f
    turn-place = place.0

    leads : First (with_pixels f g) x
    unfolding First
    leads y b l =
        ⊎_elim
        (λ q. before q (winner-beats (places f) g t run₁.winner y b))
        (λ (n : NoPlace y). no_place n)
        (run₁.lowerables y b l)
      where
        before : get_or t (places f + y) 0 ≡ y → Beats g (get_or t 1 0) (get_or t (places f + y) 0) → Leads (with_pixels f g) x y
        before q (last h) = absurd (let k = most run₁ in omega arith)
        before q (beats-less d h) =
            less
            (subst (λ (z : ℕ). get_or g z 0 < get_or g y 0) (sym p.top)
            (subst (λ (z : ℕ). get_or g (get_or t 1 0) 0 < get_or g z 0) q h))
        before q (beats-ties d h i) =
            let e = p.top in
            ties
            (subst (λ (z : ℕ). get_or g z 0 ≡ get_or g y 0) (sym e)
            (subst (λ (z : ℕ). get_or g (get_or t 1 0) 0 ≡ get_or g z 0) q h))
            (omega arith)

    -- the winner is taken away
    pub winner-taken : (t₁ : List ℕ) → Assigned (places f) g t x 65535 t₁ → WinnerTaken f g tree t₁ x
    winner-taken t₁ a =
        record {
          running =
              running-with run₁ a.size a.winner
              (λ y b l.
              by_cases (ℕ_discrete y x)
              (λ q. inr q)
              (λ q. ⊎_elim (λ e. inl (a.other y b q ∙ e)) (λ (n : NoPlace y). no_place n) (run₁.lowerables y b l)));
          within = turn-place;
          unset = a.own;
          first = leads;
        }

    pub turn-done :
        (t₁ : List ℕ) → Assigned (places f) g t x 65535 t₁ →
        (g₂ tree₂ t₂ : List ℕ) → LoweredPlace f g t₁ g₂ tree₂ t₂ →
        (r : ℕ) → r ≡ get_or t₂ 1 0 → TurnDone f g t g₂ tree₂ t₂ r
    unfolding measure
    turn-done t₁ a g₂ tree₂ t₂ q r e =
        record {
          running = q.running;
          water = q.water;
          top = e;
          less =
              ⊎_elim
              (λ h. let c = candidates-most (places f) t₂ in let k = most run₁ in omega arith)
              (λ (u, v).
              let (inside, own) = place in
              let c =
              candidates-fewer (places f) t t₁ x inside (λ z. p.candidate (sym own ∙ z)) a.own a.other
              in
              let w = ap total u in
              let z = ap (candidates (places f)) v in
              omega arith)
              q.less;
        }
