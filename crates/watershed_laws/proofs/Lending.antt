-- The run in one slice of cells: the tree in front, the winner tree behind it, which is lent and comes back.
use mathlib.Core.Path.{◌≡◌, sym, ap, subst, ◌∙◌}
use mathlib.Core.List.{List, ◌++◌, append-nil}
use Prim.Native.Nat.{ℕ, ◌+◌, ◌-◌, ◌*◌, ◌≤◌, ◌<◌}
use native.Mathlib.Omega.{arith}
use lib.ListN.{length, get_or, take, drop, set, length-set, length-drop, drop_of_length-le}
use lib.Seq.{take_at, drop_at, length-take-le, take-set-lt, drop-set-lt, get_or-take, get_or-drop}
use borrow.Rule.Slice.PartMut.{mid_of, put_mid, same_len_mid}
use Rattle.lists.proofs.Cuts.{take_rest}
use Rattle.picture.specs.Pictures.{Picture, places, with_pixels}
use Rattle.topology.proofs.Accepted.{Accepted, places-bound}
use Rattle.watershed_laws.proofs.WinnerTree.{winner-fallen}
use Rattle.watershed_laws.proofs.WinnerSteps.{WinnerReady, Assigned, Building, MakingCandidates}
use Rattle.watershed_laws.proofs.Stopping.{Lowest, Stopped, Around}
use Rattle.watershed_laws.proofs.Running.{Running, NoPlace, WinnerTaken, LoweredPlace, WinnerIs, TurnDone, lowered-made}
use Rattle.watershed_laws.proofs.Turns.{Holds, running-start, winner-taken, turn-done}

-- the cells from e on come back
module _ (l : List ℕ) (e : ℕ) where
  -- what comes back lies behind, and what lies in front is as it was
  pub back-drop : (t : List ℕ) → e ≤ length l → drop e (put_mid e (length l - e) l t) ≡ t
  back-drop t h =
      let b : length (drop e l) ≤ length l - e = omega (arith, length-drop e l) in
      drop_at (take e l) (t ++ drop (length l - e) (drop e l)) e (length-take-le e l h) ∙
      (ap (λ (z : List ℕ). t ++ z) (drop_of_length-le (drop e l) b) ∙ append-nil t)

  pub back-take : (t : List ℕ) → e ≤ length l → take e (put_mid e (length l - e) l t) ≡ take e l
  back-take t h = take_at (take e l) (t ++ drop (length l - e) (drop e l)) e (length-take-le e l h)

module _ (f : Picture) (g l : List ℕ) where
  abbrev e : ℕ
  e = 3 * places f

  -- the start: the winner tree is built
  pub start-lent : length l ≡ 5 * places f → length (mid_of e (length l - e) l) ≡ 2 * places f
  start-lent size = ap length (take_rest e l) ∙ (length-drop e l ∙ omega arith)

  pub size_back : (t : List ℕ) → length l ≡ 5 * places f → length t ≡ 2 * places f → length (put_mid e (length l - e) l t) ≡ 5 * places f
  size_back t size q = same_len_mid e (length l - e) l t (q ∙ sym (start-lent size)) ∙ size

  pub start_back :
      (t : List ℕ) → length l ≡ 5 * places f → Accepted (with_pixels f g) → Holds (with_pixels f g) (take e l) → Building (places f) g t 1 →
      Running f g (take e (put_mid e (length l - e) l t)) (drop e (put_mid e (length l - e) l t)) NoPlace
  start_back t size ok h b =
      let i : e ≤ length l = omega arith in
      rw (back-take l e t i, back-drop l e t i) (running-start f g (take e l) t ok h b)

  -- a turn: the winner is taken away
  module _ (x : ℕ) (p : WinnerIs f g (take e l) (drop e l) x) (size : length l ≡ 5 * places f) where
    pub turn-ready : WinnerReady (places f) g (mid_of e (length l - e) l)
    turn-ready =
        let ok = p.running.accepted in
        record { winner = rw (take_rest e l) p.running.winner; few = places-bound (with_pixels f g) ok; pixels = ok.size; cells = start-lent size }

    assigned : (t : List ℕ) → Assigned (places f) g (mid_of e (length l - e) l) x 65535 t → Assigned (places f) g (drop e l) x 65535 t
    assigned t a = subst (λ (u : List ℕ). Assigned (places f) g u x 65535 t) (take_rest e l) a

    pub turn-back :
        (t : List ℕ) → Assigned (places f) g (mid_of e (length l - e) l) x 65535 t →
        WinnerTaken f g (take e (put_mid e (length l - e) l t)) (drop e (put_mid e (length l - e) l t)) x
    turn-back t a =
        let i : e ≤ length l = omega arith in
        rw (back-take l e t i, back-drop l e t i) (winner-taken f g (take e l) (drop e l) x p t (assigned t a))

    pub turn-over :
        (t : List ℕ) → Assigned (places f) g (mid_of e (length l - e) l) x 65535 t →
        (g₁ l₁ : List ℕ) → LoweredPlace f g (drop e (put_mid e (length l - e) l t)) g₁ (take e l₁) (drop e l₁) →
        (r : ℕ) → r ≡ get_or l₁ (e + 1) 0 → TurnDone f g (drop e l) g₁ (take e l₁) (drop e l₁) r
    turn-over t a g₁ l₁ s r q =
        let i : e ≤ length l = omega arith in
        turn-done f g (take e l) (drop e l) x p t (assigned t a) g₁ (take e l₁) (drop e l₁)
        (subst (λ (u : List ℕ). LoweredPlace f g u g₁ (take e l₁) (drop e l₁)) (back-drop l e t i) s)
        r (q ∙ sym (get_or-drop e l₁ 1 0))

  -- a fall: the map's entry is stored, and neighbours become candidates
  module _ (x : ℕ) (p : WinnerTaken f g (take e l) (drop e l) x) (size : length l ≡ 5 * places f) where
    abbrev mapped : ℕ → List ℕ
    mapped v = set l (2 * places f + x) v

    in-front : 2 * places f + x < e
    in-front = let h = p.within in omega arith

    mapped-lent : (v : ℕ) → mid_of e (length (mapped v) - e) (mapped v) ≡ drop e l
    mapped-lent v = take_rest e (mapped v) ∙ drop-set-lt e l (2 * places f + x) v in-front

    -- with any values stored at x, since x is no candidate
    pub fall-ready : (v s : ℕ) → WinnerReady (places f) (set g x s) (mid_of e (length (mapped v) - e) (mapped v))
    fall-ready v s =
        let run = p.running in
        let few = places-bound (with_pixels f g) run.accepted in
        record {
          winner = rw (mapped-lent v) (winner-fallen (places f) g (drop e l) run.winner x s p.within (omega arith) p.unset);
          few = few;
          pixels = length-set g x s ∙ run.accepted.size;
          cells = ap length (mapped-lent v) ∙ run.leaves;
        }

    module _ (ys : List ℕ) (m low s : ℕ) (around : Around f x ys m) (lowest : Lowest (places f) g x ys m low)
        (stopped : Stopped (places f) g (take e l) low (get_or g x 0) ys m s) (falls : s < get_or g x 0) where
      abbrev stored : List ℕ
      stored = mapped (get_or l (2 * places f + low) 0)

      stored-take : take e stored ≡ set (take e l) (2 * places f + x) (get_or (take e l) (2 * places f + low) 0)
      stored-take =
          let h = lowest.within in
          take-set-lt e l (2 * places f + x) (get_or l (2 * places f + low) 0) in-front ∙
          ap (λ (v : ℕ). set (take e l) (2 * places f + x) v) (sym (get_or-take e l (2 * places f + low) 0 (omega arith)))

      pub fall-back :
          (t : List ℕ) → MakingCandidates (places f) (set g x s) (mid_of e (length stored - e) stored) s (get_or g x 0) ys t m →
          LoweredPlace f g (drop e l) (set g x s) (take e (put_mid e (length stored - e) stored t)) (drop e (put_mid e (length stored - e) stored t))
      fall-back t w =
          let i : e ≤ length stored = simp length-set (omega arith) in
          rw (back-take stored e t i, back-drop stored e t i, stored-take)
          (lowered-made f g (take e l) (drop e l) x p ys m low s around lowest stopped falls t
          (subst (λ (u : List ℕ). MakingCandidates (places f) (set g x s) u s (get_or g x 0) ys t m) (mapped-lent _) w))
