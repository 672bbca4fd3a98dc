-- The component of a place, as its definition grows it, holds exactly the places that are joined to it.
use mathlib.Core.Path.{◌≡◌, refl, sym, ap, subst, ◌∙◌}
use mathlib.Core.Bool.{Bool, true, ◌&&◌, ◌||◌}
use mathlib.Core.Logic.{⊎_elim}
use mathlib.Core.List.Memᴰ
use mathlib.Core.List.{List, [], ◌∷◌, Memᴰ}
use Prim.Native.Nat.{ℕ, zero, suc, ◌+◌, ◌≤◌, ◌<◌}
use native.Mathlib.Omega.{arith}
use lib.Dec.{eqb}
use lib.ListN.{length}
use borrow.Author.Tests.{eqb-true, eqb-false}
use Rattle.lists.specs.Lists.{tally, select, range, is_in, head_of}
use Rattle.picture.specs.Pictures.{Picture, places, touch}
use Rattle.picture.specs.Components.{in_section, touches_some, grown, spread, component_at}
use Rattle.lists.proofs.Tests.{and_left, and_right, and_both, or_left, or_right, or_cases, on-elim, same_test}
use Rattle.lists.proofs.Lists.{any-mem, mem-any, length-select, tally-stronger, tally-equal, in_mem, mem-in, mem-range}
use Rattle.lists.proofs.Positions.{tally-bound}
use Rattle.lists.proofs.Rising.{Rising, none, more, rising-select, rising-equal, select-below, below-select, rising-is-select, head_in}
use Rattle.topology.proofs.Connected.{start, step, conn-source, conn-target, conn-trans, conn-closed}
use Rattle.topology.proofs.Adjacency.{Adj, At, Joined, adj-sym, joined-sym, section-at, at-section}

-- a list that holds exactly the places joined to x, rising
record Reached (p : Picture) (k x : ℕ) (c : List ℕ) : Type 0 where
  rising : Rising 0 c
  sound : (y : ℕ) → Memᴰ y c → Joined p k x y
  self : Memᴰ x c
  closed : (y z : ℕ) → Memᴰ y c → Adj p y z → At p k z → Memᴰ z c

module _ (p : Picture) (k : ℕ) where
  grows : List ℕ → ℕ → Bool
  grows c y = is_in y c || in_section p k y && touches_some p y c

  module _ (c : List ℕ) (r : Rising 0 c) (low : (y : ℕ) → Memᴰ y c → At p k y) where
    -- a rising list of places is what a range selects by membership
    as-select : c ≡ select (λ y. is_in y c) (range 0 (places p))
    as-select =
        rising-is-select (λ y. is_in y c) (places p) r (λ y m. ((low y m).within, mem-in y c m)) (λ y b h. in_mem y c h)

    length-tally : length c ≡ tally (λ y. is_in y c) (range 0 (places p))
    length-tally = ap length as-select ∙ length-select (λ y. is_in y c) (range 0 (places p))

    length-places : length c ≤ places p
    length-places =
        let a = length-tally in
        let b = tally-bound (λ y. is_in y c) (places p) in
        omega arith

    stays : (y : ℕ) → is_in y c ≡ true → grows c y ≡ true
    unfolding grows
    stays y h = or_left (in_section p k y && touches_some p y c) h

    grown-tally : length (grown p k c) ≡ tally (grows c) (range 0 (places p))
    unfolding grows
    grown-tally = length-select (grows c) (range 0 (places p))

    grown-more : length c ≤ length (grown p k c)
    grown-more =
        let a = length-tally in
        let b = grown-tally in
        let d = tally-stronger (λ y. is_in y c) (grows c) (range 0 (places p)) stays in
        omega arith

    -- if growing adds nothing, no neighbour in the section is left
    stop-closed : length (grown p k c) ≡ length c → (y z : ℕ) → Memᴰ y c → Adj p y z → At p k z → Memᴰ z c
    unfolding grows
    stop-closed e y z m a s =
        let same : tally (λ u. is_in u c) (range 0 (places p)) ≡ tally (grows c) (range 0 (places p)) =
        sym length-tally ∙ (sym e ∙ grown-tally)
        in
        in_mem z c
        (tally-equal (λ u. is_in u c) (grows c) (range 0 (places p)) stays same
        (mem-range 0 (places p) (omega arith) (omega (arith, s.within)))
        (or_right (is_in z c)
        (and_both
        (at-section p k z s)
        (mem-any (touch p z) m (adj-sym p y z a)))))

  module _ (x : ℕ) where
    grown-sound : (c : List ℕ) → ((y : ℕ) → Memᴰ y c → Joined p k x y) → (y : ℕ) → Memᴰ y (grown p k c) → Joined p k x y
    unfolding grows
    grown-sound c f y m =
        let (b, g) = select-below (grows c) (places p) m in
        ⊎_elim
        (λ h. f y (in_mem y c h))
        (λ h.
        let (z, mz, t) = any-mem (touch p y) c (and_right (in_section p k y) (touches_some p y c) h) in
        step (f z mz) (adj-sym p y z t)
        (section-at p k y b (and_left (in_section p k y) (touches_some p y c) h)))
        (or_cases (is_in y c) (in_section p k y && touches_some p y c) g)

    spread-reached :
        (l : ℕ) (c : List ℕ) → Rising 0 c → ((y : ℕ) → Memᴰ y c → Joined p k x y) → Memᴰ x c → places p < l + length c →
        Reached p k x (spread l p k c)
    unfolding grows
    spread-reached zero c r f m h =
        absurd (let b = length-places c r (λ y i. conn-target (f y i)) in omega arith)
    spread-reached (suc l) c r f m h =
        on-elim (Reached p k x) (eqb (length (grown p k c)) (length c))
        (λ e.
        record {
          rising = r;
          sound = f;
          self = m;
          closed = stop-closed c r (λ y i. conn-target (f y i)) (eqb-true (length (grown p k c)) (length c) e);
        })
        (λ e.
        let more = grown-more c r (λ y i. conn-target (f y i)) in
        let other = eqb-false (length (grown p k c)) (length c) e in
        spread-reached l (grown p k c) (rising-select (grows c) 0 (places p)) (grown-sound c f)
        (below-select (grows c) (places p) (conn-source (f x m)).within
        (stays c r (λ y i. conn-target (f y i)) x (mem-in x c m)))
        (omega arith))

module _ (p : Picture) (k : ℕ) where
  -- the bound on the steps of `spread` is large enough
  component-reached : (x : ℕ) → At p k x → Reached p k x (component_at p k x)
  unfolding component_at
  component-reached x s =
      spread-reached p k x (places p) (x ∷ []) (more (omega arith) none)
      (λ y m. subst (λ (z : ℕ). Joined p k x z) (sym (Memᴰ.eq_of_singleton m)) (start s))
      (Memᴰ.head refl)
      (omega arith)

  pub component-rising : (x : ℕ) → At p k x → Rising 0 (component_at p k x)
  component-rising x s = (component-reached x s).rising

  -- a component is closed: no further place of the section touches it
  pub component-closed : (x : ℕ) → At p k x → (y z : ℕ) → Memᴰ y (component_at p k x) → Adj p y z → At p k z → Memᴰ z (component_at p k x)
  component-closed x s = (component-reached x s).closed

  pub mem-joined : (x y : ℕ) → At p k x → Memᴰ y (component_at p k x) → Joined p k x y
  mem-joined x y s m = (component-reached x s).sound y m

  pub joined-mem : {x y : ℕ} → Joined p k x y → Memᴰ y (component_at p k x)
  joined-mem {x} c =
      let r = component-reached x (conn-source c) in
      conn-closed (λ y. Memᴰ y (component_at p k x)) r.self r.closed c

  pub in-joined : (x y : ℕ) → At p k x → is_in y (component_at p k x) ≡ true → Joined p k x y
  in-joined x y s h = mem-joined x y s (in_mem y (component_at p k x) h)

  pub joined_in : {x y : ℕ} → Joined p k x y → is_in y (component_at p k x) ≡ true
  joined_in {x} {y} c = mem-in y (component_at p k x) (joined-mem c)

  -- joined places have the same component
  pub component-same : {x y : ℕ} → Joined p k x y → component_at p k x ≡ component_at p k y
  component-same {x} {y} c =
      rising-equal (component-rising x (conn-source c)) (component-rising y (conn-target c))
      (λ z.
      same_test (is_in z (component_at p k x)) (is_in z (component_at p k y))
      (λ h. joined_in (conn-trans (joined-sym p k c) (in-joined x z (conn-source c) h)))
      (λ h. joined_in (conn-trans c (in-joined y z (conn-target c) h))))

-- the first place of the component of a place
unfoldable pub first_at : Picture → ℕ → ℕ → ℕ
first_at p k x = head_of (component_at p k x)

module _ (p : Picture) (k : ℕ) where
  pub first-joined : (x : ℕ) → At p k x → Joined p k x (first_at p k x)
  unfolding first_at
  first-joined x s =
      mem-joined p k x (head_of (component_at p k x)) s (head_in (component-rising p k x s) (joined-mem p k (start s))).0

  pub first-least : {x y : ℕ} → Joined p k x y → first_at p k x ≤ y
  unfolding first_at
  first-least {x} c = (head_in (component-rising p k x (conn-source c)) (joined-mem p k c)).1

  pub first-same : {x y : ℕ} → Joined p k x y → first_at p k x ≡ first_at p k y
  unfolding first_at
  first-same c = ap head_of (component-same p k c)

  pub same_first : (x y : ℕ) → At p k x → At p k y → first_at p k x ≡ first_at p k y → Joined p k x y
  same_first x y s t e =
      conn-trans (first-joined x s)
      (subst (λ (z : ℕ). Joined p k z y) (sym e) (joined-sym p k (first-joined y t)))

  pub first-at : (x : ℕ) → At p k x → At p k (first_at p k x)
  first-at x s = conn-target (first-joined x s)

  pub first-first : (x : ℕ) → At p k x → first_at p k (first_at p k x) ≡ first_at p k x
  first-first x s = sym (first-same (first-joined x s))
