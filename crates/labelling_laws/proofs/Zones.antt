-- Flat zones: a flood over places of one value, its stack linked in the cells.
use mathlib.Core.Path.{◌≡◌, refl, sym, ap, ◌∙◌}
use mathlib.Core.Bool.{Bool, true, false, false≢true}
use mathlib.Core.Logic.{◌⊎◌, inl, inr, ⊎_elim, ◌≢◌}
use mathlib.Core.List.{List, [], ◌∷◌, Memᴰ}
use Prim.Native.Nat.{ℕ, zero, suc, ◌≤◌, ◌<◌}
use native.Mathlib.Omega.{arith}
use lib.ListN.{length, get_or, set}
use lib.Seq.{get_or-set_same, get_or-set_other}
use Rattle.picture.specs.Pictures.{Picture, places, value_at}
use Rattle.lists.proofs.Tests.{test-false}
use Rattle.topology.proofs.Connected.{Conn, start, step, conn-source, conn-target, conn-mono, conn-closed}
use Rattle.topology.proofs.Adjacency.{Adj, At, Joined}
use Rattle.topology.proofs.Leaves.{leaf_at, leaf-sound, leaf-complete}
use Rattle.labelling_laws.proofs.Search.{Grown, grown-all, Search, search-start, search-pop, search-done, search-pass, search-mark, search-end}
use Rattle.lists.proofs.Lists.{set_cases}

-- y is a place of value k
pub record Flat (p : Picture) (k y : ℕ) : Type 0 where
  pub within : y < places p
  pub value : value_at p y ≡ k

-- x and y are in one flat zone of value k
abbrev pub Zone : Picture → ℕ → ℕ → ℕ → Type 0
Zone p k x y = Conn (Adj p) (Flat p k) x y

-- the zone of s has a neighbour of lower value
pub record LowerNeighbour (p : Picture) (k s : ℕ) : Type 0 where
  pub place : ℕ
  pub near : ℕ
  pub zone : Zone p k s place
  pub touches : Adj p place near
  pub within : near < places p
  pub less : value_at p near < k

module _ (p : Picture) (k : ℕ) where
  flat-at : (y : ℕ) → Flat p k y → At p k y
  flat-at y f = record { within = f.within; low = let e = f.value in omega arith }

  pub zone-joined : {x y : ℕ} → Zone p k x y → Joined p k x y
  zone-joined c = conn-mono flat-at c

  -- a zone with no lower neighbour is a whole component
  pub zone-whole :
      {x y : ℕ} → Flat p k x → ((y z : ℕ) → Zone p k x y → Adj p y z → z < places p → k ≤ value_at p z) →
      Joined p k x y → Zone p k x y
  zone-whole {x} f high c =
      conn-closed (Zone p k x) (start f)
      (λ y z m r s.
      step m r
      (record { within = s.within; value = let a = high y z m r s.within in let b = s.low in omega arith }))
      c

  pub zone-leaf :
      (x : ℕ) → Flat p k x → ((y z : ℕ) → Zone p k x y → Adj p y z → z < places p → k ≤ value_at p z) → leaf_at p k x ≡ true
  zone-leaf x f high = leaf-complete p k x (flat-at x f) (λ y c. (conn-target (zone-whole f high c)).value)

  -- and one with a lower neighbour is no minimum
  pub lower-no-leaf : (x : ℕ) → LowerNeighbour p k x → leaf_at p k x ≡ false
  lower-no-leaf x l =
      test-false (leaf_at p k x)
      (λ h.
      let c = zone-joined l.zone in
      let e = l.less in
      let b : value_at p l.near ≤ k = omega arith in
      let v =
      leaf-sound p k x (conn-source c) h l.near (step c l.touches (record { within = l.within; low = b }))
      in
      omega arith)

-- the places on a stack that is linked in the cells, from the top down
abbrev pub linked : List ℕ → ℕ → ℕ → ℕ
linked cells top zero = top
linked cells top (suc j) = linked cells (get_or cells top 0) j

-- y is one of the t places on that stack
abbrev pub Linked : List ℕ → ℕ → ℕ → ℕ → Type 0
Linked cells top t y = (j : ℕ) × (j < t) × (linked cells top j ≡ y)

-- y is visited; 65535: not visited
abbrev pub Seen : List ℕ → ℕ → Type 0
Seen cells y = get_or cells y 0 ≢ 65535

-- y is in the zone of s and visited
abbrev pub ZoneSeen : Picture → ℕ → ℕ → List ℕ → ℕ → Type 0
ZoneSeen p k s cells y = Zone p k s y × Seen cells y

-- the edge to z is followed: z is higher, or of value k and visited, or lower and that is noted
pub data Followed (p : Picture) (k : ℕ) (cells : List ℕ) (low : Bool) (z : ℕ) : Type 0 where
  higher : k < value_at p z → Followed p k cells low z
  level : value_at p z ≡ k → get_or cells z 0 ≢ 65535 → Followed p k cells low z
  noted : value_at p z < k → low ≡ true → Followed p k cells low z

-- the flood of the zone of s over the cells before, while the edges from q to the places zs are followed
pub record ZoneFlooding (p : Picture) (k s : ℕ) (before cells : List ℕ) (top t : ℕ) (low : Bool) (q : ℕ) (zs : List ℕ) : Type 0 where
  pub link : top ≢ 65535
  pub sound : (y : ℕ) → Seen cells y → Zone p k s y ⊎ Seen before y
  pub kept : (y : ℕ) → Seen before y → Seen cells y
  pub search : Search (Adj p) (λ z. z < places p) (ZoneSeen p k s cells) (Followed p k cells low) (Linked cells top t) s q zs
  pub lower : low ≡ true → LowerNeighbour p k s

-- the zone of s is visited, nothing else, and a lower neighbour is noted exactly if there is one
pub record ZoneFlooded (p : Picture) (k s : ℕ) (before cells : List ℕ) (low : Bool) : Type 0 where
  pub new : (y : ℕ) → Zone p k s y → get_or cells y 0 ≢ 65535
  pub old : (y : ℕ) → get_or before y 0 ≢ 65535 → get_or cells y 0 ≢ 65535
  pub only : (y : ℕ) → get_or cells y 0 ≢ 65535 → Zone p k s y ⊎ (get_or before y 0 ≢ 65535)
  pub lower : low ≡ true → LowerNeighbour p k s
  pub high : low ≡ false → (y z : ℕ) → Zone p k s y → Adj p y z → z < places p → k ≤ value_at p z

-- a store at a place that is not on the stack
linked-set :
    (cells : List ℕ) (z v top j : ℕ) → ((i : ℕ) → i < j → linked cells top i ≢ z) →
    linked (set cells z v) top j ≡ linked cells top j
linked-set cells z v top zero h = refl
linked-set cells z v top (suc j) h =
    ap (λ (u : ℕ). linked (set cells z v) u j) (get_or-set_other cells z top v 0 (h 0 (omega arith))) ∙
    linked-set cells z v (get_or cells top 0) j (λ i b. h (suc i) (omega arith))

-- one place more, at the top
linked-more :
    (cells after : List ℕ) (top t z : ℕ) → ((j : ℕ) → j < t → linked after z (suc j) ≡ linked cells top j) →
    Grown (Linked cells top t) (Linked after z (suc t)) z
linked-more cells after top t z below =
    record { keeps = λ y (j, h, e). (suc j, omega arith, below j h ∙ e); new = (0, omega arith, refl); only = λ y (j, h, e). only y j h e }
  where
    only : (y j : ℕ) → j < suc t → linked after z j ≡ y → (y ≡ z) ⊎ Linked cells top t y
    only y zero h e = inl (sym e)
    only y (suc j) h e = let b : j < t = omega arith in inr (j, b, sym (below j b) ∙ e)

module _ (cells : List ℕ) (z v : ℕ) (h : z < length cells) where
  linked-push : (t : ℕ) → ((y : ℕ) → Linked cells v t y → y ≢ z) → Grown (Linked cells v t) (Linked (set cells z v) z (suc t)) z
  linked-push t off =
      linked-more cells (set cells z v) v t z
      (λ j b.
      ap (λ (u : ℕ). linked (set cells z v) u j) (get_or-set_same cells z v 0 h) ∙
      linked-set cells z v v j (λ i c. off (linked cells v i) (i, omega arith, refl)))

  seen-set : v ≢ 65535 → Grown (Seen cells) (Seen (set cells z v)) z
  seen-set d =
      record {
        keeps = λ y m. ⊎_elim (λ w. λ e. d (sym w.1 ∙ e)) (λ w. λ e. m (sym w.1 ∙ e)) (set_cases cells z v y h);
        new = λ e. d (sym (get_or-set_same cells z v 0 h) ∙ e);
        only = λ y m. ⊎_elim (λ w. inl w.0) (λ w. inr (λ e. m (w.1 ∙ e))) (set_cases cells z v y h);
      }

-- what grows by z grows so within Z, if z is there
zone-grown : {Z P P₁ : ℕ → Type 0} {z : ℕ} → Z z → Grown P P₁ z → Grown (λ y. Z y × P y) (λ y. Z y × P₁ y) z
zone-grown i g =
    record {
      keeps = λ y m. (m.0, g.keeps y m.1);
      new = (i, g.new);
      only = λ y m. ⊎_elim (λ e. inl e) (λ w. inr (m.0, w)) (g.only y m.1);
    }

module _ (p : Picture) (k s : ℕ) (before : List ℕ) where
  -- the seed visited and alone on the stack
  pub zone-start :
      Flat p k s → s < length before → s ≢ 65535 → ((y : ℕ) → Zone p k s y → get_or before y 0 ≡ 65535) →
      ZoneFlooding p k s before (set before s 65534) s 1 false s []
  zone-start f h d fresh =
      let g = seen-set before s 65534 h (λ e. absurd (omega arith)) in
      record {
        link = d;
        sound = grown-all (λ y. Zone p k s y ⊎ Seen before y) g (inl (start f)) (λ y m. inr m);
        kept = g.keeps;
        search =
            search-start (zone-grown (start f) g) (linked-push before s 65534 h 0 (λ y (j, b, e). absurd (omega arith)))
            (λ y m. m.1 (fresh y m.0))
            (λ y (j, b, e). absurd (omega arith));
        lower = λ e. absurd (false≢true e);
      }

  module _ (cells : List ℕ) (top t : ℕ) (low : Bool) where
    -- the top of the stack taken off, with the places that touch it
    pub zone-pop :
        {q : ℕ} (zs : List ℕ) → ZoneFlooding p k s before cells top (suc t) low q [] →
        ((z : ℕ) → z < places p → Adj p top z → Memᴰ z zs) →
        ZoneFlooding p k s before cells (get_or cells top 0) t low top zs
    zone-pop zs f near-all =
        record {
          link = (f.search.stack top (0, omega arith, refl)).1;
          sound = f.sound;
          kept = f.kept;
          search = search-pop f.search zs (linked-more cells cells (get_or cells top 0) t top (λ j b. refl)) near-all;
          lower = f.lower;
        }

    -- all edges from q followed
    pub zone-done : {q : ℕ} → ZoneFlooding p k s before cells top t low q [] → ZoneFlooding p k s before cells top t low s []
    zone-done f = record { link = f.link; sound = f.sound; kept = f.kept; search = search-done f.search; lower = f.lower }

    module _ (q z : ℕ) (zs : List ℕ) (f : ZoneFlooding p k s before cells top t low q (z ∷ zs)) where
      -- the next edge is followed without a visit
      zone-pass :
          (low' : Bool) → (low ≡ true → low' ≡ true) → Followed p k cells low' z → (low' ≡ true → LowerNeighbour p k s) →
          ZoneFlooding p k s before cells top t low' q zs
      zone-pass low' g h l =
          record { link = f.link; sound = f.sound; kept = f.kept; search = search-pass f.search still (λ y m r w. h); lower = l }
        where
          still : (u : ℕ) → Followed p k cells low u → Followed p k cells low' u
          still u (higher e) = higher e
          still u (level e m) = level e m
          still u (noted h e) = noted h (g e)

      -- a lower neighbour
      pub zone-lower : Adj p q z → z < places p → value_at p z < k → ZoneFlooding p k s before cells top t true q zs
      zone-lower r b h =
          zone-pass true (λ e. refl) (noted h refl)
          (λ e. record { place = q; near = z; zone = f.search.from.0; touches = r; within = b; less = h })

      pub zone-higher : k < value_at p z → ZoneFlooding p k s before cells top t low q zs
      zone-higher h = zone-pass low (λ e. e) (higher h) f.lower

      pub zone-level : value_at p z ≡ k → get_or cells z 0 ≢ 65535 → ZoneFlooding p k s before cells top t low q zs
      zone-level e h = zone-pass low (λ e. e) (level e h) f.lower

      -- the next place is visited and put on the stack
      pub zone-visit :
          Adj p q z → z < places p → value_at p z ≡ k → get_or cells z 0 ≡ 65535 → z < length cells → z ≢ 65535 →
          ZoneFlooding p k s before (set cells z top) z (suc t) low q zs
      zone-visit r b v new h d =
          record {
            link = d;
            sound = grown-all (λ y. Zone p k s y ⊎ Seen before y) g (inl inside) f.sound;
            kept = λ y m. g.keeps y (f.kept y m);
            search = search-mark f.search still (zone-grown inside g) (linked-push cells z top h t off) (level v g.new);
            lower = f.lower;
          }
        where
          g : Grown (Seen cells) (Seen (set cells z top)) z
          g = seen-set cells z top h f.link

          inside : Zone p k s z
          inside = step f.search.from.0 r (record { within = b; value = v })

          off : (y : ℕ) → Linked cells top t y → y ≢ z
          off y l e = (f.search.stack y l).1 (ap (λ (u : ℕ). get_or cells u 0) e ∙ new)

          still : (u : ℕ) → Followed p k cells low u → Followed p k (set cells z top) low u
          still u (higher e) = higher e
          still u (level e m) = level e (g.keeps u m)
          still u (noted h e) = noted h e

  -- with an empty stack the zone is visited
  pub zone-end : {q : ℕ} (cells : List ℕ) (top : ℕ) (low : Bool) → ZoneFlooding p k s before cells top 0 low q [] → ZoneFlooded p k s before cells low
  zone-end cells top low f =
      record {
        new = λ y c. (all_new y c).1;
        old = f.kept;
        only = f.sound;
        lower = f.lower;
        high = λ e y z c r b. rise e z (follow y z (all_new y c) r b);
      }
    where
      follow : (y z : ℕ) → ZoneSeen p k s cells y → Adj p y z → z < places p → Followed p k cells low z
      follow = search-end f.search (λ y (j, b, e). absurd (omega arith))

      rise : low ≡ false → (z : ℕ) → Followed p k cells low z → k ≤ value_at p z
      rise e z (higher g) = omega arith
      rise e z (level g m) = omega arith
      rise e z (noted h g) = absurd (false≢true (sym e ∙ g))

      visited : (z : ℕ) → value_at p z ≡ k → Followed p k cells low z → get_or cells z 0 ≢ 65535
      visited z v (higher g) = absurd (omega arith)
      visited z v (level g m) = m
      visited z v (noted h g) = absurd (omega arith)

      all_new : (y : ℕ) → Zone p k s y → ZoneSeen p k s cells y
      all_new y c =
          conn-closed (ZoneSeen p k s cells) f.search.seed
          (λ y z m r b. (step m.0 r b, visited z b.value (follow y z m r b.within)))
          c
