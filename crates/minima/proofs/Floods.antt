-- The laws of the functions that count the minima: a visit, the edges of a place, the run of a flood.
use Rattle.std.proofs.Common.{◌≡◌, refl, sym, subst, ◌∙◌, Bool, true, false, ◌≢◌, List, [], ℕ, suc, ◌+◌, ◌-◌, ◌≤◌, ◌<◌, add-one, arith, eqb, length, get_or, set, drop, length-set, drop_of_length-le}
use Rattle.picture.specs.Pictures.{Picture, places, value_at, is_picture}
use Rattle.picture.specs.Geometry.{neighbours_in}
use Rattle.picture.specs.Patches.{patches}
use Rattle.picture.proofs.Neighbours.{neighbour-next, neighbours-touch, Placed}
use Rattle.lists.proofs.Lists.{in_mem, tally-length, set_back}
use Rattle.lists.proofs.Positions.{tally-bound}
use Rattle.topology.proofs.Connected.{start, conn-target}
use Rattle.labelling_laws.proofs.Zones.{Flat, ZoneFlooding, ZoneFlooded, zone-start, zone-pop, zone-done, zone-lower, zone-higher, zone-level, zone-visit, zone-end}
use Rattle.labelling_laws.proofs.ZoneScan.{unvisited-set, Scanned, scan-seen, scan-fresh, scan-lower, scan-minimum, scan-end}
use Rattle.topology.proofs.Leaves.{bottom}
use Rattle.topology.proofs.Accepted.{accepted-is, places-bound, placed, value_in}
use Rattle.minima.specs.declared.Stack.{Stack}
use Rattle.minima.specs.Minima.{CellEach, ZoneRoom, ZoneMoved, popped, ZoneFloods, Visit, ZoneSpread, ZoneTurn, ZoneSeed, Counting}

-- no place is visited
zone-moved-none : (cells : List ℕ) (s : Stack) (low : Bool) → s.top ≢ 65535 → ZoneMoved cells s cells (record { top = s.top; height = s.height; low = low })
zone-moved-none cells s low d = record { size = refl; link = d; room = omega arith; less = omega arith }

zone-moved-more : {cells m o : List ℕ} {s u v : Stack} → ZoneMoved cells s m u → ZoneMoved m u o v → ZoneMoved cells s o v
zone-moved-more a b =
    record {
      size = b.size ∙ a.size;
      link = b.link;
      room = let x = a.room in let z = b.room in omega arith;
      less = let x = a.less in let z = b.less in omega arith;
    }

-- the room for the next visit, if x was on top of the stack before
pub zone-moved-room :
    (pixels cells : List ℕ) (s : Stack) (after : List ℕ) (r : Stack) (x : ℕ) → ZoneRoom pixels cells s →
    ZoneMoved cells (popped cells x s) after r → ZoneRoom pixels after r
zone-moved-room pixels cells s after r x a b =
    let c = a.room in
    let d = b.room in
    record {
      sizes = record { few = a.sizes.few; size = b.size ∙ a.sizes.size };
      link = b.link;
      room = omega arith;
    }

module _ (pixels : List ℕ) (k y : ℕ) (cells : List ℕ) (s : Stack) (room : ZoneRoom pixels cells s) where
  pub visit-lower : get_or pixels y 0 < k → Visit pixels k y cells s cells (record { top = s.top; height = s.height; low = true })
  visit-lower h =
      record {
        moved = zone-moved-none cells s true room.link;
        follows =
            λ p x q before zs e b r f.
            zone-lower p k x before cells s.top s.height s.low q y zs f r b
            (let v = value_in p pixels e y in omega arith);
      }

  pub visit-higher : k < get_or pixels y 0 → Visit pixels k y cells s cells s
  visit-higher h =
      record {
        moved = zone-moved-none cells s s.low room.link;
        follows =
            λ p x q before zs e b r f.
            zone-higher p k x before cells s.top s.height s.low q y zs f (let v = value_in p pixels e y in omega arith);
      }

  pub visit-visited : get_or pixels y 0 ≡ k → get_or cells y 0 ≢ 65535 → Visit pixels k y cells s cells s
  visit-visited h m =
      record {
        moved = zone-moved-none cells s s.low room.link;
        follows =
            λ p x q before zs e b r f.
            zone-level p k x before cells s.top s.height s.low q y zs f (value_in p pixels e y ∙ h) m;
      }

  pub visit-new :
      y < length pixels → get_or pixels y 0 ≡ k → get_or cells y 0 ≡ 65535 →
      Visit pixels k y cells s (set cells y s.top) (record { top = y; height = s.height + 1; low = s.low })
  visit-new b h m =
      let size = room.sizes.size in
      let few = room.sizes.few in
      let c : y < length cells = omega arith in
      let u = unvisited-set cells y s.top c m room.link in
      let d : y ≢ 65535 = λ e. absurd (omega arith) in
      record {
        moved = record { size = length-set cells y s.top; link = d; room = omega arith; less = omega arith };
        follows =
            λ p x q before zs e i r f.
            subst (λ (t : ℕ). ZoneFlooding p k x before (set cells y s.top) y t s.low q zs) (sym (add-one s.height))
            (zone-visit p k x before cells s.top s.height s.low q y zs f r i (value_in p pixels e y ∙ h) m c d);
      }

module _ (p : Picture) (k q : ℕ) where
  -- the visit to the next of the neighbours of q
  pub spread-next :
      (i y : ℕ) (cells : List ℕ) (s : Stack) (m : List ℕ) (u : Stack) (o : List ℕ) (v : Stack) →
      i < length (neighbours_in p q) → y ≡ get_or (neighbours_in p q) i 0 →
      ZoneSpread p k q (neighbours_in p q) (drop i (neighbours_in p q)) cells s m u → Visit p.pixels k y m u o v →
      ZoneSpread p k q (neighbours_in p q) (drop (i + 1) (neighbours_in p q)) cells s o v
  spread-next i y cells s m u o v h e f g =
      let (b, r, split) = neighbour-next p q i y h e in
      record {
        moved = zone-moved-more f.moved g.moved;
        follows =
            λ x before w.
            g.follows p x q before (drop (i + 1) (neighbours_in p q)) refl b r
            (subst (λ (zs : List ℕ). ZoneFloods p k x before m u q zs) split (f.follows x before w));
      }

  -- all neighbours of the top visited
  pub spread-turn :
      (cells : List ℕ) (s : Stack) (after : List ℕ) (r : Stack) (i : ℕ) → 1 ≤ p.width → q ≡ s.top → 1 ≤ s.height →
      length (neighbours_in p q) ≤ i →
      ZoneSpread p k q (neighbours_in p q) (drop i (neighbours_in p q)) cells (popped cells q s) after r → ZoneTurn p k cells s after r
  spread-turn cells s after r i some e h n f =
      record {
        moved = subst (λ (x : ℕ). ZoneMoved cells (popped cells x s) after r) e f.moved;
        follows =
            λ x before w.
            zone-done p k x before after r.top r.height r.low
            (subst (λ (zs : List ℕ). ZoneFloods p k x before after r q zs) none
            (f.follows x before
            (zone-pop p k x before cells q (s.height - 1) s.low (neighbours_in p q)
            (subst (λ (z : ℕ). ZoneFlooding p k x before cells z (suc (s.height - 1)) s.low x []) (sym e)
            (subst (λ (t : ℕ). ZoneFlooding p k x before cells s.top t s.low x []) up w))
            (λ z b g. in_mem z (neighbours_in p q) ((neighbours-touch p q z some).1 (b, g))))));
      }
    where
      up : s.height ≡ suc (s.height - 1)
      up = omega arith

      none : drop i (neighbours_in p q) ≡ []
      none = drop_of_length-le (neighbours_in p q) n

-- a flood of the zone of x as it runs
pub record ZoneRunning (p : Picture) (k x : ℕ) (before cells : List ℕ) (s : Stack) : Type 0 where
  pub room : ZoneRoom p.pixels cells s
  pub flooding : ZoneFloods p k x before cells s x []

module _ (p : Picture) (x : ℕ) where
  pub running-start :
      (cells : List ℕ) → CellEach p.pixels cells → length p.pixels ≡ places p → x < places p → ZoneSeed p x cells →
      ZoneRunning p (value_at p x) x (set (set cells x 65534) x 65535) (set cells x 65534) (record { top = x; height = 1; low = false })
  running-start cells z n b f =
      let flat : Flat p (value_at p x) x = record { within = b; value = refl } in
      let size = z.size in
      let few = z.few in
      let h : x < length cells = omega arith in
      let new = f.fresh x (start flat) in
      let d : x ≢ 65535 = λ e. absurd (omega arith) in
      let u = unvisited-set cells x 65534 h new (λ e. absurd (omega arith)) in
      let most = tally-length (eqb 65535) cells in
      record {
        room =
            record {
              sizes = record { few = few; size = length-set cells x 65534 ∙ size };
              link = d;
              room = omega arith;
            };
        flooding =
            subst (λ (l : List ℕ). ZoneFlooding p (value_at p x) x l (set cells x 65534) x 1 false x []) (sym (set_back cells x 65534 65535 new))
            (zone-start p (value_at p x) x cells flat h d f.fresh);
      }

  module _ (k : ℕ) (before cells : List ℕ) (s : Stack) (f : ZoneRunning p k x before cells s) where
    -- what lies on the stack is a place that is visited
    pub running-top : 1 ≤ s.height → (s.top < places p) × (get_or cells s.top 0 ≢ 65535)
    running-top h = let (c, m) = f.flooding.search.stack s.top (0, omega arith, refl) in ((conn-target c).within, m)

    pub running-turn : (after : List ℕ) (r : Stack) → 1 ≤ s.height → ZoneTurn p k cells s after r → ZoneRunning p k x before after r
    running-turn after r h t =
        record {
          room = zone-moved-room p.pixels cells s after r s.top f.room t.moved;
          flooding = t.follows x before f.flooding;
        }

  pub running-end :
      (cells after : List ℕ) (s : Stack) → ZoneSeed p x cells → x < places p → s.height ≡ 0 →
      ZoneRunning p (value_at p x) x (set (set cells x 65534) x 65535) after s → ZoneFlooded p (value_at p x) x cells after s.low
  running-end cells after s g b e f =
      let new = g.fresh x f.flooding.search.seed.0 in
      subst (λ (l : List ℕ). ZoneFlooded p (value_at p x) x l after s.low) (set_back cells x 65534 65535 new)
      (zone-end p (value_at p x) x (set (set cells x 65534) x 65535) after s.top s.low
      (subst (λ (t : ℕ). ZoneFlooding p (value_at p x) x (set (set cells x 65534) x 65535) after s.top t s.low x []) e f.flooding))

-- the steps of the count
module _ (p : Picture) (ok : is_picture p ≡ true) (x r : ℕ) (cells : List ℕ) (c : Counting p x r cells) (b : x < places p) where
  pub counting-few : r ≤ x
  counting-few =
      let e = c.scanned.count in
      let a = tally-bound (bottom p) x in
      omega arith

  pub counting-placed : Placed p.width p.height x
  counting-placed = placed p (accepted-is p ok) x b

  pub counting-sizes : CellEach p.pixels cells
  counting-sizes =
      let a = accepted-is p ok in
      let n = places-bound p a in
      let e = a.size in
      record { few = omega arith; size = c.size ∙ sym e }

  pub counting-seed : get_or cells x 0 ≡ 65535 → ZoneSeed p x cells
  counting-seed new = record { fresh = scan-fresh p x r cells b c.scanned new }

  counted : (q : ℕ) (after : List ℕ) → length after ≡ length cells → Scanned p (suc x) q after → Counting p (x + 1) q after
  counted q after e s =
      record {
        size = e ∙ c.size;
        scanned = subst (λ (y : ℕ). Scanned p y q after) (sym (add-one x)) s;
      }

  pub counting-seen : get_or cells x 0 ≢ 65535 → Counting p (x + 1) r cells
  counting-seen m = counted r cells refl (scan-seen p x r cells b c.scanned m)

  module _ (new : get_or cells x 0 ≡ 65535) (after : List ℕ) (low : Bool) (f : ZoneFlooded p (value_at p x) x cells after low) (e : length after ≡ length cells) where
    pub counting-lower : low ≡ true → Counting p (x + 1) r after
    counting-lower l = counted r after e (scan-lower p x r cells b c.scanned new after low f l)

    pub counting-minimum : low ≡ false → Counting p (x + 1) (r + 1) after
    counting-minimum l =
        subst (λ (q : ℕ). Counting p (x + 1) q after) (sym (add-one r))
        (counted (suc r) after e (scan-minimum p x r cells b c.scanned new after low f l))

pub counting-end :
    (p : Picture) (x r : ℕ) (cells : List ℕ) → is_picture p ≡ true → x ≡ places p → Counting p x r cells → r ≡ length (patches p)
counting-end p x r cells ok e c = scan-end p r cells (accepted-is p ok) (subst (λ (y : ℕ). Scanned p y r cells) e c.scanned)
