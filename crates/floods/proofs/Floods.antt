-- The laws of a flood's functions: what a visit moves, and how the edges still to follow get fewer.
use mathlib.Core.Path.{◌≡◌, refl, sym, ap, subst, ◌∙◌}
use mathlib.Core.Logic.{◌≢◌}
use mathlib.Core.List.{List, [], ◌∷◌}
use Prim.Native.Nat.{ℕ, suc, ◌+◌, ◌≤◌, ◌<◌}
use native.Mathlib.Numerals.{add-one}
use native.Mathlib.Omega.{arith}
use mathlib.Core.Bool.{false}
use lib.Dec.{leb}
use borrow.Author.Tests.{leb-false}
use lib.ListN.{length, get_or, set, drop, length-set}
use lib.Seq.{drop-length}
use Rattle.picture.specs.Pictures.{Picture, places}
use Rattle.picture.specs.Geometry.{neighbours_in}
use Rattle.picture.proofs.Neighbours.{neighbour-next, neighbours-touch}
use Rattle.lists.proofs.Lists.{in_mem, set_back}
use Rattle.topology.proofs.Connected.{start, conn-target}
use Rattle.topology.proofs.Adjacency.{Adj}
use Rattle.labelling_laws.proofs.Flood.{unmarked, unmarked-set, Flooding, Flooded, flood-start, flood-pop, flood-done, flood-pass, flood-mark, flood-end}
use Rattle.floods.specs.Floods.{Room, Visited, passed, marked, Moved, Spread, Seed}

-- a place without a label is one of the unmarked
pub unmarked-some : (l : List ℕ) (y : ℕ) → y < length l → get_or l y 0 ≡ 0 → 1 ≤ unmarked l
unmarked-some l y h e = let q = unmarked-set l y 1 h e (λ d. absurd (omega arith)) in omega arith

module _ (l stack : List ℕ) (t : ℕ) where
  pub moved_none : Moved l stack t l stack t
  moved_none = record { label = refl; cells = refl; room = omega arith; less = omega arith }

  pub moved_more :
      (m after : List ℕ) (r : ℕ) (o last : List ℕ) (u : ℕ) → Moved l stack t m after r → Moved m after r o last u →
      Moved l stack t o last u
  moved_more m after r o last u a b =
      record {
        label = b.label ∙ a.label;
        cells = b.cells ∙ a.cells;
        room = omega arith;
        less = omega arith;
      }

  -- what is left of the room holds for what was moved
  pub moved-room : {n : ℕ} {pixels m after : List ℕ} {r : ℕ} → Room n pixels l stack t → Moved l stack t m after r → Room n pixels m after r
  moved-room a b =
      record {
        few = a.few;
        pixel = a.pixel;
        label = b.label ∙ a.label;
        cells = let q = a.cells in let e = b.cells in omega arith;
        room = let q = a.room in let e = b.room in omega arith;
      }

  -- a mark at y, put on the stack
  pub moved-mark : {n : ℕ} (y c : ℕ) → length l ≡ n → t + unmarked l ≤ n → y < n → get_or l y 0 ≡ 0 → c ≢ 0 → Moved l stack t (set l y c) (set stack t y) (t + 1)
  moved-mark y c size room h e d =
      let b : y < length l = omega arith in
      let q = unmarked-set l y c b e d in
      record {
        label = length-set l y c;
        cells = length-set stack t y;
        room = omega arith;
        less = omega arith;
      }

  pub moved-visit :
      {n : ℕ} (pixels : List ℕ) (k y c : ℕ) (m after : List ℕ) (r : ℕ) → Room n pixels l stack t → y < n → c ≢ 0 →
      Visited pixels k y c l stack t m after r → Moved l stack t m after r
  moved-visit pixels k y c m after r a h d (passed e f g q) = rw (e, f, g) moved_none
  moved-visit pixels k y c m after r a h d (marked e f g q s) = rw (e, f, g) (moved-mark y c a.label a.room h s d)

module _ (p : Picture) (k c q : ℕ) where
  -- one visit to a place that touches q
  visit-flood :
      (s : ℕ) (before : List ℕ) (y : ℕ) (us l stack : List ℕ) (t : ℕ) (m after : List ℕ) (r : ℕ) →
      Room (places p) p.pixels l stack t → y < places p → Adj p q y →
      Visited p.pixels k y c l stack t m after r →
      Flooding p k s c before l stack t q (y ∷ us) → Flooding p k s c before m after r q us
  visit-flood s before y us l stack t m after r a h e (passed i f g d) w =
      rw (i, f, g) (flood-pass p k s c before l stack t q y us w (λ b. d b.low))
  visit-flood s before y us l stack t m after r a h e (marked i f g v z) w =
      let size = a.label in
      let b : y < length l = omega arith in
      let some = unmarked-some l y b z in
      let room = a.room in
      let cells = a.cells in
      rw (i, f, g, add-one t)
      (flood-mark p k s c before l stack t q y us w e (record { within = h; low = v }) b (omega arith))

  pub spread-turn :
      (y : ℕ) (zs us l stack : List ℕ) (t : ℕ) (m after : List ℕ) (r : ℕ) (o last : List ℕ) (u : ℕ) →
      Room (places p) p.pixels l stack t → y < places p → Adj p q y → c ≢ 0 →
      Spread p k c q zs (y ∷ us) l stack t m after r → Visited p.pixels k y c m after r o last u →
      Spread p k c q zs us l stack t o last u
  spread-turn y zs us l stack t m after r o last u a h e d f v =
      let b = moved-room l stack t a f.moved in
      record {
        moved =
            moved_more l stack t m after r o last u f.moved
            (moved-visit m after r p.pixels k y c o last u b h d v);
        follows = λ s before w. visit-flood s before y us m after r o last u b h e v (f.follows s before w);
      }

  -- the visit to the next of the neighbours of q
  pub spread-next :
      (i y : ℕ) (l stack : List ℕ) (t : ℕ) (m after : List ℕ) (r : ℕ) (o last : List ℕ) (u : ℕ) →
      Room (places p) p.pixels l stack t → i < length (neighbours_in p q) → y ≡ get_or (neighbours_in p q) i 0 → c ≢ 0 →
      Spread p k c q (neighbours_in p q) (drop i (neighbours_in p q)) l stack t m after r →
      Visited p.pixels k y c m after r o last u →
      Spread p k c q (neighbours_in p q) (drop (i + 1) (neighbours_in p q)) l stack t o last u
  spread-next i y l stack t m after r o last u a b g d f v =
      let ns = neighbours_in p q in
      let (h, e, split) = neighbour-next p q i y b g in
      spread-turn y ns (drop (i + 1) ns) l stack t m after r o last u a h e d
      (subst (λ us. Spread p k c q ns us l stack t m after r) split f) v

  pub spread_end :
      (i : ℕ) (l stack : List ℕ) (t : ℕ) (m after : List ℕ) (r : ℕ) → i ≡ length (neighbours_in p q) →
      Spread p k c q (neighbours_in p q) (drop i (neighbours_in p q)) l stack t m after r →
      Spread p k c q (neighbours_in p q) [] l stack t m after r
  spread_end i l stack t m after r e f =
      subst (λ us. Spread p k c q (neighbours_in p q) us l stack t m after r)
      (ap (λ j. drop j (neighbours_in p q)) e ∙ drop-length (neighbours_in p q))
      f

-- a place outside the section is passed
pub visit-outside :
    (pixels : List ℕ) (k y c : ℕ) (l stack : List ℕ) (t : ℕ) → leb (get_or pixels y 0) k ≡ false →
    Visited pixels k y c l stack t l stack t
visit-outside pixels k y c l stack t e = let h = leb-false (get_or pixels y 0) k e in passed refl refl refl (λ g. absurd (omega arith))

-- the invariant of a flood over the labels before, with a stack of height r that has as many cells as at first
pub record FloodRun (p : Picture) (k x c : ℕ) (before stack m after : List ℕ) (r : ℕ) : Type 0 where
  pub room : Room (places p) p.pixels m after r
  pub cells : length after ≡ length stack
  pub flooding : Flooding p k x c before m after r x []

module _ (p : Picture) (k x c : ℕ) where
  pub seed-empty : (l : List ℕ) → Seed p k x c l → get_or l x 0 ≡ 0
  seed-empty l s = s.fresh x (start s.at)

  pub seed-some : (l : List ℕ) → Seed p k x c l → c ≢ 0
  seed-some l s e = s.new x (seed-empty l s ∙ sym e)

  -- x is marked and alone on the stack
  pub run-start :
      (l stack : List ℕ) → Room (places p) p.pixels l stack 0 → Seed p k x c l →
      FloodRun p k x c (set (set l x c) x 0) (set stack 0 x) (set l x c) (set stack 0 x) 1
  run-start l stack a s =
      let b = s.at.within in
      let size = a.label in
      let cells = a.cells in
      let h : x < length l = omega arith in
      let e : set (set l x c) x 0 ≡ l = set_back l x c 0 (seed-empty l s) in
      rw e
      (record {
        room = moved-room l stack 0 a (moved-mark l stack 0 x c size a.room b (seed-empty l s) (seed-some l s));
        cells = refl;
        flooding = flood-start p k x c l stack s.at h (omega arith) s.fresh s.new;
      })

  module _ (before stack m after : List ℕ) (t r : ℕ) (e : t ≡ suc r) (f : FloodRun p k x c before stack m after t) where
    flooding-top : Flooding p k x c before m after (suc r) x []
    flooding-top = subst (λ u. Flooding p k x c before m after u x []) e f.flooding

    -- what lies on the stack is a place
    pub run-top : get_or after r 0 < places p
    run-top = (conn-target (flooding-top.sound (get_or after r 0) (flooding-top.search.stack (get_or after r 0) (r, omega arith, refl)))).within

    pub run_room : Room (places p) p.pixels m after r
    run_room =
        let a = f.room in
        record { few = a.few; pixel = a.pixel; label = a.label; cells = a.cells; room = let g = a.room in omega arith }

    -- the top of the stack is taken off and its neighbours are visited
    pub run-turn :
        (q : ℕ) (o last : List ℕ) (u : ℕ) → 1 ≤ p.width → q ≡ get_or after r 0 →
        Spread p k c q (neighbours_in p q) [] m after r o last u →
        FloodRun p k x c before stack o last u
    run-turn q o last u some top g =
        record {
          room = moved-room m after r run_room g.moved;
          cells = g.moved.cells ∙ f.cells;
          flooding =
              flood-done p k x c before o last u
              (g.follows x before
              (subst (λ z. Flooding p k x c before m after r z (neighbours_in p q)) (sym top)
              (flood-pop p k x c before m after r (neighbours_in p q) flooding-top
              (λ z h a. in_mem z (neighbours_in p q) ((neighbours-touch p q z some).1 (h, subst (λ y. Adj p y z) (sym top) a))))));
        }

  pub run_end :
      (l stack m after : List ℕ) (t : ℕ) → Seed p k x c l → t ≡ 0 → FloodRun p k x c (set (set l x c) x 0) stack m after t →
      Flooded p k x c l m
  run_end l stack m after t s z f =
      let before = set (set l x c) x 0 in
      subst (λ b. Flooded p k x c b m) (set_back l x c 0 (seed-empty l s))
      (flood-end p k x c before m after (subst (λ u. Flooding p k x c before m after u x []) z f.flooding))
