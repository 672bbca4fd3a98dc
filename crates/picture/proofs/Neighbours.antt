-- What the code asks and says of a place and its list of neighbours; the list and the test of adjacency agree.
use mathlib.Core.Path.{◌≡◌, refl, sym, ap, ap₂, ◌∙◌}
use mathlib.Core.Bool.{Bool, true, false, ◌&&◌, ◌||◌, not, true≢false}
use mathlib.Core.List.{List, ◌∷◌, map}
use mathlib.Core.Logic.{◌↔◌}
use Prim.Native.Nat.{ℕ, ◌+◌, ◌-◌, ◌*◌, ◌/◌, ◌%◌, ◌≤◌, ◌<◌}
use native.Mathlib.Nat.{div-add-mod', mod-lt, div-lt_iff_lt-mul, mul_comm}
use native.Mathlib.Numerals.{add-one}
use native.Mathlib.Omega.{arith}
use lib.Arith.{digits_lt, digits_div, digits_mod}
use lib.Dec.{eqb, leb}
use lib.ListN.{length, get_or, drop, length-map}
use lib.Seq.{drop-cons}
use borrow.Author.Tests.{leb-true, leb-false, eqb-true, not-true, le-leb, eq-eqb}
use Rattle.lists.specs.Lists.{pick, any, all, select, range, is_in, over}
use Rattle.picture.specs.Pictures.{Picture, places, distance, adjacent, touch}
use Rattle.picture.specs.Geometry.{steps, Offset, offset, every_second, within, stays, place_by, neighbours_of, neighbours_in}
use Rattle.lists.proofs.Tests.{and_left, and_right, and_both, on-pick, implied}
use Rattle.lists.proofs.Cuts.{over-front}
use Rattle.lists.proofs.Members.{any-all, any-mono, any-map-select, select-most, all-below, is_in-at, is_in-index, distinct, pairwise, distinct-images}
use Rattle.picture.proofs.Sides.{within-some, within-most}

-- x is a place of a picture whose sides fit
pub record Placed (w h x : ℕ) : Type 0 where
  pub some : 1 ≤ w
  pub wide : w ≤ 40
  pub high : h ≤ 40
  pub inside : x < w * h

-- the places ns in front of the cells, their number, which is at most 8, and the other cells as they were
pub record Listed (ns cells : List ℕ) (r : ℕ) (after : List ℕ) : Type 0 where
  pub count : r ≡ length ns
  pub few : r ≤ 8
  pub whole : after ≡ over ns cells

-- the distance of two numbers as a sum of differences, of which one is 0
pub distance_is : (a b : ℕ) → distance a b ≡ a - b + (b - a)
distance_is a b =
    on-pick (λ n. n ≡ a - b + (b - a)) (leb a b)
    (λ e. let h = leb-true a b e in omega arith)
    (λ e. let h = leb-false a b e in omega arith)

pub distance-sym : (a b : ℕ) → distance a b ≡ distance b a
distance-sym a b = omega (arith, distance_is a b, distance_is b a)

-- the test of adjacency on a distance of columns and one of rows; the first argument says whether the adjacency is 4
abbrev near : Bool → ℕ → ℕ → Bool
near four c r = pick four (eqb (c + r) 1) (leb c 1 && (leb r 1 && leb 1 (c + r)))

near-most : (four : Bool) (c r : ℕ) → near four c r ≡ true → (c ≤ 1) × (r ≤ 1)
near-most true c r e = let h = eqb-true (c + r) 1 e in omega arith
near-most false c r e =
    (leb-true c 1 (and_left (leb c 1) _ e), leb-true r 1 (and_left (leb r 1) _ (and_right (leb c 1) _ e)))

module _ (p : Picture) (x y : ℕ) where
  touch_is :
      touch p x y ≡
      near (eqb p.adjacency 4) (distance (x % p.width) (y % p.width)) (distance (x / p.width) (y / p.width))
  unfolding adjacent
  touch_is = refl

-- neighbours are so either way round
pub touch-sym : (p : Picture) (x y : ℕ) → touch p x y ≡ touch p y x
touch-sym p x y =
    touch_is p x y ∙
    (ap₂ (near (eqb p.adjacency 4)) (distance-sym (x % p.width) _) (distance-sym (x / p.width) _) ∙ sym (touch_is p y x))

pub distance-same : (a : ℕ) → distance a a ≡ 0
distance-same a = omega (arith, distance_is a a)

-- the offsets that an adjacency uses
abbrev offsets_of : Bool → List Offset
offsets_of four = map offset (pick four (every_second steps) steps)

-- an offset leads to a neighbour by its distance from the middle
abbrev near_by : Bool → Offset → Bool
near_by four o = near four (distance 1 o.column) (distance 1 o.row)

-- an offset has a given column and row
abbrev same : ℕ → ℕ → Offset → Bool
same c r o = eqb o.column c && eqb o.row r

-- each offset used leads to a neighbour
sound : (four : Bool) → all (λ o. leb o.column 2 && (leb o.row 2 && near_by four o)) (offsets_of four) ≡ true
sound true = refl
sound false = refl

-- an offset that leads to a neighbour is used
abbrev used_if : Bool → ℕ → ℕ → Bool
used_if four c r = not (near four (distance 1 c) (distance 1 r)) || any (same c r) (offsets_of four)

complete : (four : Bool) → all (λ c. all (used_if four c) (range 0 3)) (range 0 3) ≡ true
complete true = refl
complete false = refl

-- the offset from a number to another that is at most one away
module _ (a b : ℕ) where
  shift : distance a b ≤ 1 → (a + (b + 1 - a) ≡ b + 1) × (b + 1 - a < 3) × (distance 1 (b + 1 - a) ≡ distance a b)
  shift h = omega (arith, distance_is a b, distance_is 1 (b + 1 - a))

shifted : (a k : ℕ) → k ≤ 2 → 1 ≤ a + k → distance a (a + k - 1) ≡ distance 1 k
shifted a k h i = omega (arith, distance_is a (a + k - 1), distance_is 1 k)

-- a number from 1 to side lies inside the edge
within-is : (side c : ℕ) → 1 ≤ c → c ≤ side → within side c ≡ true
within-is side c p q = and_both (le-leb 1 c p) (le-leb c side q)

module _ (w h x : ℕ) where
  -- a step that stays leads to a place as far away as the step's distance from the middle
  led :
      (o : Offset) → o.column ≤ 2 → o.row ≤ 2 → stays w h x o ≡ true →
      (place_by w x o < w * h) ×
      (distance (x % w) (place_by w x o % w) ≡ distance 1 o.column) ×
      (distance (x / w) (place_by w x o / w) ≡ distance 1 o.row)
  led o p q e =
      let c = x % w + o.column in
      let r = x / w + o.row in
      let d = and_left (within w c) _ e in
      let f = and_right (within w c) _ e in
      let c1 = within-some w c d in
      let c2 = within-most w c d in
      let r1 = within-some h r f in
      let r2 = within-most h r f in
      let low : c - 1 < w = omega arith in
      let high : r - 1 < h = omega arith in (
        rw (mul_comm w h) (digits_lt high low),
        ap (distance (x % w)) (digits_mod (r - 1) low) ∙ shifted (x % w) o.column p c1,
        ap (distance (x / w)) (digits_div (r - 1) low) ∙ shifted (x / w) o.row q r1,
      )

  -- the step from a place to one that is at most a column and a row away stays and leads there
  leads :
      (y : ℕ) → 1 ≤ w → y < w * h → distance (x % w) (y % w) ≤ 1 → distance (x / w) (y / w) ≤ 1 →
      (o : Offset) → same (y % w + 1 - x % w) (y / w + 1 - x / w) o ≡ true →
      (stays w h x o && eqb y (place_by w x o)) ≡ true
  leads y some below dc dr o e =
      let c : x % w + o.column ≡ y % w + 1 =
      ap (λ k. x % w + k) (eqb-true o.column _ (and_left (eqb o.column _) _ e)) ∙ (shift (x % w) (y % w) dc).0 in
      let r : x / w + o.row ≡ y / w + 1 =
      ap (λ k. x / w + k) (eqb-true o.row _ (and_right (eqb o.column _) _ e)) ∙ (shift (x / w) (y / w) dr).0 in
      let low = mod-lt y some in
      let high = (div-lt_iff_lt-mul some).1 (rw (mul_comm w h) at below) in
      let at : place_by w x o ≡ y =
      ap₂ (λ m n. (m - 1) * w + (n - 1)) r c ∙
      (ap₂ (λ m n. m * w + n) (omega arith) (omega arith) ∙ div-add-mod' y w) in
      and_both
      (and_both (ap (within w) c ∙ within-is w (y % w + 1) (omega arith) (omega arith))
      (ap (within h) r ∙ within-is h (y / w + 1) (omega arith) (omega arith)))
      (eq-eqb y _ (sym at))

module _ (p : Picture) (x : ℕ) where
  abbrev four : Bool
  four = eqb p.adjacency 4

  is_in-is :
      (y : ℕ) →
      is_in y (neighbours_in p x) ≡
      any (λ o. stays p.width p.height x o && eqb y (place_by p.width x o)) (offsets_of four)
  unfolding neighbours_of
  is_in-is y = any-map-select (stays p.width p.height x) (eqb y) (place_by p.width x) (offsets_of four)

  -- a member of the list is a place that touches x
  listed-touch : (y : ℕ) → is_in y (neighbours_in p x) ≡ true → (y < places p) × (touch p x y ≡ true)
  listed-touch y e =
      let (o, s, t) = any-all _ _ (offsets_of four) (sym (is_in-is y) ∙ e) (sound four) in
      let stay = and_left (stays p.width p.height x o) _ s in
      let at = eqb-true y _ (and_right (stays p.width p.height x o) _ s) in
      let low = and_right (leb o.column 2) _ t in
      let to =
      led p.width p.height x o (leb-true _ 2 (and_left (leb o.column 2) _ t)) (leb-true _ 2 (and_left (leb o.row 2) _ low)) stay in
      rw at
      (to.0, touch_is p x (place_by p.width x o) ∙ (ap₂ (near four) to.1 to.2 ∙ and_right (leb o.row 2) _ low))

  -- a place that touches x is a member of the list
  touch-listed : (y : ℕ) → 1 ≤ p.width → y < places p → touch p x y ≡ true → is_in y (neighbours_in p x) ≡ true
  touch-listed y some below e =
      let near-xy = sym (touch_is p x y) ∙ e in
      let most = near-most four _ _ near-xy in
      let c = shift (x % p.width) (y % p.width) most.0 in
      let r = shift (x / p.width) (y / p.width) most.1 in
      let row = all-below (λ k. all (used_if four k) (range 0 3)) 3 (complete four) (y % p.width + 1 - x % p.width) c.1 in
      let one = all-below (used_if four (y % p.width + 1 - x % p.width)) 3 row (y / p.width + 1 - x / p.width) r.1 in
      is_in-is y ∙
      any-mono _ _ (leads p.width p.height x y some below most.0 most.1) (offsets_of four)
      (implied _ _ one (ap₂ (near four) c.2 r.2 ∙ near-xy))

-- the list of the neighbours of x holds the places that touch x, and no others
pub neighbours-touch :
    (p : Picture) (x y : ℕ) → 1 ≤ p.width →
    (is_in y (neighbours_in p x) ≡ true) ↔ ((y < places p) × (touch p x y ≡ true))
neighbours-touch p x y some = (listed-touch p x y, λ h. touch-listed p x y some h.0 h.1)

-- what stands in the list is a place that touches x, and each such place stands at an index
pub neighbour-at :
    (p : Picture) (x i : ℕ) → i < length (neighbours_in p x) →
    (get_or (neighbours_in p x) i 0 < places p) × (touch p x (get_or (neighbours_in p x) i 0) ≡ true)
neighbour-at p x i h = listed-touch p x _ (is_in-at (neighbours_in p x) i h)

pub neighbour-index :
    (p : Picture) (x y : ℕ) → 1 ≤ p.width → y < places p → touch p x y ≡ true →
    (i : ℕ) × (i < length (neighbours_in p x)) × (get_or (neighbours_in p x) i 0 ≡ y)
neighbour-index p x y some below e = is_in-index y (neighbours_in p x) (touch-listed p x y some below e)

-- a list in front of cells, index by index
pub listed_at : (ns cells after : List ℕ) (r : ℕ) → Listed ns cells r after → (i : ℕ) → i < r → get_or after i 0 ≡ get_or ns i 0
listed_at ns cells after r l i h =
    let n = l.count in ap (λ (m : List ℕ). get_or m i 0) l.whole ∙ over-front ns cells i (omega arith)

-- there are at most eight
pub neighbours-few : (a w h x : ℕ) → length (neighbours_of a w h x) ≤ 8
unfolding neighbours_of
neighbours-few a w h x =
    let os = offsets_of (eqb a 4) in
    omega (arith, length-map (select (stays w h x) os) (place_by w x), select-most (stays w h x) os, few (eqb a 4))
  where
    few : (four : Bool) → length (offsets_of four) ≤ 8
    few true = omega arith
    few false = omega arith

-- steps that stay and lead to the same place are the same
one-step :
    (w h x : ℕ) (o q : Offset) → stays w h x o ≡ true → stays w h x q ≡ true → place_by w x o ≡ place_by w x q →
    same q.column q.row o ≡ true
one-step w h x o q d e f =
    and_both
    (eq-eqb _ _ (back (x % w) o.column q.column (inside o d).0 (inside q e).0
    (sym (digits_mod (x / w + o.row - 1) (inside o d).1) ∙
    (ap (λ y. y % w) f ∙ digits_mod (x / w + q.row - 1) (inside q e).1))))
    (eq-eqb _ _ (back (x / w) o.row q.row (inside o d).2 (inside q e).2
    (sym (digits_div (x / w + o.row - 1) (inside o d).1) ∙
    (ap (λ y. y / w) f ∙ digits_div (x / w + q.row - 1) (inside q e).1))))
  where
    inside : (o : Offset) → stays w h x o ≡ true → (1 ≤ x % w + o.column) × (x % w + o.column - 1 < w) × (1 ≤ x / w + o.row)
    inside o d =
        let c = x % w + o.column in
        let t = and_left (within w c) _ d in
        let some = within-some w c t in
        let most = within-most w c t in
        (some, omega arith, within-some h _ (and_right (within w c) _ d))

    back : (a k l : ℕ) → 1 ≤ a + k → 1 ≤ a + l → a + k - 1 ≡ a + l - 1 → k ≡ l
    back a k l p q e = omega arith

-- two offsets are not the same
abbrev differ : Offset → Offset → Bool
differ o q = not (same q.column q.row o)

-- no neighbour stands twice
pub neighbours-distinct : (a w h x : ℕ) → distinct (neighbours_of a w h x) ≡ true
unfolding neighbours_of
neighbours-distinct a w h x =
    distinct-images (stays w h x) (place_by w x) differ
    (λ o q d e u f. true≢false (sym (one-step w h x o q d e f) ∙ not-true (same q.column q.row o) u))
    (offsets_of (eqb a 4))
    (apart (eqb a 4))
  where
    apart : (four : Bool) → pairwise differ (offsets_of four) ≡ true
    apart true = refl
    apart false = refl

-- the neighbour y at index i, and those behind it
pub neighbour-next :
    (p : Picture) (x i y : ℕ) → i < length (neighbours_in p x) → y ≡ get_or (neighbours_in p x) i 0 →
    (y < places p) × (touch p x y ≡ true) × (drop i (neighbours_in p x) ≡ y ∷ drop (i + 1) (neighbours_in p x))
neighbour-next p x i y h e = let (b, t) = neighbour-at p x i h in rw (e, add-one i) (b, t, drop-cons (neighbours_in p x) i 0 h)

-- another place of the same sides
pub placed-other : {w h x y : ℕ} → Placed w h x → y < w * h → Placed w h y
placed-other p b = record { some = p.some; wide = p.wide; high = p.high; inside = b }
