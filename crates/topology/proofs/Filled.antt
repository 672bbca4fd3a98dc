-- Filling: the sections of the filled picture are the large components of the picture's; what follows.
use mathlib.Core.Path.{◌≡◌, refl, sym, ap, subst, ◌∙◌}
use mathlib.Core.Bool.{true}
use mathlib.Core.Logic.{◌↔◌, by_cases}
use mathlib.Core.List.{List, [], ◌∷◌, Memᴰ}
use Prim.Native.Nat.{ℕ, ◌≤◌, ◌<◌, max}
use native.Mathlib.Decide.{dec_le}
use native.Mathlib.Omega.{arith}
use lib.Dec.{leb}
use lib.ListN.{length, get_or, length-map}
use lib.Seq.{ext_get_or}
use borrow.Author.Tests.{leb-true, le-leb}
use Rattle.lists.specs.Lists.{all, tally, range, is_in}
use Rattle.lists.proofs.Tests.{and_left, and_right, and_both, same_test}
use Rattle.lists.proofs.Lists.{all-mem, mem-all, in_mem, mem-in, length-select, length-range, tally-stronger, tally-same, range-mem, mem-range, get_or-map-range}
use Rattle.lists.proofs.Indices.{map_same, every-entry}
use Rattle.lists.proofs.Positions.{index-least, index-passes, index-most, index_same}
use Rattle.lists.proofs.Rising.{rising-equal, rising-is-select}
use Rattle.picture.specs.Pictures.{Picture, places, value_at, with_pixels, all_bytes, is_picture}
use Rattle.picture.specs.Components.{in_section, component_at, components}
use Rattle.picture.specs.Kept.{nowhere_above}
use Rattle.topology.proofs.Connected.{start, conn-target, conn-mono, conn-closed, conn-trans, step}
use Rattle.topology.proofs.Keeping.{sec-mono}
use Rattle.topology.proofs.Adjacency.{At, Joined, joined-sym, joined-mono, at_own, section-at, at-section}
use Rattle.topology.proofs.Accepted.{Accepted, accepted-is, is-accepted, accepted-with, value-byte, at_byte, above_at, at_above}
use Rattle.topology.proofs.Reached.{component-rising, component-same, mem-joined, joined-mem, in-joined, joined_in}
use Rattle.topology.proofs.Parts.{all-parts, parts_all}
use Rattle.topology.proofs.Grid.{picture-joined}
use Rattle.picture.specs.Filling.{is_large, filled_at, filled, all_large, Filling-closes, Filling-by-one, Filling-increases, Filled-twice}

-- the size of a component as a tally of places
pub component-size : (p : Picture) (k x : ℕ) → At p k x → length (component_at p k x) ≡ tally (λ y. is_in y (component_at p k x)) (range 0 (places p))
component-size p k x s =
    let c = component_at p k x in
    ap length
    (rising-is-select (λ y. is_in y c) (places p) (component-rising p k x s)
    (λ y m. ((conn-target (mem-joined p k x y s m)).within, mem-in y c m))
    (λ y b h. in_mem y c h)) ∙
    length-select (λ y. is_in y c) (range 0 (places p))

-- components of two heights or two pictures of the same frame
module _ (p q : Picture) (e : places p ≡ places q) (j k x : ℕ) (s : At p j x) (t : At q k x) where
  -- more joined places, more pixels
  pub size-grows : ((y : ℕ) → Joined p j x y → Joined q k x y) → length (component_at p j x) ≤ length (component_at q k x)
  size-grows f =
      let a = component-size p j x s in
      let b = component-size q k x t in
      let c =
      tally-stronger (λ y. is_in y (component_at p j x)) (λ y. is_in y (component_at q k x)) (range 0 (places p))
      (λ y h. joined_in q k (f y (in-joined p j x y s h)))
      in
      let d = ap (λ (n : ℕ). tally (λ y. is_in y (component_at q k x)) (range 0 n)) e in
      omega arith

  -- the same joined places, the same component
  pub component-equal : ((y : ℕ) → Joined p j x y ↔ Joined q k x y) → component_at p j x ≡ component_at q k x
  component-equal f =
      rising-equal (component-rising p j x s) (component-rising q k x t)
      (λ y.
      same_test (is_in y (component_at p j x)) (is_in y (component_at q k x))
      (λ h. joined_in q k ((f y).0 (in-joined p j x y s h)))
      (λ h. joined_in p j ((f y).1 (in-joined q k x y t h))))

-- the component of height k that holds x has at least s pixels
pub record Large (p : Picture) (s k x : ℕ) : Type 0 where
  pub place : At p k x
  pub size : s ≤ length (component_at p k x)

module _ (p : Picture) (s : ℕ) where
  pub test-large : (k x : ℕ) → x < places p → is_large p s x k ≡ true → Large p s k x
  test-large k x b h =
      record {
        place = section-at p k x b (and_left (in_section p k x) (leb s (length (component_at p k x))) h);
        size = leb-true s (length (component_at p k x)) (and_right (in_section p k x) (leb s (length (component_at p k x))) h);
      }

  pub large-test : (k x : ℕ) → Large p s k x → is_large p s x k ≡ true
  large-test k x l = and_both (at-section p k x l.place) (le-leb s (length (component_at p k x)) l.size)

  -- at a greater height it is larger
  pub large-mono : (j k x : ℕ) → j ≤ k → Large p s j x → Large p s k x
  large-mono j k x h l =
      let t = sec-mono h x l.place in
      let g = size-grows p p refl j k x l.place t (λ y c. joined-mono p h c) in
      record { place = t; size = let a = l.size in omega arith }

  -- joined places are in it together
  pub large-joined : (k x y : ℕ) → Joined p k x y → Large p s k x → Large p s k y
  large-joined k x y c l =
      record { place = conn-target c; size = subst (λ (d : List ℕ). s ≤ length d) (component-same p k c) l.size }

  -- the filled value is the least height at which it is large enough
  pub filled-most : (k x : ℕ) → k ≤ 255 → Large p s k x → filled_at p s x ≤ k
  unfolding filled_at
  filled-most k x b l = index-least (is_large p s x) 256 256 0 k (omega arith) (omega arith) (large-test k x l)

  pub filled-large : (x : ℕ) → x < places p → filled_at p s x ≤ 255 → Large p s (filled_at p s x) x
  unfolding filled_at
  filled-large x b h =
      test-large (filled_at p s x) x b (index-passes (is_large p s x) 256 256 0 (λ q. absurd (omega (arith, h, q))))

  pub filled-limit : (x : ℕ) → filled_at p s x ≤ 256
  unfolding filled_at
  filled-limit x = index-most (is_large p s x) 256 256 0 (omega arith)

  -- no pixel falls
  pub filled-above : (x : ℕ) → x < places p → value_at p x ≤ 255 → value_at p x ≤ filled_at p s x
  filled-above x b v =
      by_cases (dec_le (filled_at p s x) 255)
      (λ h. (filled-large x b h).place.low)
      (λ h. omega arith)

  -- the pixels of the filled picture
  pub filled-value : (x : ℕ) → x < places p → value_at (filled p s) x ≡ filled_at p s x
  unfolding filled
  filled-value x b = get_or-map-range (filled_at p s) 0 0 (places p) x b ∙ ap (filled_at p s) (omega arith)

  pub filled-frame : filled p s ≡ with_pixels p (filled p s).pixels
  unfolding filled
  filled-frame = refl

  pub filled-length : length (filled p s).pixels ≡ places p
  unfolding filled
  filled-length = length-map (range 0 (places p)) (filled_at p s) ∙ length-range 0 (places p)

-- the sections of the filled picture
module _ (p : Picture) (s k : ℕ) (b : k ≤ 255) where
  abbrev q : Picture
  q = with_pixels p (filled p s).pixels

  pub at-large : (x : ℕ) → At q k x → Large p s k x
  at-large x t =
      let e = filled-value p s x t.within in
      let l = t.low in
      large-mono p s (filled_at p s x) k x (omega arith) (filled-large p s x t.within (omega arith))

  pub large-at : (x : ℕ) → Large p s k x → At q k x
  large-at x l =
      let t = l.place.within in
      let e = filled-value p s x t in
      let m = filled-most p s k x b l in
      record { within = t; low = omega arith }

  -- its components are the large ones of the picture
  pub filled-joined : (x y : ℕ) → Joined q k x y → Joined p k x y
  filled-joined x y c = conn-mono (λ z t. (at-large z t).place) c

  pub joined-filled : (x y : ℕ) → Large p s k x → Joined p k x y → Joined q k x y
  joined-filled x y l c =
      (conn-closed (λ z. Joined q k x z × Joined p k x z) (start (large-at x l), start l.place)
      (λ u z i r t.
      let d = step i.1 r t in
      (step i.0 r (large-at z (large-joined p s k x z d l)), d))
      c
      ).0

  pub filled-component : (x : ℕ) → Large p s k x → component_at p k x ≡ component_at q k x
  filled-component x l = component-equal p q refl k k x l.place (large-at x l) (λ y. (joined-filled x y l, filled-joined x y))

-- filling with s, then with t, is filling with the greater of both (a granulometry)
module _ (p : Picture) (s t : ℕ) where
  abbrev after : Picture
  after = with_pixels p (filled p s).pixels

  same-large : (k x : ℕ) → k ≤ 255 → x < places p → is_large after t x k ≡ is_large p (max s t) x k
  same-large k x b h =
      same_test (is_large after t x k) (is_large p (max s t) x k)
      (λ g.
      let l = test-large after t k x h g in
      let m = at-large p s k b x l.place in
      let c : length (component_at p k x) ≡ length (component_at after k x) = ap length (filled-component p s k b x m) in
      let u = m.size in
      let v = l.size in
      large-test p (max s t) k x (record { place = m.place; size = omega arith }))
      (λ g.
      let l = test-large p (max s t) k x h g in
      let z = l.size in
      let m : Large p s k x = record { place = l.place; size = omega arith } in
      let c : length (component_at p k x) ≡ length (component_at after k x) = ap length (filled-component p s k b x m) in
      large-test after t k x (record { place = large-at p s k b x m; size = omega arith }))

  filled-after : filled after t ≡ filled p (max s t)
  unfolding filled filled_at
  filled-after =
      ap (with_pixels p)
      (map_same (filled_at after t) (filled_at p (max s t)) (range 0 (places p))
      (λ x m.
      let b = range-mem 0 (places p) m in
      index_same (is_large after t x) (is_large p (max s t) x) 256 0 (range 0 256)
      (λ k i. let c = range-mem 0 256 i in same-large k x (omega arith) (omega arith))))

pub filled-twice : Filled-twice
filled-twice p s t = ap (λ (q : Picture). filled q t) (filled-frame p s) ∙ filled-after p s t

-- a pixel whose own component is large enough keeps its value
pub filled-kept :
    (p : Picture) (s x : ℕ) → x < places p → value_at p x ≤ 255 → s ≤ length (component_at p (value_at p x) x) → filled_at p s x ≡ value_at p x
filled-kept p s x b v h =
    let a = filled-above p s x b v in
    let m = filled-most p s (value_at p x) x v (record { place = at_own p x b; size = h }) in
    omega arith

-- at the height 255 every component has all n pixels
pub whole-large : (p : Picture) → Accepted p → (s x : ℕ) → s ≤ places p → x < places p → Large p s 255 x
whole-large p ok s x h b =
    let at : At p 255 x = record { within = b; low = value-byte p ok x } in
    let c = component_at p 255 x in
    let a = component-size p 255 x at in
    let d : tally (λ y. is_in y c) (range 0 (places p)) ≡ tally (λ y. true) (range 0 (places p)) =
    tally-same (λ y. is_in y c) (λ y. true) (range 0 (places p))
    (λ y m.
    let r = range-mem 0 (places p) m in
    joined_in p 255 (conn-trans (joined-sym p 255 (picture-joined p ok x b)) (picture-joined p ok y (omega arith))))
    in
    let f = tally-whole (range 0 (places p)) in
    let g = length-range 0 (places p) in
    record { place = at; size = omega arith }
  where
    tally-whole : (l : List ℕ) → tally (λ y. true) l ≡ length l
    tally-whole [] = refl
    tally-whole (y ∷ l) = let q = tally-whole l in omega arith

pub filled-byte : (p : Picture) → Accepted p → (s x : ℕ) → s ≤ places p → x < places p → filled_at p s x ≤ 255
filled-byte p ok s x h b = filled-most p s 255 x (omega arith) (whole-large p ok s x h b)

-- a picture nowhere above another is filled to one nowhere above the other filled
module _ (p : Picture) (b : List ℕ) (s : ℕ) (under : (x : ℕ) → x < places p → value_at p x ≤ get_or b x 0) where
  abbrev other : Picture
  other = with_pixels p b

  large-under : (k x : ℕ) → Large other s k x → Large p s k x
  large-under k x l =
      let t = lower x l.place in
      let g = size-grows other p refl k k x l.place t (λ y c. conn-mono lower c) in
      let z = l.size in
      record { place = t; size = omega arith }
    where
      lower : (y : ℕ) → At other k y → At p k y
      lower y t = record { within = t.within; low = let a = under y t.within in let c = t.low in omega arith }

  pub filled-rises : (x : ℕ) → x < places p → filled_at p s x ≤ filled_at other s x
  filled-rises x h =
      by_cases (dec_le (filled_at other s x) 255)
      (λ g. filled-most p s (filled_at other s x) x g (large-under (filled_at other s x) x (filled-large other s x h g)))
      (λ g. let a = filled-limit p s x in omega arith)

  -- with every component large enough nothing is filled
  pub filled-same : is_picture other ≡ true → all_large other s ≡ true → (x : ℕ) → x < places p → filled_at other s x ≡ get_or b x 0
  unfolding all_large
  filled-same ok h x c =
      let v = value-byte other (accepted-is other ok) x in
      filled-kept other s x c v
      (leb-true s (length (component_at other (get_or b x 0) x))
      (all-parts other (get_or b x 0) (λ d. leb s (length d))
      (all-mem (λ k. all (λ d. leb s (length d)) (components other k)) h (mem-range 0 256 (omega arith) (omega arith)))
      x (at_own other x c)))

-- a list nowhere above another of its length
entries-above :
    (n : ℕ) (xs ys : List ℕ) → length xs ≡ n → length ys ≡ n → ((i : ℕ) → i < n → get_or xs i 0 ≤ get_or ys i 0) → nowhere_above xs ys ≡ true
entries-above n xs ys e g f =
    at_above xs ys (e ∙ sym g) (every-entry 0 xs (λ i v. v ≤ get_or ys i 0) (λ i. omega arith) (λ i h. f i (omega arith)))

module _ (p : Picture) (h : is_picture p ≡ true) (s : ℕ) where
  ok : Accepted p
  ok = accepted-is p h

  abbrev ys : List ℕ
  ys = (filled p s).pixels

  -- the filled picture is accepted
  pub filled-accepted : s ≤ places p → Accepted (with_pixels p ys)
  filled-accepted few =
      accepted-with p ys ok (filled-length p s)
      (at_byte ys
      (every-entry 0 ys (λ i v. v ≤ 255) (λ i. omega arith)
      (λ i h.
      let l = filled-length p s in
      let b : i < places p = omega arith in
      let e = filled-value p s i b in
      let q = filled-byte p ok s i few b in
      omega arith)))

  pub filled-nowhere-below : nowhere_above p.pixels ys ≡ true
  filled-nowhere-below =
      entries-above (places p) p.pixels ys ok.size (filled-length p s)
      (λ i b. let e = filled-value p s i b in let q = filled-above p s i b (value-byte p ok i) in omega arith)

  pub filled-all-large : all_large (with_pixels p ys) s ≡ true
  unfolding all_large
  filled-all-large =
      mem-all (λ k. all (λ c. leb s (length c)) (components (with_pixels p ys) k)) (range 0 256)
      (λ k m.
      let b = range-mem 0 256 m in
      parts_all (with_pixels p ys) k (λ c. leb s (length c))
      (λ x t.
      let l = at-large p s k (omega arith) x t in
      le-leb s (length (component_at (with_pixels p ys) k x))
      (subst (λ (c : List ℕ). s ≤ length c) (filled-component p s k (omega arith) x l) l.size)))

  -- the least picture nowhere below p with that property
  pub filled-least :
      (b : List ℕ) → length b ≡ places p → all_bytes b ≡ true → nowhere_above p.pixels b ≡ true → all_large (with_pixels p b) s ≡ true →
      nowhere_above ys b ≡ true
  filled-least b e bytes above large =
      let size = ok.size in
      let under : (x : ℕ) → x < places p → value_at p x ≤ get_or b x 0 = λ x c. above_at p.pixels b above x (omega arith) in
      entries-above (places p) ys b (filled-length p s) e
      (λ i c.
      let q = filled-value p s i c in
      let r = filled-rises p b s under i c in
      let t = filled-same p b s under (is-accepted (with_pixels p b) (accepted-with p b ok e bytes)) large i c in
      omega arith)

-- filling, whole
pub filling-closes : Filling-closes
unfolding filled
filling-closes p h s few =
    record {
      accepted = is-accepted (filled p s) (filled-accepted p h s few);
      above = filled-nowhere-below p h s;
      again = filled-twice p s s ∙ ap (filled p) (omega arith);
      large = filled-all-large p h s;
      least = filled-least p h s;
    }

-- the size 1 changes nothing
pub filling-by-one : Filling-by-one
unfolding filled
filling-by-one p h =
    let ok = accepted-is p h in
    ap (with_pixels p)
    (ext_get_or 0 (filled p 1).pixels p.pixels (filled-length p 1 ∙ sym ok.size)
    (λ i b.
    let e = filled-length p 1 in
    let c : i < places p = omega arith in
    filled-value p 1 i c ∙
    filled-kept p 1 i c (value-byte p ok i) (some i c)))
  where
    some : (i : ℕ) → i < places p → 1 ≤ length (component_at p (value_at p i) i)
    some i c = nonempty (joined-mem p (value_at p i) (start (at_own p i c)))
      where
        nonempty : {x : ℕ} {l : List ℕ} → Memᴰ x l → 1 ≤ length l
        nonempty (Memᴰ.head e) = omega arith
        nonempty (Memᴰ.tail m) = omega arith

-- a darker picture is filled to a darker one
pub filling-increases : Filling-increases
unfolding filled
filling-increases p b s h g under =
    let ok = accepted-is p h in
    let size = ok.size in
    let below : (x : ℕ) → x < places p → value_at p x ≤ get_or b x 0 = λ x c. above_at p.pixels b under x (omega arith) in
    entries-above (places p) (filled p s).pixels (filled (with_pixels p b) s).pixels (filled-length p s) (filled-length (with_pixels p b) s)
    (λ i c.
    let a = filled-value p s i c in
    let d = filled-value (with_pixels p b) s i c in
    let r = filled-rises p b s below i c in
    omega arith)
