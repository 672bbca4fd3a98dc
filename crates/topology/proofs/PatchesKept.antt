-- A picture and its watershed have equally many patches.
use mathlib.Core.Path.{◌≡◌, refl, sym, ap, subst, ◌∙◌}
use mathlib.Core.Bool.{true}
use mathlib.Core.List.{List}
use Prim.Native.Nat.{ℕ, ◌<◌}
use native.Mathlib.Omega.{arith}
use lib.ListN.{length}
use Rattle.lists.specs.Lists.{tally, range}
use Rattle.picture.specs.Pictures.{Picture, places, value_at, with_pixels, is_picture}
use Rattle.picture.specs.Watersheds.{watershed}
use Rattle.picture.specs.Patches.{patches}
use Rattle.topology.proofs.Connected.{conn-target, conn-trans}
use Rattle.topology.proofs.Keeping.{Keeps}
use Rattle.topology.proofs.Adjacency.{Adj, At, Joined, joined-sym}
use Rattle.topology.proofs.Reached.{first_at, first-joined, first-at}
use Rattle.topology.proofs.Accepted.{Accepted, accepted-is}
use Rattle.topology.proofs.Water.{watershed-shape, watershed-watered}
use Rattle.topology.proofs.Branches.{joined-kept}
use Rattle.lists.proofs.Indices.{pigeonhole}
use Rattle.topology.proofs.Minima.{flat-kept}
use Rattle.lists.proofs.Positions.{tally-rises, tally-inject}
use Rattle.topology.proofs.Leaves.{leaf_at, bottom, leaf-sound, leaf-complete, leaf-same, bottom-is, bottom-at, bottom-one, first-bottom}
use Rattle.topology.proofs.PatchFigures.{patches-count}
use Rattle.topology.proofs.PatchSums.{patch-begins}
use Rattle.topology.proofs.Demand.{demand-3}

module _ (f : Picture) (xs : List ℕ) (keeps : (k : ℕ) → Keeps (places f) (Adj f) (value_at f) (value_at (with_pixels f xs)) k) where
  abbrev a : Picture
  a = with_pixels f xs

  leaf-forth : (k x : ℕ) → At f k x → leaf_at f k x ≡ true → leaf_at a k x ≡ true
  leaf-forth k x s l = leaf-complete a k x ((keeps k).subset x s) (flat-kept f xs keeps k x s (leaf-sound f k x s l))

  leaf-back : (k x : ℕ) → At f k x → leaf_at a k x ≡ true → leaf_at f k x ≡ true
  leaf-back k x s l =
      leaf-complete f k x s
      (λ u c.
      let v = leaf-sound a k x ((keeps k).subset x s) l u (joined-kept f xs keeps c) in
      let b = (conn-target c).low in
      let q = ((keeps (value_at f u)).subset u (record { within = (conn-target c).within; low = omega arith })).low in
      omega arith)

  -- the patches number i of f and j of a begin at places of one height that are joined in a
  data Partner (i j : ℕ) : Type 0 where
    partner :
        (z w k : ℕ) → z < places f → w < places f → bottom f z ≡ true → bottom a w ≡ true → tally (bottom f) (range 0 z) ≡ i →
        tally (bottom a) (range 0 w) ≡ j → value_at f z ≡ k → value_at a w ≡ k → Joined a k z w → Partner i j

  -- each patch of f has a partner
  forth : Accepted f → (i : ℕ) → i < length (patches f) → (j : ℕ) × (j < tally (bottom a) (range 0 (places f))) × Partner i j
  forth ok i h =
      let (z, b, q, r) = patch-begins f ok i h in
      let k = value_at f z in
      let (s, e, l) = bottom-is f z b q in
      let t = (keeps k).subset z s in
      let w = first_at a k z in
      let wb = (first-at a k z t).within in
      let (g, v) = first-bottom a k z t (leaf-forth k z s l) in (
        tally (bottom a) (range 0 w),
        tally-rises (bottom a) w (places f) wb g,
        partner z w k b wb q g r refl refl v (first-joined a k z t),
      )

  -- and is the partner of one
  back : Accepted f → Accepted a → (j : ℕ) → j < length (patches a) → (i : ℕ) × (i < tally (bottom f) (range 0 (places f))) × Partner i j
  back ok good j h =
      let (w, b, q, r) = patch-begins a good j h in
      let k = value_at a w in
      let (s, e, l) = bottom-is a w b q in
      let (u, su, c) = (keeps k).reaches w s in
      let lu = leaf-back k u su (sym (leaf-same a c) ∙ l) in
      let z = first_at f k u in
      let d = first-joined f k u su in
      let zb = (conn-target d).within in
      let (g, v) = first-bottom f k u su lu in (
        tally (bottom f) (range 0 z),
        tally-rises (bottom f) z (places f) zb g,
        partner z w k zb b g q refl r v refl (joined-sym a k (conn-trans c (joined-kept f xs keeps d))),
      )

  -- minima of one height whose first places are joined have one number
  same_number :
      (p : Picture) (x y k : ℕ) → x < places p → y < places p → bottom p x ≡ true → bottom p y ≡ true → value_at p x ≡ k → value_at p y ≡ k →
      (At p k x → At p k y → Joined p k x y) → tally (bottom p) (range 0 x) ≡ tally (bottom p) (range 0 y)
  same_number p x y k xb yb bx by vx vy c =
      let sx = (bottom-at p k x xb bx vx).0 in
      let sy = (bottom-at p k y yb by vy).0 in
      ap (λ (z : ℕ). tally (bottom p) (range 0 z)) (bottom-one p k x y xb yb bx by vx vy (c sx sy))

  one_left : (i j n : ℕ) → Partner i n → Partner j n → i ≡ j
  one_left i j n (partner z w k zb wb bz bw ti tn vz vw c) (partner y u l yb ub by bu tj tm vy vu d) =
      let e = tally-inject (bottom a) w u bw bu (tn ∙ sym tm) in
      let g : l ≡ k = sym vu ∙ (ap (value_at a) (sym e) ∙ vw) in
      let d' = subst (λ (h : ℕ). Joined a k y h) (sym e) (subst (λ (h : ℕ). Joined a h y u) g d) in
      sym ti ∙
      (same_number f z y k zb yb bz by vz (vy ∙ g) (λ s t. (keeps k).separates z y s t (conn-trans c (joined-sym a k d'))) ∙ tj)

  one_right : (i j n : ℕ) → Partner n i → Partner n j → i ≡ j
  one_right i j n (partner z w k zb wb bz bw tn ti vz vw c) (partner y u l yb ub by bu tm tj vy vu d) =
      let e = tally-inject (bottom f) z y bz by (tn ∙ sym tm) in
      let g : l ≡ k = sym vy ∙ (ap (value_at f) (sym e) ∙ vz) in
      let d' = subst (λ (h : ℕ). Joined a k h u) (sym e) (subst (λ (h : ℕ). Joined a h y u) g d) in
      sym ti ∙ (same_number a w u k wb ub bw bu vw (vu ∙ g) (λ s t. conn-trans (joined-sym a k c) d') ∙ tj)

  pub as_many : Accepted f → Accepted a → length (patches f) ≡ length (patches a)
  as_many ok good =
      let cf = patches-count f ok in
      let ca = patches-count a good in
      let x = pigeonhole (tally (bottom a) (range 0 (places f))) (length (patches f)) Partner (forth ok) (λ i j n bi bj. one_left i j n) in
      let y =
      pigeonhole (tally (bottom f) (range 0 (places f))) (length (patches a)) (λ i j. Partner j i) (back ok good)
      (λ i j n bi bj. one_right i j n)
      in
      omega arith

-- a picture and its watershed have equally many patches
pub patches-kept : (f : Picture) → is_picture f ≡ true → length (patches f) ≡ length (patches (watershed f))
patches-kept f h =
    let ok = accepted-is f h in
    let shape = watershed-shape f ok.size in
    let good = accepted-is (watershed f) (demand-3 f h).accepted in
    as_many f (watershed f).pixels (watershed-watered f ok.size).keeps ok (subst Accepted shape good) ∙
    ap (λ (p : Picture). length (patches p)) (sym shape)
