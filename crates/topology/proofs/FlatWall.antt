-- The flat grey wall: a picture of one value does not keep the parts of a picture with two minima.
-- At the height of the higher minimum the wall's section is the whole grid, so keeping parts would join the two.
use mathlib.Core.Path.{◌≡◌, refl, sym, ap}
use mathlib.Core.Bool.{true}
use mathlib.Core.Logic.{by_cases}
use Prim.Native.Nat.{ℕ, ◌≤◌, ◌<◌}
use native.Mathlib.Decide.{dec_le}
use native.Mathlib.Omega.{arith}
use lib.ListN.{get_or-replicate}
use Rattle.lists.specs.Lists.{tally, range}
use Rattle.picture.specs.Pictures.{Picture, places, value_at}
use Rattle.picture.specs.Kept.{keeps_parts, flat, Flat-fails}
use Rattle.lists.proofs.Tests.{test-false}
use Rattle.topology.proofs.Connected.{conn-trans}
use Rattle.topology.proofs.Adjacency.{At, Joined, joined-sym}
use Rattle.topology.proofs.Accepted.{Accepted, accepted-is, value-byte}
use Rattle.topology.proofs.Bridge.{parts-keeps}
use Rattle.topology.proofs.Grid.{grid-joined}
use Rattle.topology.proofs.Leaves.{bottom, leaf-sound, bottom-is, bottom-one}
use Rattle.topology.proofs.PatchSums.{patch-begins}

module _ (f : Picture) (ok : Accepted f) (v : ℕ) (parts : keeps_parts f (flat f v) ≡ true) where
  abbrev wall : Picture
  wall = flat f v

  wall-value : (x : ℕ) → x < places f → value_at wall x ≡ v
  wall-value x b = get_or-replicate (places f) x v 0 b

  -- a section of f is joined, since that of the wall is the whole grid
  section-joined : (k x y : ℕ) → k ≤ 255 → At f k x → At f k y → Joined f k x y
  section-joined k x y b s t =
      let keeps = parts-keeps f wall.pixels parts k b in
      let low : v ≤ k = omega (arith, (keeps.subset x s).low, wall-value x s.within) in
      let grid = grid-joined wall ok.some k (λ z c. omega (arith, wall-value z c)) in
      keeps.separates x y s t (conn-trans (joined-sym wall k (grid x s.within)) (grid y t.within))

  -- so a minimum and one that is not above it are the same
  one-minimum :
      (z w : ℕ) → z < places f → w < places f → bottom f z ≡ true → bottom f w ≡ true → value_at f z ≤ value_at f w → z ≡ w
  one-minimum z w zb wb bz bw below =
      let k = value_at f w in
      let (s, fw, lw) = bottom-is f w wb bw in
      let c = section-joined k w z (value-byte f ok w) s (record { within = zb; low = below }) in
      let level : value_at f z ≡ k = leaf-sound f k w s lw z c in
      bottom-one f k z w zb wb bz bw level refl (joined-sym f k c)

  same-minimum : (z w : ℕ) → z < places f → w < places f → bottom f z ≡ true → bottom f w ≡ true → z ≡ w
  same-minimum z w zb wb bz bw =
      by_cases (dec_le (value_at f z) (value_at f w))
      (λ h. one-minimum z w zb wb bz bw h)
      (λ h. sym (one-minimum w z wb zb bw bz (omega arith)))

pub flat-fails : Flat-fails
flat-fails f h some v =
    let ok = accepted-is f h in
    test-false (keeps_parts f (flat f v))
    (λ parts.
    let (z, zb, bz, nz) = patch-begins f ok 0 (omega arith) in
    let (w, wb, bw, nw) = patch-begins f ok 1 (omega arith) in
    let same = ap (λ (x : ℕ). tally (bottom f) (range 0 x)) (same-minimum f ok v parts z w zb wb bz bw) in
    omega (arith, same, nz, nw))
