-- The climb along the fathers of a lent tree meets at the nearest common ancestor, whose height decides the pass.
use Rattle.std.proofs.Common.{◌≡◌, sym, ap, ◌∙◌, true, List, ℕ, ◌≤◌, ◌<◌, max, arith, length, get_or}
use Rattle.picture.specs.Pictures.{Picture, places, value_at, is_picture}
use Rattle.picture.specs.Passes.{pass}
use Rattle.picture.specs.Trees.{nodes}
use Rattle.topology.proofs.Accepted.{accepted-is}
use Rattle.topology.proofs.Descent.{map_found}
use Rattle.topology.proofs.Climb.{Meet, meet-same, father, father-of, father-greater}
use Rattle.topology.proofs.Passes.{pass-meet}
use Rattle.ancestors.specs.Ancestors.{Climbing}
use Rattle.lent_tree.specs.Lent.{HoldsTree}
use Rattle.lent_tree.specs.Passes.{PassReady, PassOf}

module _ (p : Picture) (count : ℕ) (hs fs ss m : List ℕ) (ok : is_picture p ≡ true) (t : HoldsTree p count hs fs ss m) (x y : ℕ) (bx : x < places p) (by : y < places p) where
  climb-lent : count ≤ length fs → Climbing fs (get_or m x 0) (get_or m y 0)
  climb-lent long =
      let a = accepted-is p ok in
      let total = t.total in
      let ex = t.map x bx in
      let ey = t.map y by in
      let mx = map_found p a x bx in
      let my = map_found p a y by in
      record {
        count = count;
        few = long;
        rises =
            λ i h.
            let f = father-of p a i (omega arith) in
            let e = t.fathers i (omega arith) in
            let g = father-greater p a i (omega arith) f in
            (omega arith, omega arith);
        first = omega arith;
        second = omega arith;
      }

  -- the climb ends at a node, and its height decides the pass
  pass-lent :
      (r : ℕ) → Meet (λ i. get_or fs i 0) (get_or m x 0) (get_or m y 0) r →
      (r < count) × (pass p x y ≡ max (max (value_at p x) (value_at p y)) (get_or hs r 0))
  pass-lent r n =
      let a = accepted-is p ok in
      let total = t.total in
      let met = rw (t.map x bx, t.map y by) at n in
      let (k, h) =
      meet-same (length (nodes p)) (λ i. get_or fs i 0) (father p) t.fathers (father-of p a) (map_found p a x bx) (map_found p a y by) met
      in
      (omega arith, pass-meet p a x y bx by k ∙ ap (λ (z : ℕ). max (max (value_at p x) (value_at p y)) z) (sym (t.heights r h)))

-- what the pass asks
module _ (pixels hs fs m : List ℕ) (x y : ℕ) (r : PassReady pixels hs fs m x y) where
  pub pass-bounds : (x < length pixels) × (y < length pixels) × (x < length m) × (y < length m)
  pass-bounds =
      let a = accepted-is r.p r.ok in
      let size = a.size in
      let same = ap length r.is in
      let bx = r.left in
      let by = r.right in
      let long = r.map in
      (omega arith, omega arith, omega arith, omega arith)

  pub pass-climb : Climbing fs (get_or m x 0) (get_or m y 0)
  pass-climb = climb-lent r.p r.count hs fs r.ss m r.ok r.tree x y r.left r.right r.fathers

  pub pass-top : (i : ℕ) → Meet (λ i. get_or fs i 0) (get_or m x 0) (get_or m y 0) i → i < length hs
  pass-top i n =
      let h = (pass-lent r.p r.count hs fs r.ss m r.ok r.tree x y r.left r.right i n).0 in
      let long = r.heights in
      omega arith

pub pass_of :
    (pixels hs fs m : List ℕ) (x y i z : ℕ) → Meet (λ i. get_or fs i 0) (get_or m x 0) (get_or m y 0) i →
    z ≡ max (max (get_or pixels x 0) (get_or pixels y 0)) (get_or hs i 0) → PassOf pixels hs fs m x y z
pass_of pixels hs fs m x y i z n e =
    record {
      is =
          λ p count ss ok same t bx by.
          e ∙
          (ap (λ (l : List ℕ). max (max (get_or l x 0) (get_or l y 0)) (get_or hs i 0)) (sym same) ∙
          sym (pass-lent p count hs fs ss m ok t x y bx by i n).1);
    }
