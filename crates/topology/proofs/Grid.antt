-- The whole grid is one component.
use mathlib.Core.Path.{◌≡◌, sym, ap, subst, ◌∙◌}
use mathlib.Core.Bool.{Bool, true}
use Prim.Native.Nat.{ℕ, zero, suc, ◌+◌, ◌*◌, ◌/◌, ◌%◌, ◌≤◌, ◌<◌}
use native.Mathlib.Nat.{div-add-mod', mod-lt}
use native.Mathlib.Omega.{arith}
use lib.Arith.{digits_div, digits_mod}
use lib.Dec.{eqb}
use borrow.Author.Tests.{eq-eqb, le-leb}
use Rattle.picture.specs.Pictures.{Picture, places, value_at, distance, adjacent}
use Rattle.picture.proofs.Neighbours.{distance_is, distance-same}
use Rattle.lists.proofs.Tests.{and_both, on-pick}
use Rattle.topology.proofs.Connected.{start, step}
use Rattle.topology.proofs.Adjacency.{Adj, At, Joined, adj-sym}
use Rattle.topology.proofs.Accepted.{Accepted, value-byte}

distance_next : (a b : ℕ) → a ≡ suc b → distance a b ≡ 1
distance_next a b h = distance_is a b ∙ omega arith

-- places that differ by one in column or row alone are neighbours under either adjacency
step-adjacent : (a w x y : ℕ) → distance (x % w) (y % w) + distance (x / w) (y / w) ≡ 1 → adjacent a w x y ≡ true
unfolding adjacent
step-adjacent a w x y h =
    let c = distance (x % w) (y % w) in
    let r = distance (x / w) (y / w) in
    on-pick (λ (t : Bool). t ≡ true) (eqb a 4)
    (λ e. eq-eqb (c + r) 1 h)
    (λ e.
    and_both (le-leb c 1 (omega arith))
    (and_both (le-leb r 1 (omega arith)) (le-leb 1 (c + r) (omega arith))))

module _ (p : Picture) (wide : 1 ≤ p.width) where
  -- a place and the one on its left, and the one above it
  at_left : (r c : ℕ) → suc c < p.width → Adj p (r * p.width + suc c) (r * p.width + c)
  at_left r c b =
      let w = p.width in
      let e : distance ((r * w + suc c) % w) ((r * w + c) % w) ≡ 1 =
      distance_next ((r * w + suc c) % w) ((r * w + c) % w)
      (digits_mod r b ∙ ap suc (sym (digits_mod r (omega arith))))
      in
      let g : distance ((r * w + suc c) / w) ((r * w + c) / w) ≡ 0 =
      ap (λ (q : ℕ). distance q ((r * w + c) / w)) (digits_div r b ∙ sym (digits_div r (omega arith))) ∙
      distance-same ((r * w + c) / w)
      in
      step-adjacent p.adjacency w (r * w + suc c) (r * w + c) (omega arith)

  at_above : (r c : ℕ) → c < p.width → Adj p (suc r * p.width + c) (r * p.width + c)
  at_above r c b =
      let w = p.width in
      let e : distance ((suc r * w + c) % w) ((r * w + c) % w) ≡ 0 =
      ap (λ (q : ℕ). distance q ((r * w + c) % w)) (digits_mod (suc r) b ∙ sym (digits_mod r b)) ∙
      distance-same ((r * w + c) % w)
      in
      let g : distance ((suc r * w + c) / w) ((r * w + c) / w) ≡ 1 =
      distance_next ((suc r * w + c) / w) ((r * w + c) / w)
      (digits_div (suc r) b ∙ ap suc (sym (digits_div r b)))
      in
      step-adjacent p.adjacency w (suc r * w + c) (r * w + c) (omega arith)

  module _ (k : ℕ) (all_in : (x : ℕ) → x < places p → value_at p x ≤ k) where
    at-k : (x : ℕ) → x < places p → At p k x
    at-k x b = record { within = b; low = all_in x b }

    row-joined : (r c : ℕ) → c < p.width → r * p.width + c < places p → Joined p k 0 (r * p.width) → Joined p k 0 (r * p.width + c)
    row-joined r zero b h s = subst (λ (x : ℕ). Joined p k 0 x) (omega arith) s
    row-joined r (suc c) b h s =
        step (row-joined r c (omega arith) (omega arith) s)
        (adj-sym p (r * p.width + suc c) (r * p.width + c) (at_left r c b))
        (at-k (r * p.width + suc c) h)

    rows-joined : (r : ℕ) → r * p.width < places p → Joined p k 0 (r * p.width)
    rows-joined zero h = subst (λ (x : ℕ). Joined p k 0 x) (omega arith) (start (at-k 0 (omega arith)))
    rows-joined (suc r) h =
        let up : suc r * p.width ≡ p.width + r * p.width = omega arith in
        subst (λ (x : ℕ). Joined p k 0 x) (omega arith)
        (step
        (subst (λ (x : ℕ). Joined p k 0 x) (omega arith) (rows-joined r (omega arith)))
        (adj-sym p (suc r * p.width + 0) (r * p.width + 0) (at_above r 0 (omega arith)))
        (at-k (suc r * p.width + 0) (omega arith)))

    pub grid-joined : (x : ℕ) → x < places p → Joined p k 0 x
    grid-joined x h =
        let w = p.width in
        let e = div-add-mod' x w in
        let b : x % w < w = mod-lt x (omega arith) in
        subst (λ (y : ℕ). Joined p k 0 y) e
        (row-joined (x / w) (x % w) b (omega arith) (rows-joined (x / w) (omega arith)))

-- all places are joined at 255
pub picture-joined : (p : Picture) → Accepted p → (x : ℕ) → x < places p → Joined p 255 0 x
picture-joined p a = grid-joined p a.some 255 (λ y b. value-byte p a y)
