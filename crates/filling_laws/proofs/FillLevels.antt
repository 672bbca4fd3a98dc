-- The classes of places between two heights, for filling: a class is counted, or settled at the height to which its places are filled.
-- Settled classes are joined no more; a class that touches one counts as large.
use mathlib.Core.Path.{◌≡◌, refl, sym, ap, subst, ◌∙◌}
use mathlib.Core.Logic.{◌⊎◌, inl, inr, ⊎_elim, by_cases, ◌≢◌}
use Prim.Native.Nat.{ℕ, suc, ◌+◌, ◌≤◌, ◌<◌}
use native.Mathlib.Decide.{ℕ_discrete, dec_le}
use native.Mathlib.Omega.{arith}
use lib.Dec.{eqb}
use lib.ListN.{length}
use borrow.Author.Tests.{eqb-true, eq-eqb}
use Rattle.lists.specs.Lists.{range, is_in}
use Rattle.lists.proofs.Lists.{tally-fewer, range-mem}
use Rattle.picture.specs.Pictures.{Picture, places, value_at}
use Rattle.picture.specs.Components.{component_at}
use Rattle.topology.proofs.Connected.{start, conn-target, conn-trans, conn-closed}
use Rattle.topology.proofs.Adjacency.{Adj, At, Joined, joined-sym, joined-next}
use Rattle.topology.proofs.Accepted.{Accepted, value-byte}
use Rattle.topology.proofs.Reached.{in-joined, joined_in}
use Rattle.tree_laws.proofs.States.{first_node}
use Rattle.tree_laws.proofs.Levels.{Upto, upto_all, upto_next}
use Rattle.picture.specs.Filling.{filled_at}
use Rattle.topology.proofs.Filled.{Large, component-size, large-mono, filled-large, filled-above, filled-byte}
use Rattle.filling_laws.proofs.FillSizes.{class_size, size-alone}

-- the state of a counted class: its number of places, s for s or more; a smaller cell is a parent
abbrev pub count_state : ℕ → ℕ
count_state m = first_node + m

-- a smaller state counts places
abbrev pub first_settled : ℕ
first_settled = 4096

-- the state of a settled class: the height to which its places are filled
abbrev pub settled_state : ℕ → ℕ
settled_state h = first_settled + h

-- the state t of the class of y counts its places: below s no fewer, and no more unless the component is known to be large
pub record Counted (p : Picture) (s k : ℕ) (root : ℕ → ℕ) (y t : ℕ) : Type 0 where
  pub low : count_state 0 ≤ t
  pub most : t ≤ count_state s
  pub upper : t < count_state s → count_state (class_size (places p) root (root y)) ≤ t
  pub lower : (t ≤ count_state (class_size (places p) root (root y))) ⊎ Large p s k y

-- the class of y holds a pixel of value k
pub record Fresh (p : Picture) (k : ℕ) (root : ℕ → ℕ) (y : ℕ) : Type 0 where
  pub at : ℕ
  pub within : at < places p
  pub value : value_at p at ≡ k
  pub is : root at ≡ root y

-- the classes at height k: settled ones hold places filled below b, the others are joined and filled at k or above
pub record Fills (p : Picture) (s k b : ℕ) (root st : ℕ → ℕ) : Type 0 where
  pub fixed : (y : ℕ) → y < places p → root (root y) ≡ root y
  pub later : (y : ℕ) → y < places p → k < value_at p y → (root y ≡ y) × (st y ≡ count_state 1)
  pub settled : (y : ℕ) → At p k y → first_settled ≤ st (root y) → (st (root y) ≡ settled_state (filled_at p s y)) × (filled_at p s y < b)
  pub joined : (y : ℕ) → At p k y → st (root y) < first_settled → Joined p k y (root y)
  pub above : (y : ℕ) → At p k y → st (root y) < first_settled → k ≤ filled_at p s y
  pub count : (y : ℕ) → At p k y → st (root y) < first_settled → Counted p s k root y (st (root y))
  pub fresh : (y : ℕ) → At p k y → st (root y) ≡ count_state s → Fresh p k root y

-- a class that counts fewer than s holds the neighbours, passed up to x, of its places
pub record FillEdges (p : Picture) (s k x : ℕ) (root st : ℕ → ℕ) : Type 0 where
  pub same : (y z : ℕ) → Upto p k x y → Upto p k x z → Adj p y z → st (root y) < count_state s → root z ≡ root y

pub fill-edges-upto :
    (p : Picture) (s k a x : ℕ) (root st : ℕ → ℕ) → ((y : ℕ) → Upto p k x y → Upto p k a y) → FillEdges p s k a root st → FillEdges p s k x root st
fill-edges-upto p s k a x root st f e = record { same = λ y z u v t h. e.same y z (f y u) (f z v) t h }

module _ (p : Picture) (ok : Accepted p) (s : ℕ) (some : 1 ≤ s) where
  -- before the first height every place is alone
  pub fills-start : Fills p s 0 0 (λ y. y) (λ y. count_state 1)
  fills-start =
      record {
        fixed = λ y b. refl;
        later = λ y b h. (refl, refl);
        settled = λ y t h. absurd (omega arith);
        joined = λ y t h. start t;
        above = λ y t h. omega arith;
        count = λ y t h. alone y t;
        fresh = λ y t e. record { at = y; within = t.within; value = let l = t.low in omega arith; is = refl };
      }
    where
      alone : (y : ℕ) → At p 0 y → Counted p s 0 (λ y. y) y (count_state 1)
      alone y t =
          let e = size-alone (places p) (λ y. y) y t.within refl (λ z b q. q) in
          record {
            low = omega arith;
            most = omega arith;
            upper = λ h. omega arith;
            lower = inl (omega arith);
          }

  pub edges-start : (root st : ℕ → ℕ) → FillEdges p s 0 0 root st
  edges-start root st =
      record { same = λ y z u v t h. absurd (⊎_elim (λ g. omega arith) (λ g. let i = g.1 in omega arith) u.passed) }

module _ (p : Picture) (s k b : ℕ) (root st : ℕ → ℕ) (v : Fills p s k b root st) where
  -- what is in one class with y is joined to it
  pub class-joined : (y z : ℕ) → At p k y → st (root y) < first_settled → z < places p → root z ≡ root y → Joined p k y z
  class-joined y z t h c e =
      let j = v.joined y t h in
      by_cases (dec_le (value_at p z) k)
      (λ l.
      let tz : At p k z = record { within = c; low = l } in
      let g = v.joined z tz (subst (λ (r : ℕ). st r < first_settled) (sym e) h) in
      conn-trans j (joined-sym p k (subst (λ (r : ℕ). Joined p k z r) e g)))
      (λ l.
      let (q, i) = v.later z c (omega arith) in
      subst (λ (u : ℕ). Joined p k y u) (sym e ∙ q) j)

  -- a counted class has no more places than the component
  pub class-within : (y : ℕ) → At p k y → st (root y) < first_settled → class_size (places p) root (root y) ≤ length (component_at p k y)
  unfolding class_size
  class-within y t h =
      let a = component-size p k y t in
      let c =
      tally-fewer (λ z. eqb (root z) (root y)) (λ z. is_in z (component_at p k y)) (range 0 (places p))
      (λ z m e.
      let r = range-mem 0 (places p) m in
      joined_in p k (class-joined y z t h (omega arith) (eqb-true (root z) (root y) e)))
      in
      omega arith

  -- a class that counts s is large
  pub full-large : (y : ℕ) → At p k y → s ≤ 1600 → st (root y) ≡ count_state s → Large p s k y
  full-large y t few e =
      let h : st (root y) < first_settled = omega arith in
      let c = v.count y t h in
      let w = class-within y t h in
      ⊎_elim (λ l. record { place = t; size = omega arith }) (λ l. l) c.lower

  -- at the end of a height one that counts fewer is not
  pub short-small : FillEdges p s k (places p) root st → s ≤ 1600 → (y : ℕ) → At p k y → st (root y) < count_state s → Large p s k y → ⊥
  unfolding class_size
  short-small e few y t h l =
      let a = component-size p k y t in
      let c = (v.count y t (omega arith)).upper h in
      let d =
      tally-fewer (λ z. is_in z (component_at p k y)) (λ z. eqb (root z) (root y)) (range 0 (places p))
      (λ z m i. eq-eqb (root z) (root y) (reached z (in-joined p k y z t i)))
      in
      let g = l.size in
      omega arith
    where
      reached : (z : ℕ) → Joined p k y z → root z ≡ root y
      reached z c =
          (conn-closed (λ u. (root u ≡ root y) × At p k u) (refl, t)
          (λ u z i r q. (
            e.same u z (upto_all p k (places p) u (omega arith) i.1) (upto_all p k (places p) z (omega arith) q) r
                (subst (λ (w : ℕ). st w < count_state s) (sym i.0) h) ∙ i.0,
            q,
          ))
          c
          ).0

-- from the end of a height to the next one
module _ (p : Picture) (ok : Accepted p) (s : ℕ) (some : 1 ≤ s) (few : s ≤ 1600) (k : ℕ) (low : k ≤ 255) (root st : ℕ → ℕ)
    (v : Fills p s k (suc k) root st) (e : FillEdges p s k (places p) root st) (empty : (y : ℕ) → At p k y → st (root y) ≢ count_state s) where
  -- a place of the next height was or is alone
  data Was (y : ℕ) : Type 0 where
    before : At p k y → Was y
    arrived : value_at p y ≡ suc k → root y ≡ y → st y ≡ count_state 1 → Was y

  was : (y : ℕ) → At p (suc k) y → Was y
  was y t =
      let l = t.low in
      by_cases (dec_le (value_at p y) k)
      (λ h. before (record { within = t.within; low = h }))
      (λ h. let (r, q) = v.later y t.within (omega arith) in arrived (omega arith) r q)

  alone : (y z : ℕ) → value_at p y ≡ suc k → st y ≡ count_state 1 → z < places p → root z ≡ y → z ≡ y
  alone y z n i c q =
      by_cases (dec_le (value_at p z) k)
      (λ l.
      let j = v.joined z (record { within = c; low = l }) (subst (λ (r : ℕ). st r < first_settled) (sym q) (omega arith)) in
      let low = (conn-target j).low in
      let same = ap (value_at p) q in
      absurd (omega arith))
      (λ l. sym (v.later z c (omega arith)).0 ∙ q)

  counted_next : (y : ℕ) → At p (suc k) y → st (root y) < first_settled → Was y → Counted p s (suc k) root y (st (root y))
  counted_next y t h (before w) =
      let c = v.count y w h in
      record {
        low = c.low;
        most = c.most;
        upper = c.upper;
        lower = ⊎_elim (λ l. inl l) (λ l. inr (large-mono p s k (suc k) y (omega arith) l)) c.lower;
      }
  counted_next y t h (arrived n r i) =
      let c = size-alone (places p) root y t.within r (λ z d q. alone y z n i d q) in
      let j = ap st r in
      let d = ap (class_size (places p) root) r in
      record { low = omega arith; most = omega arith; upper = λ g. omega arith; lower = inl (omega arith) }

  pub fills-next : Fills p s (suc k) (suc k) root st
  fills-next =
      record {
        fixed = v.fixed;
        later = λ y c h. v.later y c (omega arith);
        settled = λ y t h. settled y h (was y t);
        joined = λ y t h. joined y t h (was y t);
        above = λ y t h. above y t h (was y t);
        count = λ y t h. counted_next y t h (was y t);
        fresh = λ y t h. fresh y t h (was y t);
      }
    where
      settled : (y : ℕ) → first_settled ≤ st (root y) → Was y → (st (root y) ≡ settled_state (filled_at p s y)) × (filled_at p s y < suc k)
      settled y h (before w) = v.settled y w h
      settled y h (arrived n r i) = absurd (let j = ap st r in omega arith)

      joined : (y : ℕ) → At p (suc k) y → st (root y) < first_settled → Was y → Joined p (suc k) y (root y)
      joined y t h (before w) = joined-next p (v.joined y w h)
      joined y t h (arrived n r i) = subst (λ (u : ℕ). Joined p (suc k) y u) (sym r) (start t)

      above : (y : ℕ) → At p (suc k) y → st (root y) < first_settled → Was y → suc k ≤ filled_at p s y
      above y t h (before w) =
          let a = v.above y w h in
          let c = (v.count y w h).most in
          let d = empty y w in
          by_cases (ℕ_discrete k (filled_at p s y))
          (λ q.
          absurd
          (short-small p s k (suc k) root st v e few y w (omega arith)
          (subst (λ (j : ℕ). Large p s j y) (sym q) (filled-large p s y t.within (omega arith)))))
          (λ q. omega arith)
      above y t h (arrived n r i) =
          let a = filled-above p s y t.within (value-byte p ok y) in omega arith

      fresh : (y : ℕ) → At p (suc k) y → st (root y) ≡ count_state s → Was y → Fresh p (suc k) root y
      fresh y t h (before w) = absurd (empty y w h)
      fresh y t h (arrived n r i) = record { at = y; within = t.within; value = n; is = refl }

  pub edges-next : FillEdges p s (suc k) 0 root st
  edges-next =
      record {
        same =
            λ y z u w t h.
            e.same y z (upto_all p k (places p) y (omega arith) (upto_next p k y u)) (upto_all p k (places p) z (omega arith) (upto_next p k z w)) t h;
      }

-- after the last height every class is settled
pub fills-end :
    (p : Picture) → Accepted p → (s : ℕ) → s ≤ places p → (k : ℕ) (root st : ℕ → ℕ) → 256 ≤ k → Fills p s k k root st →
    (y : ℕ) → y < places p → st (root y) ≡ settled_state (filled_at p s y)
fills-end p ok s few k root st b v y c =
    let t : At p k y = record { within = c; low = let q = value-byte p ok y in omega arith } in
    by_cases (dec_le first_settled (st (root y)))
    (λ h. (v.settled y t h).0)
    (λ h. absurd (let a = v.above y t (omega arith) in let d = filled-byte p ok s y few c in omega arith))

-- in the walk that joins the pixels of a height, the class of such a pixel is not settled
pub pixel-counted : (p : Picture) → Accepted p → (s k : ℕ) (root st : ℕ → ℕ) → Fills p s k k root st → (x : ℕ) → x < places p → value_at p x ≡ k → st (root x) < first_settled
pixel-counted p ok s k root st v x b e =
    let t : At p k x = record { within = b; low = omega arith } in
    by_cases (dec_le first_settled (st (root x)))
    (λ h. absurd (let a = (v.settled x t h).1 in let c = filled-above p s x b (value-byte p ok x) in omega arith))
    (λ h. omega arith)

-- a settled place is in a large component
pub settled-large : (p : Picture) (s k b : ℕ) (root st : ℕ → ℕ) → k ≤ 255 → b ≤ suc k → Fills p s k b root st → (y : ℕ) → At p k y → first_settled ≤ st (root y) → Large p s k y
settled-large p s k b root st low most v y t h =
    let a = (v.settled y t h).1 in
    large-mono p s (filled_at p s y) k y (omega arith) (filled-large p s y t.within (omega arith))
