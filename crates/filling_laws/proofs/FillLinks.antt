-- The classes while the pixels of one height are joined: a class gets another state, or two classes are linked.
use mathlib.Core.Path.{◌≡◌, sym, ap, subst, ◌∙◌}
use mathlib.Core.Logic.{◌⊎◌, inl, inr, ⊎_elim, by_cases, ◌≢◌}
use Prim.Native.Nat.{ℕ, suc, ◌+◌, ◌≤◌, ◌<◌}
use native.Mathlib.Decide.{ℕ_discrete, dec_lt}
use native.Mathlib.Omega.{arith}
use Rattle.lists.proofs.Updates.{put, put_same, put_other}
use Rattle.picture.specs.Pictures.{Picture, places, value_at}
use Rattle.topology.proofs.Connected.{start, conn-source, conn-target, conn-trans}
use Rattle.topology.proofs.Adjacency.{At, Joined, joined-sym}
use Rattle.tree_laws.proofs.Levels.{relink, relink-moved, relink-kept, relink-same}
use Rattle.picture.specs.Filling.{filled_at}
use Rattle.topology.proofs.Filled.{Large, large-joined, filled-most}
use Rattle.filling_laws.proofs.FillSizes.{class_size, size-linked, size-other}
use Rattle.filling_laws.proofs.FillLevels.{count_state, first_settled, settled_state, Counted, Fresh, Fills, FillEdges, class-joined, full-large}

-- the class of r gets another state
module _ (p : Picture) (s k b c : ℕ) (root st : ℕ → ℕ) (v : Fills p s k b root st) (r d : ℕ)
    (grows : b ≤ c) (at-r : root r ≡ r) (place : At p k r) (open-r : st r < first_settled) where
  stated : ℕ → ℕ
  stated = put st r d

  other : (y : ℕ) → root y ≢ r → stated (root y) ≡ st (root y)
  unfolding stated
  other y n = put_other st r d (root y) n

  own : (y : ℕ) → root y ≡ r → stated (root y) ≡ d
  unfolding stated
  own y e = put_same st r d (root y) e

  -- a class of which each place has the new state's property
  module _
      (settled : first_settled ≤ d → (y : ℕ) → At p k y → root y ≡ r → (d ≡ settled_state (filled_at p s y)) × (filled_at p s y < c))
      (counted : d < first_settled → (y : ℕ) → At p k y → root y ≡ r → Counted p s k root y d)
      (fresh : d ≡ count_state s → (y : ℕ) → root y ≡ r → Fresh p k root y) where
    restated : Fills p s k c root stated
    restated =
        record {
          fixed = v.fixed;
          later =
              λ y i h.
              let (e, q) = v.later y i h in
              let n : y ≢ r = λ g. let l = place.low in let w = ap (value_at p) g in omega arith in
              (e, ap stated (sym e) ∙ (other y (λ g. n (sym e ∙ g)) ∙ (ap st e ∙ q)));
          settled =
              λ y t h.
              by_cases (ℕ_discrete (root y) r)
              (λ e. let q = own y e in let (g, i) = settled (omega arith) y t e in (q ∙ g, i))
              (λ n. let q = other y n in let (g, i) = v.settled y t (omega arith) in (q ∙ g, omega arith));
          joined =
              λ y t h.
              by_cases (ℕ_discrete (root y) r)
              (λ e. v.joined y t (subst (λ (u : ℕ). st u < first_settled) (sym e) open-r))
              (λ n. let q = other y n in v.joined y t (omega arith));
          above =
              λ y t h.
              by_cases (ℕ_discrete (root y) r)
              (λ e. v.above y t (subst (λ (u : ℕ). st u < first_settled) (sym e) open-r))
              (λ n. let q = other y n in v.above y t (omega arith));
          count =
              λ y t h.
              by_cases (ℕ_discrete (root y) r)
              (λ e. let q = own y e in subst (Counted p s k root y) (sym q) (counted (omega arith) y t e))
              (λ n. let q = other y n in subst (Counted p s k root y) (sym q) (v.count y t (omega arith)));
          fresh =
              λ y t h.
              by_cases (ℕ_discrete (root y) r)
              (λ e. let q = own y e in fresh (omega arith) y e)
              (λ n. let q = other y n in v.fresh y t (omega arith));
        }

    pub fills-stated : Fills p s k c root (put st r d)
    unfolding stated
    fills-stated = restated

  -- it counts s or is settled
  pub edges-stated : (x : ℕ) → count_state s ≤ d → FillEdges p s k x root st → FillEdges p s k x root (put st r d)
  unfolding stated
  edges-stated x h e =
      record {
        same =
            λ y z u w t l.
            by_cases (ℕ_discrete (root y) r)
            (λ q. absurd (let i = own y q in omega (arith, i, l, h)))
            (λ n. let i = other y n in e.same y z u w t (omega (arith, i, l)));
      }

module _ (p : Picture) (s k : ℕ) (few : s ≤ 1600) (low : k ≤ 255) (root st : ℕ → ℕ) (r : ℕ) (at-r : root r ≡ r) (place : At p k r) where
  -- a class that touches a settled one at the pixel x counts s
  pub fills-touched :
      (x : ℕ) → x < places p → value_at p x ≡ k → root x ≡ r → st r < first_settled → Large p s k x → Fills p s k k root st → Fills p s k k root (put st r (count_state s))
  fills-touched x b e is h l v =
      fills-stated p s k k k root st v r (count_state s) (omega arith) at-r place h
      (λ g. absurd (omega arith))
      (λ g y t q.
      record {
        low = omega arith;
        most = omega arith;
        upper = λ i. absurd (omega arith);
        lower =
            inr
            (large-joined p s k x y
            (class-joined p s k k root st v x y (record { within = b; low = omega arith }) (subst (λ (u : ℕ). st u < first_settled) (sym is) h) t.within (q ∙ sym is))
            l);
      })
      (λ g y q. record { at = x; within = b; value = e; is = is ∙ sym q })

  -- a class that counts s is settled at k
  pub fills-settled : st r ≡ count_state s → Fills p s k (suc k) root st → Fills p s k (suc k) root (put st r (settled_state k))
  fills-settled h v =
      fills-stated p s k (suc k) (suc k) root st v r (settled_state k) (omega arith) at-r place (omega arith)
      (λ g y t q.
      let i : st (root y) ≡ count_state s = ap st q ∙ h in
      let l = full-large p s k (suc k) root st v y t few i in
      let a = filled-most p s k y low l in
      let c = v.above y t (omega arith) in
      (omega arith, omega arith))
      (λ g. absurd (omega arith))
      (λ g. absurd (omega arith))

-- the state d of two classes together that count by the states a and b
pub record Together (s a b d : ℕ) : Type 0 where
  pub few : a + b < count_state 0 + count_state s → d + count_state 0 ≡ a + b
  pub many : count_state 0 + count_state s ≤ a + b → d ≡ count_state s

pub together-exchange : {s a b d : ℕ} → Together s a b d → Together s b a d
together-exchange t = record { few = λ h. let q = t.few (omega arith) in omega arith; many = λ h. t.many (omega arith) }

-- two counted classes that are joined at height k, linked at the pixel x of one of them
module _ (p : Picture) (s k : ℕ) (small : s ≤ 1600) (root st : ℕ → ℕ) (v : Fills p s k k root st) (x lo hi d : ℕ)
    (less : lo < hi) (at-lo : root lo ≡ lo) (at-hi : root hi ≡ hi) (joins : Joined p k lo hi)
    (open-lo : st lo < first_settled) (open-hi : st hi < first_settled) (t : Together s (st lo) (st hi) d)
    (b : x < places p) (value : value_at p x ≡ k) (either : (root x ≡ lo) ⊎ (root x ≡ hi)) where
  new : ℕ → ℕ
  new = relink root lo hi

  kept : ℕ → ℕ
  kept = put st lo d

  new-hi : (z : ℕ) → root z ≡ hi → new z ≡ lo
  unfolding new
  new-hi z e = relink-moved root lo hi z e

  new-other : (z : ℕ) → root z ≢ hi → new z ≡ root z
  unfolding new
  new-other z n = relink-kept root lo hi z n

  new-lo : (z : ℕ) → root z ≡ lo → new z ≡ lo
  new-lo z e = new-other z (λ q. let h : lo ≡ hi = sym e ∙ q in omega arith) ∙ e

  kept-lo : (y : ℕ) → y ≡ lo → kept y ≡ d
  unfolding kept
  kept-lo y e = put_same st lo d y e

  kept-other : (y : ℕ) → y ≢ lo → kept y ≡ st y
  unfolding kept
  kept-other y n = put_other st lo d y n

  count-lo : Counted p s k root lo (st lo)
  count-lo = subst (λ (r : ℕ). Counted p s k root lo (st r)) at-lo (v.count lo (conn-source joins) (subst (λ (r : ℕ). st r < first_settled) (sym at-lo) open-lo))

  count-hi : Counted p s k root hi (st hi)
  count-hi = subst (λ (r : ℕ). Counted p s k root hi (st r)) at-hi (v.count hi (conn-target joins) (subst (λ (r : ℕ). st r < first_settled) (sym at-hi) open-hi))

  -- the new state counts
  bounds : (count_state 0 ≤ d) × (d ≤ count_state s) × (d < count_state s → (st lo < count_state s) × (st hi < count_state s) × (d + count_state 0 ≡ st lo + st hi))
  bounds =
      let al = count-lo.low in
      let bl = count-hi.low in
      by_cases (dec_lt (st lo + st hi) (count_state 0 + count_state s))
      (λ h. let e = t.few h in (omega arith, omega arith, λ g. (omega arith, omega arith, e)))
      (λ h. let e = t.many (omega arith) in (omega arith, omega arith, λ g. absurd (omega arith)))

  sum_bound : d + count_state 0 ≤ st lo + st hi
  sum_bound =
      by_cases (dec_lt (st lo + st hi) (count_state 0 + count_state s))
      (λ h. let e = t.few h in omega arith)
      (λ h. let e = t.many (omega arith) in omega arith)

  -- where a place is now: in the linked class, or as it was
  data Now (y : ℕ) : Type 0 where
    linked : (root y ≡ lo) ⊎ (root y ≡ hi) → new y ≡ lo → kept (new y) ≡ d → Now y
    as-was : root y ≢ lo → root y ≢ hi → new y ≡ root y → kept (new y) ≡ st (root y) → Now y

  now : (y : ℕ) → Now y
  now y =
      by_cases (ℕ_discrete (root y) hi)
      (λ e. linked (inr e) (new-hi y e) (kept-lo (new y) (new-hi y e)))
      (λ n.
      by_cases (ℕ_discrete (root y) lo)
      (λ e. linked (inl e) (new-lo y e) (kept-lo (new y) (new-lo y e)))
      (λ m. as-was m n (new-other y n) (ap kept (new-other y n) ∙ kept-other (root y) m)))

  -- a place of either class: its state, and joined to lo
  was-open : (y : ℕ) → (root y ≡ lo) ⊎ (root y ≡ hi) → st (root y) < first_settled
  was-open y (inl e) = subst (λ (r : ℕ). st r < first_settled) (sym e) open-lo
  was-open y (inr e) = subst (λ (r : ℕ). st r < first_settled) (sym e) open-hi

  to-lo : (y : ℕ) → At p k y → (root y ≡ lo) ⊎ (root y ≡ hi) → Joined p k y lo
  to-lo y w (inl e) = subst (λ (r : ℕ). Joined p k y r) e (v.joined y w (was-open y (inl e)))
  to-lo y w (inr e) = conn-trans (subst (λ (r : ℕ). Joined p k y r) e (v.joined y w (was-open y (inr e)))) (joined-sym p k joins)

  counted-linked : (y : ℕ) → At p k y → (root y ≡ lo) ⊎ (root y ≡ hi) → new y ≡ lo → Counted p s k new y d
  unfolding new
  counted-linked y w e n =
      let (low, most, below) = bounds in
      let sum = size-linked (places p) root lo hi less in
      let size = ap (class_size (places p) (relink root lo hi)) n in
      let cl = ap (class_size (places p) root) at-lo in
      let ch = ap (class_size (places p) root) at-hi in
      let large : (z : ℕ) → Large p s k z → Joined p k lo z → Large p s k y = λ z l j. large-joined p s k z y (conn-trans (joined-sym p k j) (joined-sym p k (to-lo y w e))) l in
      let total = sum_bound in
      record {
        low = low;
        most = most;
        upper =
            λ h.
            let (i, j, q) = below h in
            let a = count-lo.upper i in
            let c = count-hi.upper j in
            omega arith;
        lower =
            ⊎_elim
            (λ i.
            ⊎_elim
            (λ j. inl (omega arith))
            (λ j. inr (large hi j joins))
            count-hi.lower)
            (λ i. inr (large lo i (start (conn-source joins))))
            count-lo.lower;
      }

  counted-other : (y : ℕ) → At p k y → root y ≢ lo → root y ≢ hi → new y ≡ root y → Counted p s k root y (st (root y)) → Counted p s k new y (st (root y))
  unfolding new
  counted-other y w nl nh e c =
      let size : class_size (places p) (relink root lo hi) (relink root lo hi y) ≡ class_size (places p) root (root y) =
      ap (class_size (places p) (relink root lo hi)) e ∙ size-other (places p) root lo hi less (root y) nl nh
      in
      record {
        low = c.low;
        most = c.most;
        upper = λ h. let q = c.upper h in omega arith;
        lower = ⊎_elim (λ h. inl (omega arith)) (λ h. inr h) c.lower;
      }

  relinked : Fills p s k k new kept
  relinked =
      record {
        fixed =
            λ y c.
            by_cases (ℕ_discrete (root y) hi)
            (λ e. ap new (new-hi y e) ∙ (new-lo lo at-lo ∙ sym (new-hi y e)))
            (λ n.
            let r = v.fixed y c in
            ap new (new-other y n) ∙ (new-other (root y) (λ e. n (sym r ∙ e)) ∙ (r ∙ sym (new-other y n))));
        later =
            λ y c h.
            let (r, q) = v.later y c h in
            let dl : y ≢ lo = λ e. let g = (conn-source joins).low in let i = ap (value_at p) e in omega arith in
            let dh : y ≢ hi = λ e. let g = (conn-target joins).low in let i = ap (value_at p) e in omega arith in
            (new-other y (λ e. dh (sym r ∙ e)) ∙ r, kept-other y dl ∙ q);
        settled = λ y w h. settled y w h (now y);
        joined = λ y w h. joined y w h (now y);
        above = λ y w h. above y w h (now y);
        count = λ y w h. count y w h (now y);
        fresh = λ y w h. fresh y w h (now y);
      }
    where
      settled : (y : ℕ) → At p k y → first_settled ≤ kept (new y) → Now y → (kept (new y) ≡ settled_state (filled_at p s y)) × (filled_at p s y < k)
      settled y w h (linked e n q) = absurd (let (i, j, g) = bounds in omega arith)
      settled y w h (as-was nl nh n q) = let (g, i) = v.settled y w (omega arith) in (q ∙ g, i)

      joined : (y : ℕ) → At p k y → kept (new y) < first_settled → Now y → Joined p k y (new y)
      joined y w h (linked e n q) = subst (λ (r : ℕ). Joined p k y r) (sym n) (to-lo y w e)
      joined y w h (as-was nl nh n q) = subst (λ (r : ℕ). Joined p k y r) (sym n) (v.joined y w (omega arith))

      above : (y : ℕ) → At p k y → kept (new y) < first_settled → Now y → k ≤ filled_at p s y
      above y w h (linked e n q) = v.above y w (was-open y e)
      above y w h (as-was nl nh n q) = v.above y w (omega arith)

      count : (y : ℕ) → At p k y → kept (new y) < first_settled → Now y → Counted p s k new y (kept (new y))
      count y w h (linked e n q) = subst (Counted p s k new y) (sym q) (counted-linked y w e n)
      count y w h (as-was nl nh n q) = subst (Counted p s k new y) (sym q) (counted-other y w nl nh n (v.count y w (omega arith)))

      at_x : new x ≡ lo
      at_x = ⊎_elim (λ e. new-lo x e) (λ e. new-hi x e) either

      fresh : (y : ℕ) → At p k y → kept (new y) ≡ count_state s → Now y → Fresh p k new y
      fresh y w h (linked e n q) = record { at = x; within = b; value = value; is = at_x ∙ sym n }
      fresh y w h (as-was nl nh n q) =
          let f = v.fresh y w (sym q ∙ h) in
          record {
            at = f.at;
            within = f.within;
            value = f.value;
            is = new-other f.at (λ g. nh (sym f.is ∙ g)) ∙ (f.is ∙ sym n);
          }

  -- linking keeps what the classes say
  pub fills-linked : Fills p s k k (relink root lo hi) (put st lo d)
  unfolding new kept
  fills-linked = relinked

  -- a class that counts fewer than s now did so before
  pub short-before : (y : ℕ) → put st lo d (relink root lo hi y) < count_state s → st (root y) < count_state s
  unfolding new kept
  short-before y h = by (now y)
    where
      by : Now y → st (root y) < count_state s
      by (linked e n q) =
          let (i, j, g) = bounds in
          let (l, m, o) = g (omega (arith, q, h)) in
          ⊎_elim (λ a. subst (λ (r : ℕ). st r < count_state s) (sym a) l) (λ a. subst (λ (r : ℕ). st r < count_state s) (sym a) m) e
      by (as-was nl nh n q) = omega (arith, q, h)

  pub edges-linked : (a : ℕ) → FillEdges p s k a root st → FillEdges p s k a (relink root lo hi) (put st lo d)
  edges-linked a e =
      record { same = λ y z u w r h. relink-same root lo hi z y (e.same y z u w r (short-before y h)) }
