-- How far a vertex falls: an oracle for joined vertices, where a fall stops, what it keeps and whom it makes lowerable.
use mathlib.Core.Path.{◌≡◌, sym, ap, subst, ◌∙◌}
use mathlib.Core.Logic.{◌⊎◌, inl, inr, ⊎_elim, ◌↔◌, ◌≢◌, by_cases}
use Prim.Native.Nat.{ℕ, suc, ◌≤◌, ◌<◌}
use native.Mathlib.Decide.{ℕ_discrete, dec_le, dec_lt}
use native.Mathlib.Omega.{arith}
use Rattle.topology.proofs.Connected.{Conn, start, conn-trans, conn-sym, conn-edge, conn-mono}
use Rattle.lists.proofs.Updates.{put}
use Rattle.topology.proofs.Keeping.{Sec, Keeps, Lowers, Fallen, put-fallen, same-sections, keeps-compose, keeps_same, lowering-keeps}

-- x can fall to s: from height s up to its own its neighbours in the section are joined to one of least value
pub record Drops (n : ℕ) (R : ℕ → ℕ → Type 0) (v : ℕ → ℕ) (x low s : ℕ) : Type 0 where
  pub within : x < n
  pub lowest : low < n
  pub near : R x low
  pub reach : v low ≤ s
  pub falls : s < v x
  pub joined : (j : ℕ) → s ≤ j → j < v x → (y : ℕ) → R x y → Sec n v j y → Conn R (Sec n v j) low y

module _ (n : ℕ) (R : ℕ → ℕ → Type 0) (symmetric : (y z : ℕ) → R y z → R z y) where
  module _ (v : ℕ → ℕ) (x low s : ℕ) (d : Drops n R v x low s) where
    apart : low ≢ x
    apart e = let a = d.reach in let b = d.falls in let c = ap v e in omega arith

    -- each single step of the fall
    pub drops-lowers : (u : ℕ → ℕ) (j : ℕ) → s ≤ j → j < v x → Fallen v u x (suc j) → Lowers n R u x j
    drops-lowers u j a b e =
        let r = d.reach in
        let same = same-sections {n = n} e j (λ h. absurd (omega arith)) (λ h. absurd (omega arith)) in
        let q = e.other low apart in
        record {
          within = d.within;
          value = e.at;
          near = low;
          touches = d.near;
          below = record { within = d.lowest; low = omega arith };
          joined = λ y c t. conn-mono (λ z i. (same z).0 i) (d.joined j a b y c ((same y).1 t));
        }

    -- the whole fall keeps the parts of every height
    pub drops-keeps : (w : ℕ → ℕ) → Fallen v w x s → (k : ℕ) → Keeps n R v w k
    drops-keeps w e k =
        by_cases (dec_le s k)
        (λ a.
        by_cases (dec_lt k (v x))
        (λ b.
        let u = put v x (suc k) in
        let t = put v x k in
        let eu = put-fallen v x (suc k) in
        let et = put-fallen v x k in
        let single : Fallen u t x k =
        record { at = et.at; other = λ y h. et.other y h ∙ sym (eu.other y h) }
        in
        let last : Fallen t w x s = record { at = e.at; other = λ y h. e.other y h ∙ sym (et.other y h) } in
        let tx = et.at in
        keeps-compose n R
        (keeps_same n R (same-sections eu k (λ h. absurd (omega arith)) (λ h. absurd (omega arith))))
        (keeps-compose n R
        (lowering-keeps n R symmetric u t x k (drops-lowers u k a b eu) single k)
        (keeps_same n R (same-sections last k (λ h. a) (λ h. omega arith)))))
        (λ b. let f = d.falls in keeps_same n R (same-sections e k (λ h. a) (λ h. omega arith))))
        (λ a. let f = d.falls in keeps_same n R (same-sections e k (λ h. absurd (omega arith)) (λ h. absurd (omega arith))))

    -- who is lowerable after the fall was so before, or is a neighbour of x above s and not above x
    pub drops-lowerable :
        ((y z : ℕ) → R y z ⊎ (R y z → ⊥)) → (w : ℕ → ℕ) → Fallen v w x s → (y j : ℕ) → y ≢ x → Lowers n R w y j →
        Lowers n R v y j ⊎ (R x y × (s < v y) × (v y ≤ v x))
    drops-lowerable decide w e y j apart-y l =
        by_cases (dec_le s j)
        (λ a.
        by_cases (dec_lt j (v x))
        (λ b.
        ⊎_elim
        (λ c. let g = value in inr (c, omega arith, omega arith))
        (λ c. inl (not-near c))
        (decide x y))
        (λ b. let f = d.falls in inl (as_before (same-sections e j (λ h. a) (λ h. omega arith)))))
        (λ a. let f = d.falls in inl (as_before (same-sections e j (λ h. absurd (omega arith)) (λ h. absurd (omega arith)))))
      where
        value : v y ≡ suc j
        value = sym (e.other y apart-y) ∙ l.value

        as_before : ((z : ℕ) → Sec n v j z ↔ Sec n w j z) → Lowers n R v y j
        as_before same =
            record {
              within = l.within;
              value = value;
              near = l.near;
              touches = l.touches;
              below = (same l.near).1 l.below;
              joined = λ z c t. conn-mono (λ u i. (same u).1 i) (l.joined z c ((same z).0 t));
            }

        not-near : (R x y → ⊥) → Lowers n R v y j
        not-near c =
            let other : l.near ≢ x = λ q. c (symmetric y x (subst (R y) q l.touches)) in
            let g = e.other l.near other in
            let below : Sec n v j l.near = record { within = l.below.within; low = omega (arith, l.below.low) } in
            record {
              within = l.within;
              value = value;
              near = l.near;
              touches = l.touches;
              below = below;
              joined =
                  λ z i t. (drops-keeps w e j).separates l.near z below t (l.joined z i ((drops-keeps w e j).subset z t));
            }

-- Q y z h: y and z are joined from height h on
pub record Oracle (n : ℕ) (R : ℕ → ℕ → Type 0) (v : ℕ → ℕ) (Q : ℕ → ℕ → ℕ → Type 0) : Type 0 where
  pub meets : (y z h k : ℕ) → k ≤ 255 → Q y z h → Sec n v k y → Sec n v k z → Conn R (Sec n v k) y z ↔ (h ≤ k)

-- the answer of the loop over x's neighbours: low one of least value, s the greatest height at which a lower one joins it too late
pub record Stops (n : ℕ) (R : ℕ → ℕ → Type 0) (v : ℕ → ℕ) (Q : ℕ → ℕ → ℕ → Type 0) (x low s : ℕ) : Type 0 where
  pub within : x < n
  pub byte : v x ≤ 255
  pub lowest : low < n
  pub near : R x low
  pub least : (y : ℕ) → y < n → R x y → v low ≤ v y
  pub reach : v low ≤ s
  pub clear : (y : ℕ) → y < n → R x y → v y < v x → (h : ℕ) × Q y low h × ((h ≤ v y) ⊎ (h ≤ s))
  pub tight : (s ≡ v low) ⊎ ((y : ℕ) × (y < n) × R x y × (v y < v x) × (v y < s) × Q y low s)

module _ (n : ℕ) (R : ℕ → ℕ → Type 0) (symmetric : (y z : ℕ) → R y z → R z y) where
  module _ (v : ℕ → ℕ) (Q : ℕ → ℕ → ℕ → Type 0) (o : Oracle n R v Q) (x low s : ℕ) (t : Stops n R v Q x low s) where
    -- below its own value the vertex falls to where it stops
    pub stops-drops : s < v x → Drops n R v x low s
    stops-drops b =
        record {
          within = t.within;
          lowest = t.lowest;
          near = t.near;
          reach = t.reach;
          falls = b;
          joined =
              λ j a c y r i.
              let e = t.byte in
              let g = t.reach in
              let il = i.low in
              let (h, q, l) = t.clear y i.within r (omega arith) in
              let sl : Sec n v j low = record { within = t.lowest; low = omega arith } in
              conn-sym symmetric ((o.meets y low h j (omega arith) q i sl).1 (⊎_elim (λ k. omega arith) (λ k. omega arith) l));
        }

    -- and it is not lowerable at s, nor if s is not below its value
    module _ (u : ℕ → ℕ) (m : ℕ) (e : Fallen v u x m) (at-stop : m ≤ s) (under : m ≤ v x) (either : (m ≡ s) ⊎ (m ≡ v x)) where
      pub stops-there : (j : ℕ) → Lowers n R u x j → ⊥
      stops-there j l =
          let a = l.value in
          let b = e.at in
          let c = t.byte in
          let jm : suc j ≡ m = sym a ∙ b in
          let same = same-sections {n = n} e j (λ h. absurd (omega arith)) (λ h. absurd (omega arith)) in
          let near = (same l.near).1 l.below in
          let q = t.least l.near near.within l.touches in
          let nl = near.low in
          ⊎_elim
          (λ h. omega arith)
          (λ (y, yn, r, below, late, meet).
          let sy : Sec n v j y = record { within = yn; low = low-enough below late jm } in
          let least = t.least y yn r in
          let yl = sy.low in
          let sl : Sec n v j low = record { within = t.lowest; low = omega arith } in
          let c₁ = l.joined y r ((same y).0 sy) in
          let c₂ = l.joined low t.near ((same low).0 sl) in
          let joined = conn-mono (λ z i. (same z).1 i) (conn-trans (conn-sym symmetric c₁) c₂) in
          let h = (o.meets y low s j (omega arith) meet sy sl).0 joined in
          omega arith)
          t.tight
        where
          low-enough : {h : ℕ} → h < v x → h < s → suc j ≡ m → h ≤ j
          low-enough f g c = ⊎_elim (λ q. omega arith) (λ q. omega arith) either

-- after the fall x is answered for by its lowest neighbour
module _ (n : ℕ) (R : ℕ → ℕ → Type 0) (symmetric : (y z : ℕ) → R y z → R z y) where
  pub drops-oracle :
      (v w : ℕ → ℕ) (Q P : ℕ → ℕ → ℕ → Type 0) (x low s : ℕ) (f : ℕ → ℕ) →
      Oracle n R v Q → Drops n R v x low s → Fallen v w x s →
      f x ≡ low → ((y : ℕ) → y ≢ x → f y ≡ y) →
      ((y z h : ℕ) → P y z h → Q (f y) (f z) h) →
      Oracle n R w P
  drops-oracle v w Q P x low s f o d e fx fo pq = record { meets = meets }
    where
      keeps : (k : ℕ) → Keeps n R v w k
      keeps = drops-keeps n R symmetric v x low s d w e

      -- the vertex that answers is in the old section and joined in the new one
      stands : (k y : ℕ) → Sec n w k y → Sec n v k (f y) × Conn R (Sec n w k) y (f y)
      stands k y t =
          by_cases (ℕ_discrete y x)
          (λ q.
          let a = e.at in
          let b = d.reach in
          let c : w x ≤ k = subst (λ (z : ℕ). w z ≤ k) q t.low in
          let g : f y ≡ low = ap f q ∙ fx in
          let sl : Sec n v k low = record { within = d.lowest; low = omega arith } in (
            subst (Sec n v k) (sym g) sl,
            subst (Conn R (Sec n w k) y) (sym g)
                (conn-edge t (subst (λ (z : ℕ). R z low) (sym q) d.near) ((keeps k).subset low sl)),
          ))
          (λ q.
          let g = fo y q in
          let a = e.other y q in (
            subst (Sec n v k) (sym g) (record { within = t.within; low = omega (arith, t.low) }),
            subst (Conn R (Sec n w k) y) (sym g) (start t),
          ))

      meets : (y z h k : ℕ) → k ≤ 255 → P y z h → Sec n w k y → Sec n w k z → Conn R (Sec n w k) y z ↔ (h ≤ k)
      meets y z h k b p sy sz =
          let (ty, cy) = stands k y sy in
          let (tz, cz) = stands k z sz in
          let i = o.meets (f y) (f z) h k b (pq y z h p) ty tz in (
            λ c.
                i.0 ((keeps k).separates (f y) (f z) ty tz (conn-trans (conn-sym symmetric cy) (conn-trans c cz))),
            λ l.
                conn-trans cy (conn-trans (conn-mono (keeps k).subset (i.1 l)) (conn-sym symmetric cz)),
          )
