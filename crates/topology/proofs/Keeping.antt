-- Sections of value functions, what it is to keep their connected parts, and what lowering one vertex keeps.
use mathlib.Core.Path.{◌≡◌, refl, sym, ap, subst}
use mathlib.Core.Logic.{◌⊎◌, inl, inr, ◌↔◌, ◌≢◌, by_cases}
use Prim.Native.Nat.{ℕ, suc, ◌≤◌, ◌<◌}
use native.Mathlib.Decide.{ℕ_discrete, dec_le}
use native.Mathlib.Omega.{arith}
use Rattle.lists.proofs.Updates.{put, put_same, put_other}
use Rattle.topology.proofs.Connected.{Conn, start, step, conn-target, conn-trans, conn-sym, conn-edge, conn-mono, conn-closed}

-- y is in the section of v at height k
pub record Sec (n : ℕ) (v : ℕ → ℕ) (k y : ℕ) : Type 0 where
  pub within : y < n
  pub low : v y ≤ k

-- each component of b's section contains exactly one of f's
pub record Keeps (n : ℕ) (R : ℕ → ℕ → Type 0) (f b : ℕ → ℕ) (k : ℕ) : Type 0 where
  pub subset : (y : ℕ) → Sec n f k y → Sec n b k y
  pub reaches : (y : ℕ) → Sec n b k y → (z : ℕ) × Sec n f k z × Conn R (Sec n b k) y z
  pub separates : (y z : ℕ) → Sec n f k y → Sec n f k z → Conn R (Sec n b k) y z → Conn R (Sec n f k) y z

-- x, of value k + 1, is adjacent to exactly one component of height k
pub record Lowers (n : ℕ) (R : ℕ → ℕ → Type 0) (v : ℕ → ℕ) (x k : ℕ) : Type 0 where
  pub within : x < n
  pub value : v x ≡ suc k
  pub near : ℕ
  pub touches : R x near
  pub below : Sec n v k near
  pub joined : (y : ℕ) → R x y → Sec n v k y → Conn R (Sec n v k) near y

-- w is v with the value s at x
pub record Fallen (v w : ℕ → ℕ) (x s : ℕ) : Type 0 where
  pub at : w x ≡ s
  pub other : (y : ℕ) → y ≢ x → w y ≡ v y

pub put-fallen : (v : ℕ → ℕ) (x s : ℕ) → Fallen v (put v x s) x s
put-fallen v x s = record { at = put_same v x s x refl; other = put_other v x s }

pub sec-mono : {n : ℕ} {v : ℕ → ℕ} {j k : ℕ} → j ≤ k → (y : ℕ) → Sec n v j y → Sec n v k y
sec-mono h y s = record { within = s.within; low = omega (arith, s.low) }

-- sections of values that differ at x alone agree at a height where x is in both or in neither
pub same-sections :
    {n : ℕ} {v w : ℕ → ℕ} {x s : ℕ} → Fallen v w x s → (j : ℕ) →
    (v x ≤ j → s ≤ j) → (s ≤ j → v x ≤ j) → (y : ℕ) → Sec n v j y ↔ Sec n w j y
same-sections {v = v} {w} {x} e j f g y =
    by_cases (ℕ_discrete y x)
    (λ q.
    let a = e.at in
    let b = ap v q in
    let c = ap w q in (
      λ t. let l = t.low in record { within = t.within; low = let h = f (omega arith) in omega arith },
      λ t. let l = t.low in record { within = t.within; low = let h = g (omega arith) in omega arith },
    ))
    (λ q.
    let a = e.other y q in (
      λ t. record { within = t.within; low = omega (arith, t.low) },
      λ t. record { within = t.within; low = omega (arith, t.low) },
    ))

pub sec-dec : (n : ℕ) (v : ℕ → ℕ) (k y : ℕ) → y < n → (Sec n v k y) ⊎ (Sec n v k y → ⊥)
sec-dec n v k y h = by_cases (dec_le (v y) k) (λ l. inl (record { within = h; low = l })) (λ l. inr (λ s. l s.low))

module _ (n : ℕ) (R : ℕ → ℕ → Type 0) where
  pub keeps-compose : {f a b : ℕ → ℕ} {k : ℕ} → Keeps n R f a k → Keeps n R a b k → Keeps n R f b k
  keeps-compose {f} {a} {b} {k} fa ab =
      record {
        subset = λ y s. ab.subset y (fa.subset y s);
        reaches =
            λ y s.
            let (z, sz, cz) = ab.reaches y s in
            let (u, su, cu) = fa.reaches z sz in
            (u, su, conn-trans cz (conn-mono ab.subset cu));
        separates = λ y z sy sz c. fa.separates y z sy sz (ab.separates y z (fa.subset y sy) (fa.subset z sz) c);
      }

  -- equal sections keep each other's parts
  pub keeps_same : {f b : ℕ → ℕ} {k : ℕ} → ((y : ℕ) → Sec n f k y ↔ Sec n b k y) → Keeps n R f b k
  keeps_same e =
      record {
        subset = λ y s. (e y).0 s;
        reaches = λ y s. (y, (e y).1 s, start s);
        separates = λ y z sy sz c. conn-mono (λ u s. (e u).1 s) c;
      }

  pub keeps-refl : {f : ℕ → ℕ} {k : ℕ} → Keeps n R f f k
  keeps-refl = keeps_same (λ y. (λ s. s, λ s. s))

  module _ (symmetric : (y z : ℕ) → R y z → R z y) where
    -- one more vertex x whose old neighbours are joined: a path through it between old vertices can be led round it
    module _ (v w : ℕ → ℕ) (x k : ℕ) (l : Lowers n R v x k) (e : Fallen v w x k) where
      -- z is joined to y by old vertices, or it is x and a neighbour of it is
      data Old (y : ℕ) : ℕ → Type 0 where
        away : {z : ℕ} → Conn R (Sec n v k) y z → Old y z
        upon : {z u : ℕ} → z ≡ x → Conn R (Sec n v k) y u → R u x → Old y z

      old-sec : (z : ℕ) → z ≢ x → Sec n w k z → Sec n v k z
      old-sec z h s = record { within = s.within; low = subst (λ (m : ℕ). m ≤ k) (e.other z h) s.low }

      new-sec : (z : ℕ) → Sec n v k z → Sec n w k z
      new-sec z s =
          by_cases
          (ℕ_discrete z x)
          (λ h. absurd (let q : v z ≡ suc k = subst (λ (m : ℕ). v m ≡ suc k) (sym h) l.value in omega (arith, s.low)))
          (λ h. record { within = s.within; low = subst (λ (m : ℕ). m ≤ k) (sym (e.other z h)) s.low })

      old-step : (y z u : ℕ) → Old y z → R z u → Sec n w k u → Old y u
      old-step y z u (away c) r s =
          by_cases (ℕ_discrete u x)
          (λ h. upon h c (subst (λ (m : ℕ). R z m) h r))
          (λ h. away (step c r (old-sec u h s)))
      old-step y z u (upon {u = t} h c t-near) r s =
          by_cases (ℕ_discrete u x)
          (λ g. upon g c t-near)
          (λ g.
          let su = old-sec u g s in
          let tx = l.joined t (symmetric t x t-near) (conn-target c) in
          let ux = l.joined u (subst (λ (m : ℕ). R m u) h r) su in
          away (conn-trans c (conn-trans (conn-sym symmetric tx) ux)))

      old-path : (y z : ℕ) → Sec n v k y → Conn R (Sec n w k) y z → Old y z
      old-path y z s c = conn-closed (Old y) (away (start s)) (old-step y) c

      led-round : (y z : ℕ) → Old y z → Sec n v k z → Conn R (Sec n v k) y z
      led-round y z (away c) s = c
      led-round y z (upon h c r) s =
          absurd (let q : v z ≡ suc k = subst (λ (m : ℕ). v m ≡ suc k) (sym h) l.value in omega (arith, s.low))

      lowering-at : Keeps n R v w k
      lowering-at =
          record {
            subset = new-sec;
            reaches =
                λ y s.
                by_cases (ℕ_discrete y x)
                (λ h. (
                  l.near,
                  l.below,
                  conn-edge s (subst (λ (m : ℕ). R m l.near) (sym h) l.touches) (new-sec l.near l.below),
                ))
                (λ h. (y, old-sec y h s, start s));
            separates = λ y z sy sz c. led-round y z (old-path y z sy c) sz;
          }

      -- lowering such a vertex by one keeps the parts of every height
      pub lowering-keeps : (j : ℕ) → Keeps n R v w j
      lowering-keeps j =
          by_cases (ℕ_discrete j k)
          (λ h. subst (λ (m : ℕ). Keeps n R v w m) (sym h) lowering-at)
          (λ h. let q = l.value in keeps_same (same-sections e j (λ a. omega arith) (λ a. omega arith)))
