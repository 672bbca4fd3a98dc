-- A picture that keeps f's parts and in which nothing can be lowered is the only one nowhere above it that keeps them.
use mathlib.Core.Path.{◌≡◌}
use mathlib.Core.Logic.{◌⊎◌, inl, inr, ⊎_elim}
use Prim.Native.Nat.{ℕ, zero, suc, ◌+◌, ◌≤◌, ◌<◌}
use native.Mathlib.Omega.{arith}
use Rattle.topology.proofs.Connected.{Conn, start, step, conn-trans, conn-sym, conn-edge, conn-mono}
use Rattle.topology.proofs.Keeping.{Sec, Keeps, Lowers, sec-mono, sec-dec}

-- an edge of a path that leaves a set
record Exit (R : ℕ → ℕ → Type 0) (P Q : ℕ → Type 0) : Type 0 where
  last : ℕ
  next : ℕ
  inside : P last
  edge : R last next
  allowed : Q next
  outside : P next → ⊥

exit : {R : ℕ → ℕ → Type 0} {P Q : ℕ → Type 0} → ((y : ℕ) → Q y → P y ⊎ (P y → ⊥)) → {z y : ℕ} → P z → Conn R Q z y → P y ⊎ Exit R P Q
exit dec p (start q) = inl p
exit dec p (step {y} {z} c r q) =
    ⊎_elim
    (λ i. ⊎_elim inl (λ o. inr (record { last = y; next = z; inside = i; edge = r; allowed = q; outside = o })) (dec z q))
    inr
    (exit dec p c)

module _ (n : ℕ) (R : ℕ → ℕ → Type 0) (symmetric : (y z : ℕ) → R y z → R z y) (f a b : ℕ → ℕ) where
  -- a vertex of b's section outside a's, next to a's, is lowerable in a
  exit-lowers :
      (k : ℕ) → Keeps n R f a k → Keeps n R f b k → ((y : ℕ) → Sec n a k y → Sec n b k y) →
      (e : Exit R (Sec n a k) (Sec n b k)) → a e.next ≤ suc k → Lowers n R a e.next k
  exit-lowers k fa fb ab e h =
      record {
        within = e.allowed.within;
        value = not-below;
        near = e.last;
        touches = symmetric e.last e.next e.edge;
        below = e.inside;
        joined = λ u r s. joined u r s;
      }
    where
      not-below : a e.next ≡ suc k
      not-below =
          let above : ¬ (a e.next ≤ k) = λ l. e.outside (record { within = e.allowed.within; low = l }) in
          omega arith

      joined : (u : ℕ) → R e.next u → Sec n a k u → Conn R (Sec n a k) e.last u
      joined u r s =
          let (w₀, sw, cw) = fa.reaches e.last e.inside in
          let (u₀, su, cu) = fa.reaches u s in
          let across =
          conn-trans
          (conn-edge (ab e.last e.inside) e.edge e.allowed)
          (conn-edge e.allowed r (ab u s))
          in
          let inb = conn-trans (conn-sym symmetric (conn-mono ab cw)) (conn-trans across (conn-mono ab cu)) in
          let inf = fb.separates w₀ u₀ sw su inb in
          conn-trans cw (conn-trans (conn-mono fa.subset inf) (conn-sym symmetric cu))

  -- from height 255 down the sections of a and b agree
  pub least-sections :
      ((y : ℕ) → y < n → a y ≤ 255) →
      ((y : ℕ) → y < n → b y ≤ a y) →
      ((k : ℕ) → k ≤ 255 → Keeps n R f a k) →
      ((k : ℕ) → k ≤ 255 → Keeps n R f b k) →
      ((x k : ℕ) → Lowers n R a x k → ⊥) →
      (l k : ℕ) → l + k ≡ 255 → (y : ℕ) → Sec n b k y → Sec n a k y
  least-sections bytes under fa fb stuck zero k e y s =
      record { within = s.within; low = omega (arith, bytes y s.within) }
  least-sections bytes under fa fb stuck (suc l) k e y s =
      let h : k ≤ 255 = omega arith in
      let (z, sz, c) = (fb k h).reaches y s in
      let ab : (u : ℕ) → Sec n a k u → Sec n b k u =
      λ u t. record { within = t.within; low = omega (arith, under u t.within, t.low) }
      in
      let up : (u : ℕ) → Sec n b k u → a u ≤ suc k =
      λ u t. (least-sections bytes under fa fb stuck l (suc k) (omega arith) u (sec-mono (omega arith) u t)).low
      in
      ⊎_elim
      (λ i. i)
      (λ x. absurd (stuck x.next k (exit-lowers k (fa k h) (fb k h) ab x (up x.next x.allowed))))
      (exit (λ u t. sec-dec n a k u t.within) ((fa k h).subset z sz) (conn-sym symmetric c))
