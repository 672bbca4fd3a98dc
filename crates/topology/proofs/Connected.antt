-- Paths in a graph: R the edges, Q the vertices that a path may use.
use Prim.Native.Nat.{ℕ}

-- a path from x within Q, which grows at its end
pub data Conn (R : ℕ → ℕ → Type 0) (Q : ℕ → Type 0) (x : ℕ) : ℕ → Type 0 where
  start : Q x → Conn R Q x x
  step : {y z : ℕ} → Conn R Q x y → R y z → Q z → Conn R Q x z

module _ {R : ℕ → ℕ → Type 0} {Q : ℕ → Type 0} where
  pub conn-source : {x y : ℕ} → Conn R Q x y → Q x
  conn-source (start q) = q
  conn-source (step c r q) = conn-source c

  pub conn-target : {x y : ℕ} → Conn R Q x y → Q y
  conn-target (start q) = q
  conn-target (step c r q) = q

  pub conn-trans : {x y z : ℕ} → Conn R Q x y → Conn R Q y z → Conn R Q x z
  conn-trans c (start q) = c
  conn-trans c (step d r q) = step (conn-trans c d) r q

  pub conn-sym : ((y z : ℕ) → R y z → R z y) → {x y : ℕ} → Conn R Q x y → Conn R Q y x
  conn-sym s (start q) = start q
  conn-sym s (step {y} {z} c r q) = conn-trans (step (start q) (s y z r) (conn-target c)) (conn-sym s c)

  pub conn-edge : {x y : ℕ} → Q x → R x y → Q y → Conn R Q x y
  conn-edge p r q = step (start p) r q

  -- more vertices, the same paths
  pub conn-mono : {P : ℕ → Type 0} → ((y : ℕ) → Q y → P y) → {x y : ℕ} → Conn R Q x y → Conn R P x y
  conn-mono f {x} (start q) = start (f x q)
  conn-mono f (step {z = z} c r q) = step (conn-mono f c) r (f z q)

  -- what holds at the start and passes along edges holds at the end
  pub conn-closed : (P : ℕ → Type 0) {x y : ℕ} → P x → ((y z : ℕ) → P y → R y z → Q z → P z) → Conn R Q x y → P y
  conn-closed P p f (start q) = p
  conn-closed P p f (step {y} {z} c r q) = f y z (conn-closed P p f c) r q
