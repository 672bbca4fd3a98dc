-- Adjacency of places as a relation; sections and joined places of a picture.
use mathlib.Core.Path.{◌≡◌, ◌∙◌}
use mathlib.Core.Bool.{true}
use mathlib.Core.Logic.{◌⊎◌, inl, inr}
use Prim.Native.Nat.{ℕ, suc, ◌≤◌, ◌<◌}
use native.Mathlib.Omega.{arith}
use borrow.Author.Tests.{leb-true, le-leb}
use Rattle.picture.proofs.Neighbours.{touch-sym}
use Rattle.picture.specs.Pictures.{Picture, places, value_at, touch}
use Rattle.picture.specs.Components.{in_section}
use Rattle.lists.proofs.Tests.{clash, on_test}
use Rattle.topology.proofs.Connected.{Conn, conn-sym, conn-mono}
use Rattle.topology.proofs.Keeping.{Sec, sec-mono}

-- x and y are neighbours
abbrev pub Adj : Picture → ℕ → ℕ → Type 0
Adj p x y = touch p x y ≡ true

-- y is a place of the section at height k
abbrev pub At : Picture → ℕ → ℕ → Type 0
At p k y = Sec (places p) (value_at p) k y

-- x and y are in one component of height k
abbrev pub Joined : Picture → ℕ → ℕ → ℕ → Type 0
Joined p k x y = Conn (Adj p) (At p k) x y

pub adj-sym : (p : Picture) (x y : ℕ) → Adj p x y → Adj p y x
adj-sym p x y h = touch-sym p y x ∙ h

-- two places are neighbours or not
pub adj-dec : (p : Picture) (x y : ℕ) → Adj p x y ⊎ (Adj p x y → ⊥)
adj-dec p x y = on_test (touch p x y) (λ h. inl h) (λ h. inr (λ g. clash g h))

pub joined-sym : (p : Picture) (k : ℕ) {x y : ℕ} → Joined p k x y → Joined p k y x
joined-sym p k c = conn-sym (adj-sym p) c

-- at a greater height a place stays in the section, and joined places joined
pub joined-mono : (p : Picture) {j k : ℕ} → j ≤ k → {x y : ℕ} → Joined p j x y → Joined p k x y
joined-mono p h c = conn-mono (sec-mono h) c

pub at_next : (p : Picture) {k x : ℕ} → At p k x → At p (suc k) x
at_next p {x = x} s = sec-mono (omega arith) x s

pub joined-next : (p : Picture) {k x y : ℕ} → Joined p k x y → Joined p (suc k) x y
joined-next p c = joined-mono p (omega arith) c

-- a place is in the section at its own height
pub at_own : (p : Picture) (x : ℕ) → x < places p → At p (value_at p x) x
at_own p x b = record { within = b; low = omega arith }

pub section-at : (p : Picture) (k y : ℕ) → y < places p → in_section p k y ≡ true → At p k y
section-at p k y h e = record { within = h; low = leb-true (value_at p y) k e }

pub at-section : (p : Picture) (k y : ℕ) → At p k y → in_section p k y ≡ true
at-section p k y s = le-leb (value_at p y) k s.low
