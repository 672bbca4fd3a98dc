-- A function with one value replaced.
use mathlib.Core.Path.{◌≡◌}
use mathlib.Core.Logic.{◌≢◌}
use Prim.Native.Nat.{ℕ}
use lib.Dec.{eqb}
use Rattle.lists.specs.Lists.{pick}
use Rattle.lists.proofs.Tests.{pick-in, pick_out}

-- v with the value s at x
pub put : (ℕ → ℕ) → ℕ → ℕ → ℕ → ℕ
put v x s y = pick (eqb y x) s (v y)

pub put_same : (v : ℕ → ℕ) (x s y : ℕ) → y ≡ x → put v x s y ≡ s
unfolding put
put_same v x s y e = pick-in y x s (v y) e

pub put_other : (v : ℕ → ℕ) (x s y : ℕ) → y ≢ x → put v x s y ≡ v y
unfolding put
put_other v x s y d = pick_out y x s (v y) d
