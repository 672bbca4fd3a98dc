-- The climb from two nodes to their nearest common ancestor, a step at a time.
use Rattle.std.proofs.Common.{◌≡◌, subst, List, ℕ, ◌<◌, arith, length, get_or}
use Rattle.topology.proofs.Climb.{Meet, same, left, right}
use Rattle.ancestors.specs.Ancestors.{Climbing}

-- on the way from a₀ and b₀ the climb is at a and b
pub record Climbed (fs : List ℕ) (a₀ b₀ a b : ℕ) : Type 0 where
  pub climbing : Climbing fs a b
  pub back : (r : ℕ) → Meet (λ i. get_or fs i 0) a b r → Meet (λ i. get_or fs i 0) a₀ b₀ r

module _ (fs : List ℕ) where
  pub climb-start : (a b : ℕ) → Climbing fs a b → Climbed fs a b a b
  climb-start a b c = record { climbing = c; back = λ r m. m }

  module _ (a₀ b₀ a b : ℕ) (c : Climbed fs a₀ b₀ a b) where
    abbrev k : Climbing fs a b
    k = c.climbing

    pub climb-left : a < b → Climbed fs a₀ b₀ (get_or fs a 0) b
    climb-left h =
        let e = k.second in
        record {
          climbing = record { count = k.count; few = k.few; rises = k.rises; first = (k.rises a (omega arith)).1; second = e };
          back = λ r m. c.back r (left h m);
        }

    pub climb-right : b < a → Climbed fs a₀ b₀ a (get_or fs b 0)
    climb-right h =
        let e = k.first in
        record {
          climbing = record { count = k.count; few = k.few; rises = k.rises; first = e; second = (k.rises b (omega arith)).1 };
          back = λ r m. c.back r (right h m);
        }

    pub climb-above : a < b → a < get_or fs a 0
    climb-above h = let e = k.second in (k.rises a (omega arith)).0

    pub climb-above-right : b < a → b < get_or fs b 0
    climb-above-right h = let e = k.first in (k.rises b (omega arith)).0

    pub climb-within : (a < length fs) × (b < length fs)
    climb-within = let e = k.first in let g = k.second in let f = k.few in (omega arith, omega arith)

    pub climb-end : a ≡ b → Meet (λ i. get_or fs i 0) a₀ b₀ a
    climb-end e = c.back a (subst (λ (j : ℕ). Meet (λ i. get_or fs i 0) a j a) e same)
