-- Fathers: which node they are, and that only a root's father is missing.
use mathlib.Core.Path.{◌≡◌, refl}
use mathlib.Core.Bool.{true, false}
use mathlib.Core.Logic.{◌⊎◌, inl, inr}
use Prim.Native.Nat.{ℕ, zero, suc, ◌+◌, ◌-◌, ◌≤◌, ◌<◌}
use native.Mathlib.Omega.{arith}
use lib.ListN.{length}
use Rattle.picture.specs.Pictures.{Picture}
use Rattle.picture.specs.Components.{component_at}
use Rattle.picture.specs.Trees.{Node, is_branch, nodes, number_of, above_from, father_of}
use Rattle.lists.proofs.Tests.{on-elim}
use Rattle.lists.proofs.Indices.{from_next}
use Rattle.topology.proofs.Keeping.{sec-mono}
use Rattle.topology.proofs.Accepted.{Accepted, places-bound}
use Rattle.topology.proofs.Nodes.{IsNode, number-found, nodes-few}

-- r is the number of the least node from height k on that contains x, or 65535 where each component is a branch
pub data NodeFrom (p : Picture) (x k r : ℕ) : Type 0 where
  top : r ≡ 65535 → ((h : ℕ) → k ≤ h → h ≤ 255 → is_branch p h (component_at p h x) ≡ true) → NodeFrom p x k r
  fork :
      (h : ℕ) → k ≤ h → h ≤ 255 → is_branch p h (component_at p h x) ≡ false →
      ((j : ℕ) → k ≤ j → j < h → is_branch p j (component_at p j x) ≡ true) →
      r ≡ number_of p h (component_at p h x) → NodeFrom p x k r

module _ (p : Picture) (x : ℕ) where
  -- one branch more below
  extend : (k : ℕ) {r : ℕ} → is_branch p k (component_at p k x) ≡ true → NodeFrom p x (suc k) r → NodeFrom p x k r
  extend k e (top q f) = top q (λ h a b. from_next (λ m. is_branch p m (component_at p m x) ≡ true) k h a e (λ c. f h c b))
  extend k e (fork h a b n f q) =
      fork h (omega arith) b n
      (λ j c d. from_next (λ m. is_branch p m (component_at p m x) ≡ true) k j c e (λ i. f j i d))
      q

  above-is : (l k : ℕ) → l + k ≡ 256 → NodeFrom p x k (above_from l k p x)
  above-is zero k e = top refl (λ h a b. absurd (omega arith))
  above-is (suc l) k e =
      on-elim (NodeFrom p x k) (is_branch p k (component_at p k x))
      (λ h. extend k h (above-is l (suc k) (omega arith)))
      (λ h. fork k (omega arith) (omega arith) h (λ j a b. absurd (omega arith)) refl)

module _ (p : Picture) where
  pub father-is : (n : Node) → n.height ≤ 255 → NodeFrom p n.first (suc n.height) (father_of p n)
  unfolding father_of
  father-is n h = above-is p n.first (255 - n.height) (suc n.height) (omega arith)

  -- the number of a father misses only for the root
  pub father-found :
      (n : Node) → IsNode p n →
      (father_of p n < length (nodes p)) ⊎
      ((father_of p n ≡ 65535) × ((h : ℕ) → n.height < h → h ≤ 255 → is_branch p h (component_at p h n.first) ≡ true))
  father-found n i = found (father-is n i.low)
    where
      found :
          {r : ℕ} → NodeFrom p n.first (suc n.height) r →
          (r < length (nodes p)) ⊎
          ((r ≡ 65535) × ((h : ℕ) → n.height < h → h ≤ 255 → is_branch p h (component_at p h n.first) ≡ true))
      found (top e f) = inr (e, f)
      found (fork h a b e f q) =
          let g = (number-found p h n.first b (sec-mono (omega arith) n.first i.place) e).0 in inl (omega arith)

  pub nodes-most : Accepted p → length (nodes p) ≤ 1600
  nodes-most a = let c = nodes-few p in let d = places-bound p a in omega arith

  -- 65535 is no node's number
  pub number_small : Accepted p → (i : ℕ) → i < length (nodes p) → i < 65535
  number_small a i b = let c = nodes-most a in omega arith
