-- The node that a component of the height below goes down to: forks, branches and fathers read off it.
use mathlib.Core.Path.{◌≡◌, refl, sym, ap, ◌∙◌}
use mathlib.Core.Bool.{true, false}
use mathlib.Core.Logic.{⊎_elim, ◌≢◌}
use Prim.Native.Nat.{ℕ, zero, suc, ◌≤◌, ◌<◌}
use native.Mathlib.Omega.{arith}
use lib.ListN.{length}
use Rattle.picture.specs.Pictures.{Picture, places, value_at}
use Rattle.picture.specs.Components.{component_at}
use Rattle.picture.specs.Trees.{Node, is_branch, nodes, node_at, father_of, map_of}
use Rattle.lists.proofs.Tests.{test-false}
use Rattle.topology.proofs.Connected.{start, conn-source, conn-target, conn-trans}
use Rattle.topology.proofs.Adjacency.{At, Joined, joined-sym}
use Rattle.topology.proofs.Branches.{Branch, branch-zero, branch-sound, branch-complete}
use Rattle.topology.proofs.Nodes.{number-found}
use Rattle.topology.proofs.Descent.{under, map-under, under_same, under-branch, under-fork, under-is, under-joined, under_up}

-- z is a place of a value below k
pub record Low (p : Picture) (k z : ℕ) : Type 0 where
  pub within : z < places p
  pub less : value_at p z < k

-- the node that the component of the height below k with z goes down to
unfoldable pub beneath : Picture → ℕ → ℕ → ℕ
beneath p zero z = 0
beneath p (suc j) z = under p j z

module _ (p : Picture) where
  pub low-at : {k z : ℕ} → Low p k z → At p k z
  low-at l = record { within = l.within; low = let h = l.less in omega arith }

  pub at_low : {k z : ℕ} → At p k z → Low p (suc k) z
  at_low s = record { within = s.within; less = let h = s.low in omega arith }

  pub low-at-below : {j z : ℕ} → Low p (suc j) z → At p j z
  low-at-below l = record { within = l.within; low = let h = l.less in omega arith }

  pub beneath-next : (k z : ℕ) → beneath p (suc k) z ≡ under p k z
  unfolding beneath
  beneath-next k z = refl

  pub beneath-number : (k z : ℕ) → k ≤ 256 → Low p k z → beneath p k z < length (nodes p)
  unfolding beneath
  beneath-number zero z b l = absurd (let h = l.less in omega arith)
  beneath-number (suc j) z b l = (under-is p j z (omega arith) (low-at-below l)).number

  -- the same node beneath: joined below
  pub beneath-joined : (j z w : ℕ) → suc j ≤ 256 → Low p (suc j) z → Low p (suc j) w → beneath p (suc j) z ≡ beneath p (suc j) w → Joined p j z w
  unfolding beneath
  beneath-joined j z w b l m e = under-joined p j z w (omega arith) (low-at-below l) (low-at-below m) e

  -- nothing beneath: a leaf
  pub none-fork : (k y : ℕ) → At p k y → ((z : ℕ) → Low p k z → Joined p k y z → ⊥) → is_branch p k (component_at p k y) ≡ false
  none-fork zero y s f = branch-zero p (component_at p 0 y)
  none-fork (suc j) y s f =
      test-false (is_branch p (suc j) (component_at p (suc j) y))
      (λ e. let b = branch-sound p j y s e in f b.low (at_low b.place) b.inside)

  -- two nodes beneath: a fork
  pub many-fork : (k y z w : ℕ) → Low p k z → Low p k w → Joined p k y z → Joined p k y w → beneath p k z ≢ beneath p k w → is_branch p k (component_at p k y) ≡ false
  unfolding beneath
  many-fork zero y z w l m a b d = absurd (let h = l.less in omega arith)
  many-fork (suc j) y z w l m a b d =
      test-false (is_branch p (suc j) (component_at p (suc j) y))
      (λ e.
      let i = branch-sound p j y (conn-source a) e in
      d (under_same p (conn-trans (joined-sym p j (i.only z (low-at-below l) a)) (i.only w (low-at-below m) b))))

  -- one node beneath: a branch that goes down to it
  pub one-branch :
      (k y z : ℕ) → k ≤ 256 → Low p k z → Joined p k y z →
      ((w : ℕ) → Low p k w → Joined p k y w → beneath p k w ≡ beneath p k z) →
      (is_branch p k (component_at p k y) ≡ true) × (under p k y ≡ beneath p k z)
  unfolding beneath
  one-branch zero y z b l a f = absurd (let h = l.less in omega arith)
  one-branch (suc j) y z b l a f =
      let i : Branch p j y =
      record {
        low = z;
        place = low-at-below l;
        inside = a;
        only = λ w t c. joined-sym p j (under-joined p j w z (omega arith) t (low-at-below l) (f w (at_low t) c));
      }
      in
      (branch-complete p j y (conn-source a) i, under-branch p j y (conn-source a) i)

  -- where two nodes meet at a pixel, its node is their father
  pub fork-father :
      (k x z w : ℕ) → k ≤ 255 → value_at p x ≡ k → Low p k z → Low p k w → Joined p k x z → Joined p k x w → beneath p k z ≢ beneath p k w →
      father_of p (node_at p (beneath p k z)) ≡ map_of p x
  unfolding beneath
  fork-father zero x z w b v l m a c d = absurd (let h = l.less in omega arith)
  fork-father (suc j) x z w b v l m a c d =
      let s = low-at-below l in
      let e = many-fork (suc j) z z w l m (start (conn-target a)) (conn-trans (joined-sym p (suc j) a) c) d in
      let up : map_of p x ≡ under p (suc j) z = map-under p x ∙ (ap (λ (i : ℕ). under p i x) v ∙ under_same p a) in
      ⊎_elim
      (λ q.
      absurd
      (let low = (under-is p j z (omega arith) s).low in
      let n = (number-found p (suc j) z b (conn-target a) e).1 in
      let h : (node_at p (under p (suc j) z)).height ≡ suc j =
      ap (λ (i : ℕ). (node_at p i).height) (under-fork p (suc j) z e) ∙ ap (λ (m : Node). m.height) n
      in
      let g : (node_at p (under p j z)).height ≡ suc j = ap (λ (i : ℕ). (node_at p i).height) (sym q) ∙ h in
      omega arith))
      (λ q. q ∙ sym up)
      (under_up p j z b s)
