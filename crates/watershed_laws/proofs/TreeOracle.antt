-- The tree of a picture answers at which heights two places are joined.
use mathlib.Core.Path.{◌≡◌, subst}
use mathlib.Core.Logic.{◌↔◌}
use Prim.Native.Nat.{ℕ, ◌≤◌, ◌<◌}
use native.Mathlib.Omega.{arith}
use lib.ListN.{length}
use Rattle.picture.specs.Pictures.{Picture, places, value_at}
use Rattle.picture.specs.Trees.{nodes, node_at, father_of, map_of}
use Rattle.topology.proofs.Adjacency.{Adj, At, Joined}
use Rattle.topology.proofs.Accepted.{Accepted}
use Rattle.topology.proofs.Descent.{map_found}
use Rattle.topology.proofs.Climb.{Meet, meet-same, father, father-of, meet-joined}
use Rattle.watershed_laws.proofs.Oracle.{Oracle}

-- the climbs from the nodes a and b by the fathers P meet at a node of height h
pub record MeetsAt (H P : ℕ → ℕ) (a b h : ℕ) : Type 0 where
  pub node : ℕ
  pub meet : Meet P a b node
  pub height : h ≡ H node

module _ (p : Picture) (ok : Accepted p) where
  pub tree-oracle :
      (H P M : ℕ → ℕ) →
      ((i : ℕ) → i < length (nodes p) → H i ≡ (node_at p i).height) →
      ((i : ℕ) → i < length (nodes p) → P i ≡ father_of p (node_at p i)) →
      ((x : ℕ) → x < places p → M x ≡ map_of p x) →
      Oracle (places p) (Adj p) (value_at p) (λ y z h. MeetsAt H P (M y) (M z) h)
  tree-oracle H P M hh hp hm = record { meets = meets }
    where
      meets :
          (y z h k : ℕ) → k ≤ 255 → MeetsAt H P (M y) (M z) h → At p k y → At p k z → Joined p k y z ↔ (h ≤ k)
      meets y z h k b m s t =
          let ey = hm y s.within in
          let ez = hm z t.within in
          let start =
          subst (λ (j : ℕ). Meet P j (map_of p z) m.node) ey
          (subst (λ (j : ℕ). Meet P (M y) j m.node) ez m.meet)
          in
          let (n, r) = meet-same (length (nodes p)) P (father p) hp (father-of p ok) (map_found p ok y s.within) (map_found p ok z t.within) start in
          let i = meet-joined p ok y z s.within t.within n k b s t in
          let e = m.height in
          let g = hh m.node r in
          (λ c. let l = i.0 c in omega arith, λ l. i.1 (omega arith))
