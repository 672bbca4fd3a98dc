-- Patches are minima: leaves of the tree, whose pixels all have the leaf's height.
use mathlib.Core.Path.{◌≡◌, sym, ◌∙◌}
use mathlib.Core.Bool.{Bool}
use mathlib.Core.Logic.{by_cases}
use mathlib.Core.List.{List}
use Prim.Native.Nat.{ℕ, zero, suc, ◌≤◌}
use native.Mathlib.Decide.{dec_le}
use native.Mathlib.Omega.{arith}
use lib.ListN.{length}
use borrow.Author.Tests.{eqb-true}
use Rattle.lists.specs.Lists.{select, is_in, head_of}
use Rattle.picture.specs.Pictures.{Picture, places, value_at, with_pixels}
use Rattle.picture.specs.Components.{component_at, components}
use Rattle.picture.specs.Trees.{below, nodes, component_of, is_leaf}
use Rattle.picture.specs.Patches.{patch_nodes, patch_at}
use Rattle.lists.proofs.Lists.{select-mem, length-select, none-tally}
use Rattle.lists.proofs.Positions.{index-found}
use Rattle.topology.proofs.Connected.{start, conn-target, conn-trans}
use Rattle.topology.proofs.Keeping.{Keeps}
use Rattle.topology.proofs.Adjacency.{Adj, At, Joined, at_next, joined-next}
use Rattle.topology.proofs.Reached.{in-joined}
use Rattle.topology.proofs.Parts.{mem-components}
use Rattle.topology.proofs.Branches.{joined-below}
use Rattle.topology.proofs.Nodes.{nodes-mem}
use Rattle.topology.proofs.ByFirst.{by-first-mem}

-- x lies in a minimum of height k: no lower pixel is in its component
pub record InMinimum (p : Picture) (k x : ℕ) : Type 0 where
  pub place : At p k x
  pub flat : (y : ℕ) → Joined p k x y → value_at p y ≡ k

module _ (p : Picture) where
  pub leaf-flat : (k x : ℕ) → At p k x → length (below p k (component_at p k x)) ≡ 0 → (y : ℕ) → Joined p k x y → value_at p y ≡ k
  leaf-flat zero x s e y c = let l = (conn-target c).low in omega arith
  leaf-flat (suc j) x s e y c =
      by_cases (dec_le (value_at p y) j)
      (λ h.
      let t : At p j y = record { within = (conn-target c).within; low = h } in
      absurd (none-tally inside (components p j) (sym (length-select inside (components p j)) ∙ e) (mem-components p j y t) (joined-below p j x s y t c)))
      (λ h. let l = (conn-target c).low in omega arith)
    where
      inside : List ℕ → Bool
      inside d = is_in (head_of d) (component_at p (suc j) x)

  -- a pixel of a patch lies in a minimum
  pub patch-minimum : (x : ℕ) → 1 ≤ patch_at p x → (k : ℕ) × InMinimum p k x
  unfolding patch_at patch_nodes is_leaf
  patch-minimum x h =
      let (n, i, e) = index-found (λ n. is_in x (component_of p n)) 0 1 (patch_nodes p) (λ q. absurd (omega arith)) in
      let (j, l) = select-mem (is_leaf p) (nodes p) (by-first-mem (select (is_leaf p) (nodes p)) i) in
      let g = nodes-mem p j in
      let c = in-joined p n.height n.first x g.place e in
      let flat = leaf-flat n.height n.first g.place (eqb-true (length (below p n.height (component_of p n))) 0 l) in (
        n.height,
        record { place = conn-target c; flat = λ y d. flat y (conn-trans c d) },
      )

-- keeping parts keeps the values of minima
module _ (f : Picture) (xs : List ℕ) (keeps : (k : ℕ) → Keeps (places f) (Adj f) (value_at f) (value_at (with_pixels f xs)) k) where
  abbrev a : Picture
  a = with_pixels f xs

  pub flat-kept : (k x : ℕ) → At f k x → ((y : ℕ) → Joined f k x y → value_at f y ≡ k) → (u : ℕ) → Joined a k x u → value_at a u ≡ k
  flat-kept zero x s flat u c = let l = (conn-target c).low in omega arith
  flat-kept (suc j) x s flat u c =
      by_cases (dec_le (value_at a u) j)
      (λ h.
      let (z, sz, d) = (keeps j).reaches u (record { within = (conn-target c).within; low = h }) in
      let g = (keeps (suc j)).separates x z s (at_next f sz) (conn-trans c (joined-next a d)) in
      absurd (let q = flat z g in let r = sz.low in omega arith))
      (λ h. let l = (conn-target c).low in omega arith)

  pub minimum-kept : (k x : ℕ) → InMinimum f k x → value_at a x ≡ value_at f x
  minimum-kept k x m =
      flat-kept k x m.place m.flat x (start ((keeps k).subset x m.place)) ∙ sym (m.flat x (start m.place))
