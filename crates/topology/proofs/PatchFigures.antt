-- The figures of a patch: its pixels by their patch number, its record by its number, its node by the map.
use mathlib.Core.Path.{◌≡◌, refl, sym, ap, ap₂, subst, ◌∙◌}
use mathlib.Core.Bool.{true}
use mathlib.Core.List.{List, [], ◌∷◌, Memᴰ}
use Prim.Native.Nat.{ℕ, zero, suc, ◌+◌, ◌<◌}
use native.Mathlib.Omega.{arith}
use lib.Dec.{eqb}
use lib.ListN.{length, get_or, length-map}
use borrow.Author.Tests.{eqb-true, eq-eqb}
use Rattle.lists.specs.Lists.{tally, select, range}
use Rattle.picture.specs.Pictures.{Picture, places, value_at}
use Rattle.picture.specs.Components.{component_at}
use Rattle.picture.specs.Trees.{Node, node_at, component_of, map_of}
use Rattle.picture.specs.Patches.{patch_nodes, Patch, patch_of, patches_from, patches, patch_at}
use Rattle.lists.proofs.Tests.{on_test}
use Rattle.lists.proofs.Lists.{get_d_map}
use Rattle.lists.proofs.Rising.{rising-is-select}
use Rattle.topology.proofs.Connected.{conn-target}
use Rattle.topology.proofs.Adjacency.{At, joined-sym, at_own}
use Rattle.topology.proofs.Accepted.{Accepted, value-byte}
use Rattle.topology.proofs.Reached.{first_at, component-rising, mem-joined, joined-mem, first-joined, first-at}
use Rattle.topology.proofs.Nodes.{node, number-found}
use Rattle.topology.proofs.Descent.{map-under, map_is, under-fork}
use Rattle.lists.proofs.Positions.{tally-next-in, tally-rises, select-index, tally-inject}
use Rattle.topology.proofs.Leaves.{leaf_at, bottom, leaf, leaf-same, leaf-no-branch, bottom-is, first-bottom, patch-nodes-are}
use Rattle.topology.proofs.PatchNumbers.{patch-count, patch-in, patch-same, patch-out}

module _ (p : Picture) (ok : Accepted p) where
  -- the number of the patch that begins at z
  pub bottom-number : (z : ℕ) → z < places p → bottom p z ≡ true → patch_at p z ≡ suc (tally (bottom p) (range 0 z))
  bottom-number z b h =
      let (s, e, l) = bottom-is p z b h in
      patch-in p ok z b l ∙ (ap (λ (m : ℕ). tally (bottom p) (range 0 (suc m))) e ∙ tally-next-in (bottom p) z h)

  -- patches are numbered by first place
  pub bottom-rise :
      (y z : ℕ) → y < places p → z < places p → bottom p y ≡ true → bottom p z ≡ true → y < z → patch_at p y < patch_at p z
  bottom-rise y z yb zb s t h =
      let u = bottom-number y yb s in
      let v = bottom-number z zb t in
      let w = tally-rises (bottom p) y z h s in
      omega arith

  -- two first places of minima with one number are one
  bottom-equal : (y z : ℕ) → y < places p → z < places p → bottom p y ≡ true → bottom p z ≡ true → patch_at p y ≡ patch_at p z → y ≡ z
  bottom-equal y z by bz hy hz e =
      let a = bottom-number y by hy in
      let b = bottom-number z bz hz in
      tally-inject (bottom p) y z hy hz (omega arith)

  -- the pixels of the patch that begins at z are those with its number
  pub patch-members : (z : ℕ) → z < places p → bottom p z ≡ true → component_of p (leaf p z) ≡ select (λ x. eqb (patch_at p x) (patch_at p z)) (range 0 (places p))
  patch-members z b h =
      rising-is-select (λ x. eqb (patch_at p x) (patch_at p z)) (places p) (component-rising p k z s)
      (λ x i.
      let c = mem-joined p k z x s i in
      ((conn-target c).within, eq-eqb (patch_at p x) (patch_at p z) (sym (patch-same p ok k c l))))
      (λ x xb q. back x xb (eqb-true (patch_at p x) (patch_at p z) q) (bottom-number z b h))
    where
      k : ℕ
      k = value_at p z

      s : At p k z
      s = (bottom-is p z b h).0

      l : leaf_at p k z ≡ true
      l = (bottom-is p z b h).2

      back : (x : ℕ) → x < places p → patch_at p x ≡ patch_at p z → patch_at p z ≡ suc (tally (bottom p) (range 0 z)) → Memᴰ x (component_at p k z)
      back x xb e n =
          on_test (leaf_at p (value_at p x) x)
          (λ lx.
          let sx = at_own p x xb in
          let y = first_at p (value_at p x) x in
          let (hy, v) = first-bottom p (value_at p x) x sx lx in
          let yb = (first-at p (value_at p x) x sx).within in
          let w = sym (patch-same p ok (value_at p x) (first-joined p (value_at p x) x sx) lx) ∙ e in
          let q = bottom-equal y z yb b hy h w in
          let c = joined-sym p (value_at p x) (first-joined p (value_at p x) x sx) in
          subst (λ (u : ℕ). Memᴰ x (component_at p (value_at p u) u)) q
          (subst (λ (j : ℕ). Memᴰ x (component_at p j y)) (sym v) (joined-mem p (value_at p x) c)))
          (λ lx. absurd (let o = patch-out p ok x xb lx in omega arith))

  -- the records in order
  patches-at : (i : ℕ) (d : Patch) (ns : List Node) (j : ℕ) → j < length ns → get_or (patches_from i p ns) j d ≡ patch_of p (i + j) (get_or ns j (node 0 0))
  patches-at i d [] j h = absurd (omega arith)
  patches-at i d (n ∷ ns) zero h = let e : i ≡ i + 0 = omega arith in ap (λ (m : ℕ). patch_of p m n) e
  patches-at i d (n ∷ ns) (suc j) h =
      let e : suc i + j ≡ i + suc j = omega arith in
      patches-at (suc i) d ns j (omega arith) ∙ ap (λ (m : ℕ). patch_of p m (get_or ns j (node 0 0))) e

  patches-long : (i : ℕ) (ns : List Node) → length (patches_from i p ns) ≡ length ns
  patches-long i [] = refl
  patches-long i (n ∷ ns) = ap suc (patches-long (suc i) ns)

  pub patches-count : length (patches p) ≡ tally (bottom p) (range 0 (places p))
  unfolding patches
  patches-count = patches-long 1 (patch_nodes p) ∙ patch-count p ok

  -- the record of the patch that begins at z stands at its number less 1
  pub patch-record : (z : ℕ) (d : Patch) → z < places p → bottom p z ≡ true → get_or (patches p) (tally (bottom p) (range 0 z)) d ≡ patch_of p (patch_at p z) (leaf p z)
  unfolding patches
  patch-record z d b h =
      let (l, e) = select-index (bottom p) 0 (places p) z b h in
      let i = tally (bottom p) (range 0 z) in
      let size = ap length (patch-nodes-are p ok) ∙ length-map chosen (leaf p) in
      patches-at 1 d (patch_nodes p) i (omega arith) ∙
      ap₂ (λ (m : ℕ) (n : Node). patch_of p m n)
      (let w = bottom-number z b h in omega arith)
      (ap (λ (ns : List Node). get_or ns i (node 0 0)) (patch-nodes-are p ok) ∙
      (get_d_map (leaf p) 0 (node 0 0) chosen i l ∙ ap (leaf p) e))
    where
      chosen : List ℕ
      chosen = select (bottom p) (range 0 (places p))

  -- a pixel is in a minimum exactly if its node is a leaf of its own value
  pub map-leaf : (x : ℕ) → x < places p → leaf_at p (value_at p x) x ≡ true → node_at p (map_of p x) ≡ node (value_at p x) (first_at p (value_at p x) x)
  map-leaf x b l =
      let s = at_own p x b in
      let e = leaf-no-branch p (value_at p x) x l in
      ap (node_at p) (map-under p x ∙ under-fork p (value_at p x) x e) ∙
      (number-found p (value_at p x) x (value-byte p ok x) s e).1

  pub leaf-map : (x : ℕ) → x < places p → (node_at p (map_of p x)).height ≡ value_at p x → leaf_at p (value_at p x) (node_at p (map_of p x)).first ≡ true → leaf_at p (value_at p x) x ≡ true
  leaf-map x b e l =
      leaf-same p (map_is p ok x b).joined ∙ l
