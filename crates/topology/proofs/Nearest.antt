-- The nearest patch of a place, by the tree: the lowest pass to a patch is the value of the place, and the patches of that pass are the leaves below its node.
use mathlib.Core.Path.{◌≡◌, refl, sym, ap, subst, ◌∙◌}
use mathlib.Core.Bool.{Bool, true, ◌&&◌}
use mathlib.Core.Logic.{◌≢◌, by_cases}
use mathlib.Core.List.Memᴰ
use mathlib.Core.List.{map, map-map, Memᴰ}
use Prim.Native.Nat.{ℕ, ◌≤◌, ◌<◌}
use native.Mathlib.Decide.{ℕ_discrete, dec_le}
use native.Mathlib.Omega.{arith}
use lib.Dec.{eqb}
use lib.ListN.{length}
use borrow.Author.Tests.{eqb-true, eqb-false, eq-eqb, ne_eqb}
use Rattle.lists.specs.Lists.{pick, select, index_from, range, lowest}
use Rattle.picture.specs.Pictures.{Picture, places, value_at}
use Rattle.picture.specs.Passes.{pass}
use Rattle.picture.specs.Trees.{Node, nodes, node_at, map_of}
use Rattle.picture.specs.Patches.{patch_nodes, patch_at, patch_passes, nearest_patch, touched_patch, Nearest, Nearest-patch, Nearest-inside, Touched-five}
use Rattle.lists.proofs.Tests.{and_left, and_right, and_both, on_test, on-pick, test-false, clash}
use Rattle.lists.proofs.Positions.{index-earliest, index-least, index-passes}
use Rattle.lists.proofs.Sums.{lowest-is}
use Rattle.topology.proofs.Connected.{conn-source, conn-target, conn-trans}
use Rattle.topology.proofs.Adjacency.{Joined, joined-sym, joined-mono}
use Rattle.topology.proofs.Accepted.{Accepted, accepted-is, value-byte}
use Rattle.topology.proofs.Nodes.{node-is}
use Rattle.topology.proofs.Descent.{map-under, map_is, map_found}
use Rattle.topology.proofs.Climb.{stay, up_from}
use Rattle.topology.proofs.Passes.{pass-most, pass-joined}
use Rattle.topology.proofs.Leaves.{bottom, leaf, patch-nodes-are}
use Rattle.topology.proofs.PatchFigures.{bottom-number, bottom-rise}
use Rattle.topology.proofs.LeafNodes.{leaf_node, leaf-bottom, bottom-map, bottom-leaf, patch-leaf, patch-line}
use Rattle.topology.proofs.LeavesBelow.{Below, up-joined, joined-up, leaf-value, leaf-alone, some-leaf, patch-leaf-node, leaf-node-patch}

module _ (p : Picture) (ok : Accepted p) where
  -- the passes to the patches are those to the first places of minima
  passes-are : (x : ℕ) → patch_passes p x ≡ map (pass p x) (select (bottom p) (range 0 (places p)))
  passes-are x =
      ap (map (λ n. pass p x n.first)) (patch-nodes-are p ok) ∙
      map-map (λ n. pass p x n.first) (leaf p) (select (bottom p) (range 0 (places p)))

  -- the node of the place where a minimum begins has it as first place
  bottom-first : (z : ℕ) → z < places p → bottom p z ≡ true → (node_at p (map_of p z)).first ≡ z
  bottom-first z b t = ap (λ (n : Node). n.first) (bottom-map p ok z b t)

  module _ (x : ℕ) (b : x < places p) where
    -- no pass from a place is below its value
    pass-above : (y : ℕ) → y < places p → value_at p x ≤ pass p x y
    pass-above y c = (conn-source (pass-joined p ok x y b c)).low

    -- it is the value to the nodes below the node of the place, and to no other leaf
    below-pass : (j : ℕ) → Below p (map_of p x) j → pass p x (node_at p j).first ≡ value_at p x
    below-pass j u =
        let m = map_is p ok x b in
        let c = up_from m.number u in
        let joined =
        conn-trans m.joined (joined-sym p (value_at p x) (joined-mono p m.low (up-joined p ok m.number c u))) in
        let low = pass-most p x (node_at p j).first (value_at p x) (value-byte p ok x) joined in
        let high = pass-above (node_at p j).first (node-is p j c).place.within in
        omega arith

    pass_below :
        (j : ℕ) → j < length (nodes p) → leaf_node p j ≡ true → pass p x (node_at p j).first ≡ value_at p x → Below p (map_of p x) j
    pass_below j c l e =
        let joined =
        subst (λ (k : ℕ). Joined p k x (node_at p j).first) e
        (pass-joined p ok x (node_at p j).first b (node-is p j c).place.within)
        in
        let low = (conn-target joined).low in
        let v = leaf-value p ok j c l in
        subst (λ (m : ℕ). Below p m j) (sym (map-under p x))
        (joined-up p ok (value_at p x) x j (value-byte p ok x) c (omega arith) joined)

    -- some leaf lies below that node, so the value is the lowest pass to a patch
    lowest-own : lowest 0 (patch_passes p x) ≡ value_at p x
    lowest-own =
        let (j, l, u) = some-leaf p ok (map_of p x) (map_found p ok x b) in
        lowest-is 0 (patch_passes p x)
        (subst (λ (v : ℕ). Memᴰ v (patch_passes p x)) (below-pass j u)
        (Memᴰ.map (λ n. pass p x n.first) (leaf-node-patch p j (up_from (map_found p ok x b) u) l)))
        (λ v m.
        let (n, i, e) = Memᴰ.of_map (λ n. pass p x n.first) (patch_nodes p) m in
        let (k, c, g, q) = patch-leaf-node p i in
        let h = pass-above (node_at p k).first (node-is p k c).place.within in
        let w = ap (λ (n : Node). pass p x n.first) q in
        omega arith)

    -- the first minimum with that pass is the nearest patch
    module _ (z : ℕ) (zb : z < places p) (t : bottom p z ≡ true) (own : pass p x z ≡ value_at p x) (first : (y : ℕ) → y < places p → bottom p y ≡ true → pass p x y ≡ value_at p x → z ≤ y) where
      nearest-first : nearest_patch p x ≡ patch_at p z
      unfolding nearest_patch
      nearest-first =
          ap (index_from 0 1 near) (passes-are x) ∙
          (index-earliest (pass p x) near (bottom p) 0 1 (places p) z zb
          (eq-eqb (pass p x z) (lowest 0 (patch_passes p x)) (own ∙ sym lowest-own))
          t
          (λ y c s h. first y c s (eqb-true (pass p x y) (lowest 0 (patch_passes p x)) h ∙ lowest-own)) ∙
          (let n = bottom-number p ok z zb t in omega arith))
        where
          near : ℕ → Bool
          near k = eqb k (lowest 0 (patch_passes p x))

      nearest-some : 1 ≤ nearest_patch p x
      nearest-some = let e = nearest-first in let n = bottom-number p ok z zb t in omega arith

      abbrev m : ℕ
      m = map_of p z

      first-nearest : Nearest p x (node_at p m)
      first-nearest =
          record {
            patch = leaf-node-patch p m (map_found p ok z zb) (bottom-leaf p ok z zb t);
            pass-least =
                λ n i.
                let (k, c, l, q) = patch-leaf-node p i in
                let h = pass-above (node_at p k).first (node-is p k c).place.within in
                let w = ap (λ (o : Node). pass p x o.first) q in
                omega (arith, pass-here);
            number-least = number-least;
          }
        where
          pass-here : pass p x (node_at p m).first ≡ value_at p x
          pass-here = ap (pass p x) (bottom-first z zb t) ∙ own

          number-least :
              (n : Node) → Memᴰ n (patch_nodes p) → pass p x n.first ≡ pass p x (node_at p m).first →
              patch_at p (node_at p m).first ≤ patch_at p n.first
          number-least n i e =
              let (k, c, l, q) = patch-leaf-node p i in
              let begins = ap (λ (o : Node). o.first) q in
              let y = (node_at p k).first in
              let yb = (node-is p k c).place.within in
              let yt = (leaf-bottom p ok k c l).1 in
              let a = ap (patch_at p) (bottom-first z zb t) in
              let d = ap (patch_at p) begins in
              let w = first y yb yt (ap (pass p x) begins ∙ (e ∙ pass-here)) in
              by_cases (ℕ_discrete z y)
              (λ v. let u = ap (patch_at p) v in omega arith)
              (λ v. let u = bottom-rise p ok z y zb yb t yt (omega arith) in omega arith)

    -- of the leaves below the node of the place the one with the least patch number is the nearest
    pub nearest-leaf :
        (j : ℕ) → leaf_node p j ≡ true → Below p (map_of p x) j →
        ((k : ℕ) → leaf_node p k ≡ true → Below p (map_of p x) k → patch_at p (node_at p j).first ≤ patch_at p (node_at p k).first) →
        nearest_patch p x ≡ patch_at p (node_at p j).first
    nearest-leaf j l u least = nearest-first z zb zt (below-pass j u) first
      where
        c : j < length (nodes p)
        c = up_from (map_found p ok x b) u

        z : ℕ
        z = (node_at p j).first

        zb : z < places p
        zb = (node-is p j c).place.within

        zt : bottom p z ≡ true
        zt = (leaf-bottom p ok j c l).1

        first : (y : ℕ) → y < places p → bottom p y ≡ true → pass p x y ≡ value_at p x → z ≤ y
        first y yb t e =
            let m = map_of p y in
            let same = bottom-first y yb t in
            let ml = bottom-leaf p ok y yb t in
            let below = pass_below m (map_found p ok y yb) ml (ap (pass p x) same ∙ e) in
            let w = least m ml below in
            let q = ap (patch_at p) same in
            by_cases (dec_le z y) (λ g. g)
            (λ g. absurd (let r = bottom-rise p ok y z yb zb t zt (omega arith) in omega arith))

    -- the patch of a place that is in one is the nearest
    inside : 1 ≤ patch_at p x → nearest_patch p x ≡ patch_at p x
    inside h =
        on_test (leaf_node p m && eqb (node_at p m).height (value_at p x))
        (λ t.
        let l = and_left (leaf_node p m) (eqb (node_at p m).height (value_at p x)) t in
        let e = eqb-true (node_at p m).height (value_at p x) (and_right (leaf_node p m) (eqb (node_at p m).height (value_at p x)) t) in
        nearest-leaf m l stay (λ k g u. let q = ap (λ (i : ℕ). patch_at p (node_at p i).first) (leaf-alone p ok l u) in omega arith) ∙
        sym (patch-leaf p ok x b e l))
        (λ t.
        let line =
        patch-line p ok x b
        (λ e. test-false (leaf_node p m) (λ l. clash (and_both l (eq-eqb (node_at p m).height (value_at p x) e)) t))
        in
        absurd (omega arith))
      where
        m : ℕ
        m = map_of p x

    -- a minimum begins at y, and the pass to it is that value
    reached : ℕ → Bool
    reached y = bottom p y && eqb (pass p x y) (value_at p x)

    -- there is such a minimum, and so a first one
    found : (n : Node) × Nearest p x n × (nearest_patch p x ≡ patch_at p n.first) × (1 ≤ nearest_patch p x)
    unfolding reached
    found = (
      node_at p (map_of p z),
      first-nearest z zb t own least,
      nearest-first z zb t own least ∙ ap (patch_at p) (sym (bottom-first z zb t)),
      nearest-some z zb t own least,
    )
      where
        z : ℕ
        z = index_from (places p) 0 reached (range 0 (places p))

        least : (y : ℕ) → y < places p → bottom p y ≡ true → pass p x y ≡ value_at p x → z ≤ y
        least y c t e =
            index-least reached (places p) (places p) 0 y (omega arith) (omega arith) (and_both t (eq-eqb (pass p x y) (value_at p x) e))

        zb : z < places p
        zb =
            let (j, l, u) = some-leaf p ok (map_of p x) (map_found p ok x b) in
            let c = up_from (map_found p ok x b) u in
            let w = (node-is p j c).place.within in
            let q = least (node_at p j).first w (leaf-bottom p ok j c l).1 (below-pass j u) in
            omega arith

        passed : reached z ≡ true
        passed = index-passes reached (places p) (places p) 0 (λ e. absurd (omega (arith, zb)))

        t : bottom p z ≡ true
        t = and_left (bottom p z) (eqb (pass p x z) (value_at p x)) passed

        own : pass p x z ≡ value_at p x
        own = eqb-true (pass p x z) (value_at p x) (and_right (bottom p z) (eqb (pass p x z) (value_at p x)) passed)

pub nearest-inside : Nearest-inside
nearest-inside p h x b = inside p (accepted-is p h) x b

pub nearest-patch : Nearest-patch
nearest-patch p h x b = found p (accepted-is p h) x b

-- under handbook 5 a touch on the line belongs to the nearest patch by its rule, and inside a patch by the law above
pub touched-five : Touched-five
unfolding touched_patch
touched-five p h x b =
    on-pick (λ (v : ℕ). v ≡ nearest_patch p x) (eqb (patch_at p x) 0)
    (λ e. refl)
    (λ e. let d = eqb-false (patch_at p x) 0 e in sym (nearest-inside p h x b (omega arith)))

-- under any other handbook a touch belongs to the patch of its place
pub touched-else : (handbook : ℕ) (p : Picture) (x : ℕ) → handbook ≢ 5 → touched_patch handbook p x ≡ patch_at p x
unfolding touched_patch
touched-else handbook p x d =
    ap (λ (t : Bool). pick (t && eqb (patch_at p x) 0) (nearest_patch p x) (patch_at p x)) (ne_eqb handbook 5 d)
