-- Bounds on the patches of a picture: how many they are, each with a pixel, heights and depths that are bytes, and the line.
use mathlib.Core.Path.{sym, ap, subst}
use Prim.Native.Nat.{ℕ, ◌≤◌, ◌<◌}
use native.Mathlib.Omega.{arith}
use lib.Dec.{eqb}
use lib.ListN.{length, get_or}
use Rattle.picture.specs.Pictures.{Picture, places, value_at}
use Rattle.picture.specs.Trees.{map_of}
use Rattle.picture.specs.Patches.{Patch, patch_of, patches, patch_at, line_count}
use Rattle.lists.proofs.Indices.{mem_index}
use Rattle.lists.proofs.Positions.{tally-bound}
use Rattle.topology.proofs.Connected.{start}
use Rattle.topology.proofs.Adjacency.{at_own}
use Rattle.topology.proofs.Accepted.{Accepted, places-bound, value-byte}
use Rattle.topology.proofs.Reached.{joined-mem}
use Rattle.topology.proofs.Descent.{map_found}
use Rattle.topology.proofs.LeafNodes.{bottom-leaf}
use Rattle.topology.proofs.Dynamics.{depth-byte}
use Rattle.topology.proofs.PatchFigures.{patch-record}
use Rattle.topology.proofs.PatchSums.{patch-begins, count-few, patch-height, patch-depth}

-- the line pixels are places
pub line-few : (p : Picture) → line_count p ≤ places p
unfolding line_count
line-few p = tally-bound (λ x. eqb (patch_at p x) 0) (places p)

module _ (p : Picture) (ok : Accepted p) where
  pub patches-few : length (patches p) ≤ 1600
  patches-few = let a = count-few p ok in let b = places-bound p ok in omega arith

  -- of a patch by its index
  module _ (i : ℕ) (d : Patch) (b : i < length (patches p)) where
    pub height-fits : (get_or (patches p) i d).height ≤ 255
    height-fits =
        let (z, c, t, e) = patch-begins p ok i b in
        subst (λ (j : ℕ). (get_or (patches p) j d).height ≤ 255) e
        (subst (λ (v : ℕ). v ≤ 255) (sym (patch-height p ok z d c t)) (value-byte p ok z))

    pub depth-fits : (get_or (patches p) i d).depth ≤ 255
    depth-fits =
        let (z, c, t, e) = patch-begins p ok i b in
        subst (λ (j : ℕ). (get_or (patches p) j d).depth ≤ 255) e
        (subst (λ (v : ℕ). v ≤ 255) (sym (patch-depth p ok z d c t)) (depth-byte p ok (map_of p z) (map_found p ok z c) (bottom-leaf p ok z c t)))

    pub size-some : 1 ≤ (get_or (patches p) i d).size
    unfolding patch_of
    size-some =
        let (z, c, t, e) = patch-begins p ok i b in
        let q = ap (λ (r : Patch). r.size) (patch-record p ok z d c t) in
        let (j, m, w) = mem_index 0 (joined-mem p (value_at p z) (start (at_own p z c))) in
        subst (λ (k : ℕ). 1 ≤ (get_or (patches p) k d).size) e (omega arith)
