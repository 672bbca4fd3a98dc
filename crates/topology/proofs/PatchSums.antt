-- The figures of the patches as sums over the places by their patch numbers, and the first place of each patch by its number.
use mathlib.Core.Path.{◌≡◌, sym, ap, subst, ◌∙◌}
use mathlib.Core.Bool.{true}
use mathlib.Core.Logic.{by_cases}
use mathlib.Core.List.{List, map}
use Prim.Native.Nat.{ℕ, suc, ◌≤◌, ◌<◌}
use native.Mathlib.Decide.{ℕ_discrete}
use native.Mathlib.Omega.{arith}
use lib.Dec.{eqb}
use lib.ListN.{length, get_or}
use Rattle.lists.specs.Lists.{pick, tally, range, total}
use Rattle.picture.specs.Pictures.{Picture, places, value_at, column, row}
use Rattle.picture.specs.Trees.{node_at, component_of, map_of}
use Rattle.picture.specs.Patches.{Patch, patch_of, patches, patch_at, depth_of}
use Rattle.lists.proofs.Tests.{on_test}
use Rattle.lists.proofs.Lists.{range-mem}
use Rattle.topology.proofs.Connected.{start}
use Rattle.topology.proofs.Adjacency.{at_own}
use Rattle.topology.proofs.Accepted.{Accepted}
use Rattle.topology.proofs.Reached.{first_at, first-least, first-at}
use Rattle.lists.proofs.Indices.{map_same}
use Rattle.topology.proofs.Leaves.{leaf_at, bottom, leaf, is-bottom}
use Rattle.lists.proofs.Positions.{tally-below, tally-bound, tally-reach}
use Rattle.lists.proofs.Sums.{total-select, length-total, sum_at}
use Rattle.topology.proofs.PatchNumbers.{patch-in, patch-out}
use Rattle.topology.proofs.PatchFigures.{bottom-number, patch-members, patches-count, patch-record}
use Rattle.topology.proofs.LeafNodes.{bottom-map}

module _ (p : Picture) (ok : Accepted p) where
  -- the first place of the patch with a number
  pub patch-begins : (i : ℕ) → i < length (patches p) → (z : ℕ) × (z < places p) × (bottom p z ≡ true) × (tally (bottom p) (range 0 z) ≡ i)
  patch-begins i h = tally-reach (bottom p) (places p) i (subst (λ (m : ℕ). i < m) (patches-count p ok) h)

  -- a place with the number after those that begin before it begins a patch
  pub next-bottom : (x : ℕ) → x < places p → patch_at p x ≡ suc (tally (bottom p) (range 0 x)) → bottom p x ≡ true
  next-bottom x b e =
      on_test (leaf_at p (value_at p x) x)
      (λ l.
      let k = value_at p x in
      let z = first_at p k x in
      let s = at_own p x b in
      let least = first-least p k (start s) in
      by_cases (ℕ_discrete z x)
      (λ q. is-bottom p k x s q l)
      (λ q.
      let n = patch-in p ok x b l in
      let t = tally-below (bottom p) (suc z) x (omega arith) in
      absurd (omega arith)))
      (λ l. absurd (let o = patch-out p ok x b l in omega arith))

  -- numbers of patches are at most their count, which is at most the number of places
  pub count-few : length (patches p) ≤ places p
  count-few =
      let a = patches-count p ok in
      let b = tally-bound (bottom p) (places p) in
      omega arith

  pub patch-most : (x : ℕ) → x < places p → patch_at p x ≤ places p
  patch-most x b =
      on_test (leaf_at p (value_at p x) x)
      (λ l.
      let k = value_at p x in
      let s = at_own p x b in
      let z = first_at p k x in
      let w = (first-at p k x s).within in
      let t = tally-bound (bottom p) (suc z) in
      let n = patch-in p ok x b l in
      omega arith)
      (λ l. let o = patch-out p ok x b l in omega arith)

  module _ (z : ℕ) (d : Patch) (b : z < places p) (h : bottom p z ≡ true) where
    -- the record of the patch that begins at z
    record-at : get_or (patches p) (tally (bottom p) (range 0 z)) d ≡ patch_of p (patch_at p z) (leaf p z)
    record-at = patch-record p ok z d b h

    pub patch-height : (get_or (patches p) (tally (bottom p) (range 0 z)) d).height ≡ value_at p z
    unfolding patch_of
    patch-height = ap (λ (q : Patch). q.height) record-at

    pub patch-depth : (get_or (patches p) (tally (bottom p) (range 0 z)) d).depth ≡ depth_of p (node_at p (map_of p z))
    unfolding patch_of
    patch-depth = ap (λ (q : Patch). q.depth) record-at ∙ ap (depth_of p) (sym (bottom-map p ok z b h))

    number_at : (get_or (patches p) (tally (bottom p) (range 0 z)) d).number ≡ patch_at p z
    unfolding patch_of
    number_at = ap (λ (q : Patch). q.number) record-at

    module _ (numbers : List ℕ) (same : (x : ℕ) → x < places p → get_or numbers x 0 ≡ patch_at p x) where
      members-sum : (g : ℕ → ℕ) → total (map g (component_of p (leaf p z))) ≡ sum_at g numbers (patch_at p z) (places p)
      unfolding sum_at
      members-sum g =
          ap (λ (l : List ℕ). total (map g l)) (patch-members p ok z b h) ∙
          (total-select g (λ x. eqb (patch_at p x) (patch_at p z)) (range 0 (places p)) ∙
          ap total
          (map_same (λ x. pick (eqb (patch_at p x) (patch_at p z)) (g x) 0) (λ x. pick (eqb (get_or numbers x 0) (patch_at p z)) (g x) 0)
          (range 0 (places p))
          (λ x m.
          let r = range-mem 0 (places p) m in
          ap (λ (v : ℕ). pick (eqb v (patch_at p z)) (g x) 0) (sym (same x (omega arith))))))

      size-at : (get_or (patches p) (tally (bottom p) (range 0 z)) d).size ≡ sum_at (λ x. 1) numbers (patch_at p z) (places p)
      unfolding patch_of
      size-at = ap (λ (q : Patch). q.size) record-at ∙ (length-total (component_of p (leaf p z)) ∙ members-sum (λ x. 1))

      columns-at : (get_or (patches p) (tally (bottom p) (range 0 z)) d).columns ≡ sum_at (column p) numbers (patch_at p z) (places p)
      unfolding patch_of
      columns-at = ap (λ (q : Patch). q.columns) record-at ∙ members-sum (column p)

      rows_at : (get_or (patches p) (tally (bottom p) (range 0 z)) d).rows ≡ sum_at (row p) numbers (patch_at p z) (places p)
      unfolding patch_of
      rows_at = ap (λ (q : Patch). q.rows) record-at ∙ members-sum (row p)

  -- patches are numbered from 1
  pub patch-number : (i : ℕ) (d : Patch) → i < length (patches p) → (get_or (patches p) i d).number ≡ suc i
  patch-number i d h =
      let (z, b, t, e) = patch-begins i h in
      sym (ap (λ (j : ℕ). (get_or (patches p) j d).number) e) ∙
      (number_at z d b t ∙ (bottom-number p ok z b t ∙ ap suc e))

  -- the sums of a patch by its number
  module _ (i : ℕ) (d : Patch) (h : i < length (patches p)) (numbers : List ℕ) (same : (x : ℕ) → x < places p → get_or numbers x 0 ≡ patch_at p x) where
    at-number :
        (f : Patch → ℕ) (g : ℕ → ℕ) →
        ((z : ℕ) → z < places p → bottom p z ≡ true → f (get_or (patches p) (tally (bottom p) (range 0 z)) d) ≡ sum_at g numbers (patch_at p z) (places p)) →
        f (get_or (patches p) i d) ≡ sum_at g numbers (suc i) (places p)
    at-number f g k =
        let (z, b, t, e) = patch-begins i h in
        let n : patch_at p z ≡ suc i = bottom-number p ok z b t ∙ ap suc e in
        sym (ap (λ (j : ℕ). f (get_or (patches p) j d)) e) ∙ (k z b t ∙ ap (λ (c : ℕ). sum_at g numbers c (places p)) n)

    pub patch-size : (get_or (patches p) i d).size ≡ sum_at (λ x. 1) numbers (suc i) (places p)
    patch-size = at-number (λ q. q.size) (λ x. 1) (λ z b t. size-at z d b t numbers same)

    pub patch-columns : (get_or (patches p) i d).columns ≡ sum_at (column p) numbers (suc i) (places p)
    patch-columns = at-number (λ q. q.columns) (column p) (λ z b t. columns-at z d b t numbers same)

    pub patch-rows : (get_or (patches p) i d).rows ≡ sum_at (row p) numbers (suc i) (places p)
    patch-rows = at-number (λ q. q.rows) (row p) (λ z b t. rows_at z d b t numbers same)
