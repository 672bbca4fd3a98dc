-- The number of patches and the patch of a place, by the first places of minima.
use mathlib.Core.Path.{◌≡◌, sym, ap, subst, ◌∙◌}
use mathlib.Core.Bool.{true, false}
use mathlib.Core.List.Memᴰ
use mathlib.Core.List.{List, map}
use Prim.Native.Nat.{ℕ, suc, ◌<◌}
use native.Mathlib.Omega.{arith}
use lib.ListN.{length, length-map}
use Rattle.lists.specs.Lists.{tally, select, range, is_in}
use Rattle.picture.specs.Pictures.{Picture, places, value_at}
use Rattle.picture.specs.Components.{component_at}
use Rattle.picture.specs.Trees.{Node, component_of}
use Rattle.picture.specs.Patches.{patch_nodes, patch_from, patch_at}
use Rattle.lists.proofs.Tests.{clash, test-false}
use Rattle.lists.proofs.Lists.{length-select}
use Rattle.lists.proofs.Rising.{select-below}
use Rattle.topology.proofs.Connected.{start, conn-source, conn-target}
use Rattle.topology.proofs.Adjacency.{Joined, joined-sym, at_own}
use Rattle.topology.proofs.Accepted.{Accepted}
use Rattle.topology.proofs.Reached.{first_at, in-joined, joined_in, first-joined, first-same, first-at}
use Rattle.lists.proofs.Positions.{tally-next-in, index-only, index-none}
use Rattle.topology.proofs.Leaves.{leaf_at, bottom, leaf, leaf-sound, leaf-same, bottom-is, first-bottom, patch-nodes-are}

module _ (p : Picture) (ok : Accepted p) where
  -- as many patches as first places of minima
  pub patch-count : length (patch_nodes p) ≡ tally (bottom p) (range 0 (places p))
  patch-count =
      ap length (patch-nodes-are p ok) ∙
      (length-map (select (bottom p) (range 0 (places p))) (leaf p) ∙ length-select (bottom p) (range 0 (places p)))

  -- the patch of y holds x exactly if y is the first place of x's minimum
  holds-first : (x y : ℕ) → x < places p → y < places p → bottom p y ≡ true → is_in x (component_of p (leaf p y)) ≡ true → (y ≡ first_at p (value_at p x) x) × (leaf_at p (value_at p x) x ≡ true)
  holds-first x y b c h i =
      let (s, e, l) = bottom-is p y c h in
      let j = in-joined p (value_at p y) y x s i in
      let v = leaf-sound p (value_at p y) y s l x j in (
        sym e ∙ (first-same p (value_at p y) j ∙ ap (λ (k : ℕ). first_at p k x) (sym v)),
        subst (λ (k : ℕ). leaf_at p k x ≡ true) (sym v) (sym (leaf-same p j) ∙ l),
      )

  -- a pixel of a minimum: the number of first places of minima up to its own
  pub patch-in : (x : ℕ) → x < places p → leaf_at p (value_at p x) x ≡ true → patch_at p x ≡ tally (bottom p) (range 0 (suc (first_at p (value_at p x) x)))
  unfolding patch_at
  patch-in x b l =
      let k = value_at p x in
      let z = first_at p k x in
      let s = at_own p x b in
      let (h, v) = first-bottom p k x s l in
      let zb = (first-at p k x s).within in
      let c = joined-sym p k (first-joined p k x s) in
      let inside : is_in x (component_of p (leaf p z)) ≡ true =
      subst (λ (j : ℕ). is_in x (component_at p j z) ≡ true) (sym v) (joined_in p k c)
      in
      ap (λ (ns : List Node). patch_from 1 p x ns) (patch-nodes-are p ok) ∙
      (index-only (leaf p) (λ n. is_in x (component_of p n)) (bottom p) 0 1 (places p) z zb inside h
      (λ y d g i. (holds-first x y b d g i).0) ∙
      (let w = tally-next-in (bottom p) z h in omega arith))

  -- the pixels of a minimum are in one patch
  pub patch-same : (k : ℕ) {x y : ℕ} → Joined p k x y → leaf_at p k x ≡ true → patch_at p x ≡ patch_at p y
  patch-same k {x} {y} c l = counted x (start (conn-source c)) ∙ sym (counted y c)
    where
      counted : (z : ℕ) → Joined p k x z → patch_at p z ≡ tally (bottom p) (range 0 (suc (first_at p k x)))
      counted z d =
          let v = leaf-sound p k x (conn-source d) l z d in
          patch-in z (conn-target d).within (subst (λ (j : ℕ). leaf_at p j z ≡ true) (sym v) (sym (leaf-same p d) ∙ l)) ∙
          ap (λ (m : ℕ). tally (bottom p) (range 0 (suc m))) (ap (λ (j : ℕ). first_at p j z) v ∙ sym (first-same p k d))

  -- every other pixel is on the line
  pub patch-out : (x : ℕ) → x < places p → leaf_at p (value_at p x) x ≡ false → patch_at p x ≡ 0
  unfolding patch_at
  patch-out x b l =
      ap (λ (ns : List Node). patch_from 1 p x ns) (patch-nodes-are p ok) ∙
      index-none (λ n. is_in x (component_of p n)) 0 1 (map (leaf p) (select (bottom p) (range 0 (places p))))
      (λ n m.
      let (y, i, e) = Memᴰ.of_map (leaf p) (select (bottom p) (range 0 (places p))) m in
      let (r, h) = select-below (bottom p) (places p) i in
      test-false (is_in x (component_of p n))
      (λ g. clash (holds-first x y b r h (subst (λ (k : Node). is_in x (component_of p k) ≡ true) (sym e) g)).1 l))
