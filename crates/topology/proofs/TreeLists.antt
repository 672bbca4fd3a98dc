-- The lists of the tree, entry by entry.
use mathlib.Core.Path.{◌≡◌, ap, ◌∙◌}
use Prim.Native.Nat.{ℕ, ◌<◌}
use native.Mathlib.Omega.{arith}
use lib.ListN.{length, get_or, length-map}
use Rattle.lists.specs.Lists.{range}
use Rattle.picture.specs.Pictures.{Picture, places}
use Rattle.picture.specs.Trees.{nodes, node_at, father_of, map_of, tree_of}
use Rattle.lists.proofs.Lists.{length-range, get_or-map-range, get_d_map}

module _ (p : Picture) where
  pub length-heights : length (tree_of p).heights ≡ length (nodes p)
  unfolding tree_of
  length-heights = length-map (nodes p) (λ n. n.height)

  pub length-fathers : length (tree_of p).fathers ≡ length (nodes p)
  unfolding tree_of
  length-fathers = length-map (nodes p) (father_of p)

  pub length-firsts : length (tree_of p).firsts ≡ length (nodes p)
  unfolding tree_of
  length-firsts = length-map (nodes p) (λ n. n.first)

  pub length-map-of : length (tree_of p).map ≡ places p
  unfolding tree_of
  length-map-of = length-map (range 0 (places p)) (map_of p) ∙ length-range 0 (places p)

  pub heights-at : (i : ℕ) → i < length (nodes p) → get_or (tree_of p).heights i 0 ≡ (node_at p i).height
  unfolding tree_of
  heights-at i h = get_d_map (λ n. n.height) (record { height = 0; first = 0 }) 0 (nodes p) i h

  pub fathers-at : (i : ℕ) → i < length (nodes p) → get_or (tree_of p).fathers i 0 ≡ father_of p (node_at p i)
  unfolding tree_of
  fathers-at i h = get_d_map (father_of p) (record { height = 0; first = 0 }) 0 (nodes p) i h

  pub firsts_at : (i : ℕ) → i < length (nodes p) → get_or (tree_of p).firsts i 0 ≡ (node_at p i).first
  unfolding tree_of
  firsts_at i h = get_d_map (λ n. n.first) (record { height = 0; first = 0 }) 0 (nodes p) i h

  pub map_at : (x : ℕ) → x < places p → get_or (tree_of p).map x 0 ≡ map_of p x
  unfolding tree_of
  map_at x h = get_or-map-range (map_of p) 0 0 (places p) x h ∙ ap (map_of p) (omega arith)
