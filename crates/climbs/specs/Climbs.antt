-- The climbs of leaves in blocks of cells: heights are the first block, fathers the second, labels the fifth.
use Rattle.std.specs.Prelude.{◌≡◌, true, ◌⊎◌, List, ℕ, ◌+◌, ◌*◌, ◌≤◌, ◌<◌, ltb, length, get_or, set}
use Rattle.lists.specs.Lists.{pick, highest}
use Rattle.lists.specs.Blocks.{block_entry, Overwritten}
use Rattle.picture.specs.Pictures.{Picture, places, is_picture}
use Rattle.picture.specs.Trees.{nodes, node_at, father_of}
use Rattle.picture.specs.Patches.{climb_of}
use Rattle.topology.proofs.LeafNodes.{leaf_node}
use Rattle.topology.proofs.LeavesBelow.{LeastBelow}
use Rattle.least_labels.specs.LeastLabels.{LeastThrough}

-- each of count nodes gets its own number as label
abbrev pub NodesLabelled : ℕ → ℕ → List ℕ → List ℕ → Type 0
NodesLabelled n count work after = Overwritten (λ m. m) (4 * n) count work after

-- each of count nodes has its own number as label
pub record OwnLabels (n count : ℕ) (work : List ℕ) : Type 0 where
  pub own : (m : ℕ) → m < count → block_entry work (4 * n) m ≡ m

-- the height of the node f; the largest value if f is no node
unfoldable pub height_or_most : ℕ → ℕ → List ℕ → ℕ → ℕ
height_or_most n most work f = pick (ltb f n) (get_or work f 0) most

-- the least node below i, its label, gets the height of the father of i in the place of its own father
abbrev pub ClimbPut : ℕ → ℕ → ℕ → List ℕ → List ℕ → Type 0
ClimbPut n i most work after =
    after ≡ set work (n + block_entry work (4 * n) i) (height_or_most n most work (block_entry work n i))

-- nothing but the second block and the fifth has changed
pub record OthersKept (n : ℕ) (work after : List ℕ) : Type 0 where
  pub size : length after ≡ length work
  pub same : (j : ℕ) → (j < n) ⊎ ((2 * n ≤ j) × (j < 4 * n)) → get_or after j 0 ≡ get_or work j 0

-- after the first i nodes: the fathers of the others stand, each node has its least node through the first i,
-- and j has the height of the father of the last of them of which it is the least
pub record ClimbsBefore (n count most i : ℕ) (work after : List ℕ) : Type 0 where
  pub kept : OthersKept n work after
  pub ahead : (s : ℕ) → i ≤ s → s < n → block_entry after n s ≡ block_entry work n s
  pub labels : LeastThrough (block_entry work n) count i (λ j. j) (block_entry after (4 * n))
  pub climbs :
      (s j : ℕ) → s < i → LeastBelow (block_entry work n) count s j →
      (LeastBelow (block_entry work n) count (block_entry work n s) j → i ≤ block_entry work n s) →
      block_entry after n j ≡ height_or_most n most work (block_entry work n s)

-- the heights and fathers of the count nodes of p, and its largest value
pub record HeightsAndFathers (p : Picture) (n count most : ℕ) (work : List ℕ) : Type 0 where
  pub accepted : is_picture p ≡ true
  pub size : n ≡ places p
  pub number : count ≡ length (nodes p)
  pub heights : (i : ℕ) → i < length (nodes p) → get_or work i 0 ≡ (node_at p i).height
  pub fathers : (i : ℕ) → i < length (nodes p) → block_entry work n i ≡ father_of p (node_at p i)
  pub largest : most ≡ highest p.pixels

-- each leaf of every picture with these heights and fathers has its climb in the place of its father
pub record Climbs (n count most : ℕ) (work after : List ℕ) : Type 0 where
  pub kept : OthersKept n work after
  pub climbs :
      (p : Picture) → HeightsAndFathers p n count most work → (j : ℕ) → j < length (nodes p) → leaf_node p j ≡ true →
      block_entry after n j ≡ climb_of p (node_at p j)
