-- The least label below each node of a tree, by the fathers of its nodes.
use Rattle.std.specs.Prelude.{◌≡◌, List, ℕ, ◌+◌, ◌*◌, ◌≤◌, ◌<◌, set}
use Rattle.lists.specs.Blocks.{block_entry, UntouchedOutside}
use Rattle.topology.proofs.Climb.{Up}

-- the father of each of count nodes has a greater number, or is no node; fathers are the second block
pub record FathersRise (n count : ℕ) (work : List ℕ) : Type 0 where
  pub rise : (i : ℕ) → i < count → block_entry work n i < n → i < block_entry work n i
  pub within : (i : ℕ) → i < count → block_entry work n i < n → block_entry work n i < count

-- the father of the node i, if it has one with a greater label, gets that of i; fathers are the second block, labels the fifth
pub data Handed (n i : ℕ) (work after : List ℕ) : Type 0 where
  top : n ≤ block_entry work n i → after ≡ work → Handed n i work after
  lowered :
      block_entry work n i < n → block_entry work (4 * n) i < block_entry work (4 * n) (block_entry work n i) →
      after ≡ set work (4 * n + block_entry work n i) (block_entry work (4 * n) i) → Handed n i work after
  stayed :
      block_entry work n i < n → block_entry work (4 * n) (block_entry work n i) ≤ block_entry work (4 * n) i → after ≡ work →
      Handed n i work after

-- v is the label of a node of S, and the least of these labels
pub record LeastOf (S : ℕ → Type 0) (label : ℕ → ℕ) (v : ℕ) : Type 0 where
  pub node : ℕ
  pub within : S node
  pub is : label node ≡ v
  pub least : (j : ℕ) → S j → v ≤ label j

-- j is the node a, or lies below a son of a with a number below i; P are the fathers of m nodes
pub data Through (P : ℕ → ℕ) (m i a j : ℕ) : Type 0 where
  own : j ≡ a → Through P m i a j
  by : (s : ℕ) → s < i → s < m → P s ≡ a → Up P m s j → Through P m i a j

-- each of m nodes has the least label of itself and of what lies below its sons with numbers below i
abbrev pub LeastThrough : (ℕ → ℕ) → ℕ → ℕ → (ℕ → ℕ) → (ℕ → ℕ) → Type 0
LeastThrough P m i label labels = (a : ℕ) → a < m → LeastOf (Through P m i a) label (labels a)

-- the first i nodes have handed up: in every tree of more than m nodes with these fathers each node has its least label through them
pub record HandedBefore (n m i : ℕ) (work after : List ℕ) : Type 0 where
  pub kept : UntouchedOutside (4 * n) n work after
  pub labels :
      (count : ℕ) → count ≤ n → m < count → FathersRise n count work →
      LeastThrough (block_entry work n) count i (block_entry work (4 * n)) (block_entry after (4 * n))

-- r is the least label of the node m and the nodes below it, in every tree with these fathers
abbrev pub LeastLabel : ℕ → ℕ → List ℕ → ℕ → Type 0
LeastLabel n m work r =
    (count : ℕ) → count ≤ n → m < count → FathersRise n count work →
    LeastOf (Up (block_entry work n) count m) (block_entry work (4 * n)) r
