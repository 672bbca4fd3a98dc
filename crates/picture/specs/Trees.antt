-- The component tree of the lower sections (min-tree), without its vertices of one child (Couprie and Bertrand 2003, definition 7).
use Rattle.std.specs.Prelude.{Bool, true, false, ◌&&◌, not, List, [], ◌++◌, map, ℕ, zero, suc, ◌-◌, eqb, length, get_or}
use Rattle.lists.specs.Lists.{select, index_from, range, is_in, head_of}
use Rattle.picture.specs.Pictures.{Picture, places, value_at}
use Rattle.picture.specs.Components.{component_at, components}

-- the components of the height below within a component of height k, none at height 0
abbrev pub below : Picture → ℕ → List ℕ → List (List ℕ)
below p zero c = []
below p (suc k) c = select (λ d. is_in (head_of d) c) (components p k)

-- a branch contains exactly one component of the height below (in the tree of all components: a vertex with one child)
unfoldable pub is_branch : Picture → ℕ → List ℕ → Bool
is_branch p k c = eqb (length (below p k c)) 1

-- a node of the tree: the height and the first (smallest) place of a leaf or a fork; components are rising, so it is their first member
pub record Node : Type 0 where
  pub height : ℕ
  pub first : ℕ

-- the leaves (none below: the regional minima) and the forks (several below; standard term: merge node) of height k by first place
unfoldable pub nodes_at : Picture → ℕ → List Node
nodes_at p k = map (λ c. record { height = k; first = head_of c }) (select (λ c. not (is_branch p k c)) (components p k))

-- the nodes of l heights from k on
abbrev pub nodes_from : ℕ → ℕ → Picture → List Node
nodes_from zero k p = []
nodes_from (suc l) k p = nodes_at p k ++ nodes_from l (suc k) p

-- the nodes of the tree by height, then by first place; a node's number is its index
unfoldable pub nodes : Picture → List Node
nodes p = nodes_from 256 0 p

-- the node of a number
abbrev pub node_at : Picture → ℕ → Node
node_at p i = get_or (nodes p) i (record { height = 0; first = 0 })

-- the component of a node
abbrev pub component_of : Picture → Node → List ℕ
component_of p n = component_at p n.height n.first

-- a node is a leaf: it contains no component of the height below
unfoldable pub is_leaf : Picture → Node → Bool
is_leaf p n = eqb (length (below p n.height (component_of p n))) 0

-- the number from i on of the node with height k and first place x, 65535 for none
abbrev pub number_from : ℕ → ℕ → ℕ → List Node → ℕ
number_from i k x ns = index_from 65535 i (λ n. eqb n.height k && eqb n.first x) ns

-- the number of the node that is the component c of height k
abbrev pub number_of : Picture → ℕ → List ℕ → ℕ
number_of p k c = number_from 0 k (head_of c) (nodes p)

-- the number of the least node of l heights from k on that contains x, 65535 for none
abbrev pub above_from : ℕ → ℕ → Picture → ℕ → ℕ
above_from zero k p x = 65535
above_from (suc l) k p x =
    let c = component_at p k x in
    elim (is_branch p k c) [ true ↦ above_from l (suc k) p x | false ↦ number_of p k c ]

-- the father (standard term: parent) of a node: the number of the least node above it by containment, 65535 for the root's
unfoldable pub father_of : Picture → Node → ℕ
father_of p n = above_from (255 - n.height) (suc n.height) p n.first

-- the number of the node that the component c of height k goes down to while it is a branch
abbrev pub down_from : ℕ → Picture → List ℕ → ℕ
down_from zero p c = number_of p 0 c
down_from (suc k) p c =
    elim (is_branch p (suc k) c)
    [ true ↦ down_from k p (get_or (below p (suc k) c) 0 []) | false ↦ number_of p (suc k) c ]

-- the map (standard term: component mapping): the number of the node that a pixel's component of its own value goes down to; that node need not hold the pixel
unfoldable pub map_of : Picture → ℕ → ℕ
map_of p x = down_from (value_at p x) p (component_at p (value_at p x) x)

-- a tree as lists: an entry a node, and the map with an entry a place
pub record Tree : Type 0 where
  pub heights : List ℕ
  pub fathers : List ℕ
  pub firsts : List ℕ
  pub map : List ℕ

-- the tree of a picture
unfoldable pub tree_of : Picture → Tree
tree_of p =
    record {
      heights = map (λ n. n.height) (nodes p);
      fathers = map (father_of p) (nodes p);
      firsts = map (λ n. n.first) (nodes p);
      map = map (map_of p) (range 0 (places p));
    }
