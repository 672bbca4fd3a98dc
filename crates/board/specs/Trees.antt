-- What the calls of the component tree promise: the tree, its check, and the pass read off it.
-- p the picture, q work, hs fs ss m heights, fathers, first places and map, r the answer; a prime: after the call.
use Rattle.std.specs.Prelude.{◌≡◌, Bool, true, false, ◌&&◌, ◌||◌, not, List, [], ◌∷◌, ℕ, min, eqb, leb, length}
use Rattle.lists.specs.Lists.{over}
use Rattle.picture.specs.Pictures.{Picture, places}
use Rattle.picture.specs.Passes.{pass}
use Rattle.picture.specs.Trees.{nodes, tree_of}
use Rattle.faults.specs.PictureFault.{first_of, when}
use Rattle.answers.specs.Answers.{Answer}
use Rattle.faults.specs.Faults.{output_fault}
use Rattle.answers.specs.Answers.{after_call, WorkSays}

-- the first list is a prefix of the second
abbrev pub begins : List ℕ → List ℕ → Bool
begins [] ys = true
begins (x ∷ xs) [] = false
begins (x ∷ xs) (y ∷ ys) = eqb x y && begins xs ys

-- a lent tree is that of a picture: its node count, the list entries below the true count, and the map
unfoldable pub is_tree : Picture → ℕ → List ℕ → List ℕ → List ℕ → List ℕ → Bool
is_tree p count hs fs ss m =
    eqb count (length (nodes p)) &&
    (begins (tree_of p).heights hs &&
    (begins (tree_of p).fathers fs && (begins (tree_of p).firsts ss && begins (tree_of p).map m)))

-- the least length of the four lists of a tree
abbrev pub shortest : List ℕ → List ℕ → List ℕ → List ℕ → ℕ
shortest hs fs ss m = min (min (length hs) (length fs)) (min (length ss) (length m))

-- the fault of a call that lends a tree and work: 9 if one of them is too short
unfoldable pub tree_fault_of : Picture → List ℕ → List ℕ → List ℕ → List ℕ → List ℕ → ℕ
tree_fault_of p hs fs ss m q =
    output_fault p.adjacency p.width p.height (length p.pixels) (shortest hs fs ss m) (length q)

-- the same, then 10 for two places of which one is n or more
unfoldable pub places_fault_of : Picture → List ℕ → List ℕ → List ℕ → List ℕ → List ℕ → ℕ → ℕ → ℕ
places_fault_of p hs fs ss m q x y =
    first_of (tree_fault_of p hs fs ss m q) (when (leb (places p) x || leb (places p) y) 10)

-- a fault, then 11 for a lent tree that is not the picture's
unfoldable pub checked_fault : ℕ → Picture → ℕ → List ℕ → List ℕ → List ℕ → List ℕ → ℕ
checked_fault f p count hs fs ss m = first_of f (when (not (is_tree p count hs fs ss m)) 11)

-- the heights, fathers, first places and map of the tree, and its number of nodes
pub record TreeSays (p : Picture) (hs hs' fs fs' ss ss' m m' q q' : List ℕ) (r : Answer) : Type 0 where
  pub call : WorkSays (tree_fault_of p hs fs ss m q) (length (nodes p)) p q q' r
  pub heights : hs' ≡ after_call (tree_fault_of p hs fs ss m q) (over (tree_of p).heights hs) hs
  pub fathers : fs' ≡ after_call (tree_fault_of p hs fs ss m q) (over (tree_of p).fathers fs) fs
  pub firsts : ss' ≡ after_call (tree_fault_of p hs fs ss m q) (over (tree_of p).firsts ss) ss
  pub map : m' ≡ after_call (tree_fault_of p hs fs ss m q) (over (tree_of p).map m) m

-- past the earlier refusals, 11 exactly if the lent tree is not the picture's
abbrev pub CheckSays : Picture → ℕ → List ℕ → List ℕ → List ℕ → List ℕ → List ℕ → List ℕ → Answer → Type 0
CheckSays p count hs fs ss m q q' r =
    WorkSays (checked_fault (tree_fault_of p hs fs ss m q) p count hs fs ss m) 0 p q q' r

-- the pass between two places
abbrev pub PassSays : Picture → ℕ → List ℕ → List ℕ → List ℕ → List ℕ → ℕ → ℕ → List ℕ → List ℕ → Answer → Type 0
PassSays p count hs fs ss m x y q q' r =
    WorkSays (checked_fault (places_fault_of p hs fs ss m q x y) p count hs fs ss m) (pass p x y) p q q' r
