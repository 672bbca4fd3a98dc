-- What the steps of the check of a lent tree keep.
-- p the picture, hs fs ss m the lent heights, fathers, first places and map; l the cells, o the cells before, fa the fathers' entries so far, st the states of roots.
use Rattle.std.specs.Prelude.{◌≡◌, Bool, ◌⊎◌, ◌≢◌, List, ℕ, ◌-◌, ◌≤◌, ◌<◌, length, get_or}
use Rattle.picture.specs.Pictures.{Picture, places, value_at}
use Rattle.tree_laws.proofs.Decided.{Decided}
use Rattle.tree_laws.proofs.NewRoots.{Member, NewRoots}
use Rattle.tree_laws.proofs.Classes.{MarkedClasses}
use Rattle.tree_laws.proofs.Checks.{Agree}
use Rattle.lent_tree.specs.Lent.{HoldsTree}
use Rattle.tree_laws.proofs.States.{node_state, several_state}

-- the lent heights from c on, before d, are k, and d is the count or has another
pub record SameHeights (k c d count : ℕ) (hs : List ℕ) : Type 0 where
  pub order : c ≤ d
  pub most : d ≤ count
  pub same : (i : ℕ) → c ≤ i → i < d → get_or hs i 0 ≡ k
  pub ends : d < count → get_or hs d 0 ≢ k

-- the lent first places from c on, before i, are new roots, rising, and have their numbers
pub record Counted (p : Picture) (k c i : ℕ) (l fs ss m : List ℕ) : Type 0 where
  pub fa : ℕ → ℕ
  pub agree : Agree fa fs m
  pub cells : MarkedClasses p k c l fa
  pub roots : NewRoots p k c i (λ j. get_or ss j 0) cells.root cells.st
  pub named : (j : ℕ) → c ≤ j → j < i → cells.marks (get_or ss j 0) ≡ node_state j
  pub either : (y : ℕ) → y < places p → cells.root y ≡ y → Member (λ j. get_or ss j 0) c i y ⊎ (cells.marks y ≡ cells.st y)

-- the tests that the lent first place of the node i passes: a place of value at most k, above the one before it, a root without a number
pub record NodeFits (p : Picture) (k c i : ℕ) (l ss : List ℕ) : Type 0 where
  pub within : get_or ss i 0 < places p
  pub low : value_at p (get_or ss i 0) ≤ k
  pub above : c < i → get_or ss (i - 1) 0 < get_or ss i 0
  pub free : several_state ≤ get_or l (get_or ss i 0) 0

-- the lent map of the pixels of height k before x agrees with the numbers
pub record Matched (p : Picture) (k c d x : ℕ) (l fs ss m : List ℕ) : Type 0 where
  pub counted : Counted p k c d l fs ss m
  pub few : (y : ℕ) → y < places p → value_at p y ≡ k → y < x → counted.cells.marks (counted.cells.root y) < several_state
  pub same : (y : ℕ) → y < places p → value_at p y ≡ k → y < x → counted.cells.marks (counted.cells.root y) ≡ node_state (get_or m y 0)

-- p is the picture with these pixels, with a cell for each place
pub record SamePicture (p : Picture) (pixels l : List ℕ) : Type 0 where
  pub is : p.pixels ≡ pixels
  pub size : length l ≡ places p

-- the answer whether the lent first place of the node i passes its tests
abbrev pub FitAnswer : List ℕ → ℕ → ℕ → ℕ → List ℕ → List ℕ → Bool → Type 0
FitAnswer pixels k c i l ss =
    Decided ((p : Picture) → SamePicture p pixels l → NodeFits p k c i l ss) ((p : Picture) → SamePicture p pixels l → NodeFits p k c i l ss → ⊥)

-- some picture's roots of height k can be counted
pub record CountReady (pixels : List ℕ) (k c : ℕ) (l ss : List ℕ) : Type 0 where
  pub p : Picture
  pub fs : List ℕ
  pub m : List ℕ
  pub is : p.pixels ≡ pixels
  pub counted : Counted p k c c l fs ss m

-- what the check of the lent nodes of a height leaves
abbrev pub NodesChecked : List ℕ → ℕ → ℕ → ℕ → List ℕ → List ℕ → List ℕ → Bool → Type 0
NodesChecked pixels k c d o ss l =
    Decided
    ((p : Picture) (fs m : List ℕ) → p.pixels ≡ pixels → Counted p k c c o fs ss m → Counted p k c d l fs ss m)
    ((p : Picture) (fs m : List ℕ) → p.pixels ≡ pixels → Counted p k c c o fs ss m →
    (count : ℕ) (hs : List ℕ) → SameHeights k c d count hs → HoldsTree p count hs fs ss m → ⊥)

-- some picture's lent map can be checked from x on
pub record LentMapReady (pixels : List ℕ) (k x : ℕ) (l m : List ℕ) : Type 0 where
  pub p : Picture
  pub c : ℕ
  pub d : ℕ
  pub fs : List ℕ
  pub ss : List ℕ
  pub is : p.pixels ≡ pixels
  pub matched : Matched p k c d x l fs ss m

-- what the check of the lent map leaves, for the pixels from x on, before z
abbrev pub MapChecked : List ℕ → ℕ → ℕ → ℕ → List ℕ → List ℕ → List ℕ → Bool → Type 0
MapChecked pixels k x z l m o =
    Decided
    ((p : Picture) (c d : ℕ) (fs ss : List ℕ) → p.pixels ≡ pixels → Matched p k c d x l fs ss m → Matched p k c d z o fs ss m)
    ((p : Picture) (c d : ℕ) (fs ss : List ℕ) → p.pixels ≡ pixels → Matched p k c d x l fs ss m →
    (count : ℕ) (hs : List ℕ) → SameHeights k c d count hs → HoldsTree p count hs fs ss m → ⊥)
