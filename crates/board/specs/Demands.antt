-- Demand 3 of the calls: of the bytes that the watershed call leaves, and of the trees and passes that the calls answer for the picture and for those bytes.
use Rattle.std.specs.Prelude.{◌≡◌, true, ◌↔◌, List, ℕ, suc, ◌≤◌, ◌<◌, get_or, take}
use Rattle.lists.specs.Lists.{tally, range}
use Rattle.picture.specs.Pictures.{Picture, places, with_pixels, all_bytes}
use Rattle.picture.specs.Trees.{Node}
use Rattle.picture.specs.Patches.{patch_at}
use Rattle.picture.specs.Kept.{partners, Kept, OthersFail}
use Rattle.answers.specs.Answers.{Answer}
use Rattle.picture.specs.Filling.{filled}
use Rattle.board.specs.Calls.{WatershedSays, FillSays}
use Rattle.board.specs.Trees.{TreeSays, PassSays}

-- the picture that an unrefused watershed call leaves in the first n bytes of its output
abbrev pub left_by : Picture → List ℕ → Picture
left_by p o = with_pixels p (take (places p) o)

-- demand 3 of the watershed call: what it leaves keeps the picture's parts, tree and passes, and every other picture nowhere above it fails to keep the parts
abbrev pub Demand-3-of-call : Type 0
Demand-3-of-call =
    (p : Picture) (o o' q q' : List ℕ) (r : Answer) → all_bytes p.pixels ≡ true → WatershedSays p o o' q q' r → r.number ≡ 0 →
    Kept p (left_by p o') × OthersFail p (left_by p o')

-- demand 3 of a board that fills: the filling call leaves the filled picture, and what the watershed call leaves of it keeps that picture's parts, tree and passes
abbrev pub Demand-3-of-filled : Type 0
Demand-3-of-filled =
    (p : Picture) (s : ℕ) (o o' q q' : List ℕ) (r : Answer) → all_bytes p.pixels ≡ true → FillSays p s o o' q q' r → r.number ≡ 0 →
    (u u' v v' : List ℕ) (c : Answer) → WatershedSays (left_by p o') u u' v v' c → c.number ≡ 0 →
    (left_by p o' ≡ filled p s) × Kept (filled p s) (left_by (filled p s) u') × OthersFail (filled p s) (left_by (filled p s) u')

-- the node of a number by the answered heights and first places
abbrev pub answered_node : List ℕ → List ℕ → ℕ → Node
answered_node hs ss i = record { height = get_or hs i 0; first = get_or ss i 0 }

-- the trees of f and of its watershed a as the tree call leaves them: n nodes with heights hs, fathers fs and first places ss for f; l nodes with gs, es and ts for a
pub record TreesKept (f a : Picture) (n : ℕ) (hs fs ss : List ℕ) (l : ℕ) (gs es ts : List ℕ) : Type 0 where
  -- each node of f has exactly one partner, and each node of a is the partner of exactly one
  pub one-partner :
      (i : ℕ) → i < n → tally (λ j. partners f a (answered_node hs ss i) (answered_node gs ts j)) (range 0 l) ≡ 1
  pub of-each :
      (j : ℕ) → j < l → tally (λ i. partners f a (answered_node hs ss i) (answered_node gs ts j)) (range 0 n) ≡ 1
  -- the fathers of partners are nodes and partners
  pub fathers :
      (i j : ℕ) → i < n → j < l → partners f a (answered_node hs ss i) (answered_node gs ts j) ≡ true →
      get_or fs i 0 < 65535 →
      (get_or fs i 0 < n) × (get_or es j 0 < l) ×
      (partners f a (answered_node hs ss (get_or fs i 0)) (answered_node gs ts (get_or es j 0)) ≡ true)
  -- each tree has one root, its last node
  pub root : (i : ℕ) → i < n → (get_or fs i 0 ≡ 65535) ↔ (suc i ≡ n)
  pub root-after : (j : ℕ) → j < l → (get_or es j 0 ≡ 65535) ↔ (suc j ≡ l)
  -- the roots are partners, and the root's partner is the root
  pub root-partners :
      (i j : ℕ) → i < n → j < l → get_or fs i 0 ≡ 65535 → get_or es j 0 ≡ 65535 →
      partners f a (answered_node hs ss i) (answered_node gs ts j) ≡ true
  pub roots :
      (i j : ℕ) → i < n → j < l → partners f a (answered_node hs ss i) (answered_node gs ts j) ≡ true →
      get_or fs i 0 ≡ 65535 → get_or es j 0 ≡ 65535

-- the trees that the calls answer for a picture and for what an unrefused watershed call leaves
abbrev pub Trees-of-calls : Type 0
Trees-of-calls =
    (p : Picture) (o o' v v' : List ℕ) (c : Answer) → all_bytes p.pixels ≡ true → WatershedSays p o o' v v' c → c.number ≡ 0 →
    (hs hs' fs fs' ss ss' m m' q q' : List ℕ) (r : Answer) → TreeSays p hs hs' fs fs' ss ss' m m' q q' r → r.number ≡ 0 →
    (gs gs' es es' ts ts' k k' w w' : List ℕ) (s : Answer) → TreeSays (left_by p o') gs gs' es es' ts ts' k k' w w' s → s.number ≡ 0 →
    TreesKept p (left_by p o') r.value hs' fs' ss' s.value gs' es' ts'

-- the passes between minima that the calls answer for a picture and for what an unrefused watershed call leaves
abbrev pub Passes-of-calls : Type 0
Passes-of-calls =
    (p : Picture) (o o' v v' : List ℕ) (c : Answer) → all_bytes p.pixels ≡ true → WatershedSays p o o' v v' c → c.number ≡ 0 →
    (x y : ℕ) → 1 ≤ patch_at p x → 1 ≤ patch_at p y →
    (n : ℕ) (hs fs ss m q q' : List ℕ) (r : Answer) → PassSays p n hs fs ss m x y q q' r → r.number ≡ 0 →
    (l : ℕ) (gs es ts k w w' : List ℕ) (s : Answer) → PassSays (left_by p o') l gs es ts k x y w w' s → s.number ≡ 0 →
    r.value ≡ s.value
