-- Patches: the regional minima, the patch of a place and of a touch, which patch is deeper, their depths and records.
use Rattle.std.specs.Prelude.{◌≡◌, Bool, true, false, ◌&&◌, ◌||◌, ◌≢◌, ℕ, suc, ◌-◌, ◌≤◌, ◌<◌, eqb, ltb, length}
use mathlib.Core.List.{List, [], ◌∷◌, map, Memᴰ}
use Rattle.lists.specs.Lists.{pick, tally, select, index_from, range, is_in, total, highest, lowest}
use Rattle.picture.specs.Pictures.{Picture, places, column, row, is_picture}
use Rattle.picture.specs.Passes.{pass}
use Rattle.picture.specs.Trees.{Node, nodes, component_of, is_leaf}

-- a node put before the first of a list that has a greater first place
abbrev pub insert_by_first : Node → List Node → List Node
insert_by_first n [] = n ∷ []
insert_by_first n (m ∷ ms) = elim (ltb n.first m.first) [ true ↦ n ∷ (m ∷ ms) | false ↦ m ∷ insert_by_first n ms ]

-- nodes by first place
abbrev pub by_first : List Node → List Node
by_first [] = []
by_first (n ∷ ns) = insert_by_first n (by_first ns)

-- the leaves by first place: a patch is the component of one (standard term: regional minimum)
unfoldable pub patch_nodes : Picture → List Node
patch_nodes p = by_first (select (is_leaf p) (nodes p))

-- the number from i on of the first leaf whose patch holds x, 0 for none
abbrev pub patch_from : ℕ → Picture → ℕ → List Node → ℕ
patch_from i p x ns = index_from 0 i (λ n. is_in x (component_of p n)) ns

-- the number of the patch of a place, 0 on the line (in a watershed: the watershed line)
unfoldable pub patch_at : Picture → ℕ → ℕ
patch_at p x = patch_from 1 p x (patch_nodes p)

-- how many places of a picture are on the line (in a watershed: the watershed line)
unfoldable pub line_count : Picture → ℕ
line_count p = tally (λ x. eqb (patch_at p x) 0) (range 0 (places p))

-- the passes from a place to the patches, in the order of their numbers
abbrev pub patch_passes : Picture → ℕ → List ℕ
patch_passes p x = map (λ n. pass p x n.first) (patch_nodes p)

-- the number of the nearest patch of a place, by pass: the one with the lowest pass from it, the lowest number among equals
unfoldable pub nearest_patch : Picture → ℕ → ℕ
nearest_patch p x = index_from 0 1 (λ k. eqb k (lowest 0 (patch_passes p x))) (patch_passes p x)

-- the number of the patch that a touch belongs to by a handbook, 0 for none
-- under 5 a touch on the line belongs to the nearest patch; else it belongs to the patch of its place
unfoldable pub touched_patch : ℕ → Picture → ℕ → ℕ
touched_patch handbook p x = pick (eqb handbook 5 && eqb (patch_at p x) 0) (nearest_patch p x) (patch_at p x)

-- the pass from a place to a patch is that to any place of the patch
abbrev pub Pass-to-patch : Type 0
Pass-to-patch =
    (p : Picture) → is_picture p ≡ true → (n : Node) → Memᴰ n (patch_nodes p) →
    (x y : ℕ) → x < places p → is_in y (component_of p n) ≡ true → pass p x y ≡ pass p x n.first

-- n is the nearest patch of the place x: no patch has a lower pass, and none of the same pass a lower number
pub record Nearest (p : Picture) (x : ℕ) (n : Node) : Type 0 where
  pub patch : Memᴰ n (patch_nodes p)
  pub pass-least : (m : Node) → Memᴰ m (patch_nodes p) → pass p x n.first ≤ pass p x m.first
  pub number-least :
      (m : Node) → Memᴰ m (patch_nodes p) → pass p x m.first ≡ pass p x n.first →
      patch_at p n.first ≤ patch_at p m.first

-- every place of a picture has a nearest patch, and its number is the one defined
abbrev pub Nearest-patch : Type 0
Nearest-patch =
    (p : Picture) → is_picture p ≡ true → (x : ℕ) → x < places p →
    (n : Node) × Nearest p x n × (nearest_patch p x ≡ patch_at p n.first) × (1 ≤ nearest_patch p x)

-- inside a patch the nearest patch is that patch, so that handbook 5 needs no rule for it
abbrev pub Nearest-inside : Type 0
Nearest-inside =
    (p : Picture) → is_picture p ≡ true → (x : ℕ) → x < places p → 1 ≤ patch_at p x → nearest_patch p x ≡ patch_at p x

-- under handbook 5 every touch belongs to the nearest patch
abbrev pub Touched-five : Type 0
Touched-five = (p : Picture) → is_picture p ≡ true → (x : ℕ) → x < places p → touched_patch 5 p x ≡ nearest_patch p x

-- the patch of the leaf m is deeper than that of the leaf n: its height is less, or equal with a smaller patch number
unfoldable pub deeper : Picture → Node → Node → Bool
deeper p m n =
    ltb m.height n.height || eqb m.height n.height && ltb (patch_at p m.first) (patch_at p n.first)

-- the passes from a patch to the deeper ones
abbrev pub deeper_passes : Picture → Node → List ℕ
deeper_passes p n = map (λ m. pass p n.first m.first) (select (λ m. deeper p m n) (patch_nodes p))

-- the height at which the climb from a patch ends: the lowest pass to any deeper patch; for the deepest patch the largest value
unfoldable pub climb_of : Picture → Node → ℕ
climb_of p n = lowest (highest p.pixels) (deeper_passes p n)

-- a patch's depth (standard term: dynamics of a minimum): that height less its own
unfoldable pub depth_of : Picture → Node → ℕ
depth_of p n = climb_of p n - n.height

-- the pass between two patches is that between any places of theirs
abbrev pub Passes-of-patches : Type 0
Passes-of-patches =
    (p : Picture) → is_picture p ≡ true → (m n : Node) → Memᴰ m (patch_nodes p) → Memᴰ n (patch_nodes p) →
    (x y : ℕ) → is_in x (component_of p m) ≡ true → is_in y (component_of p n) ≡ true → pass p x y ≡ pass p m.first n.first

-- no climb ends below its patch, so no depth is a difference cut to 0
abbrev pub Climbs-above : Type 0
Climbs-above = (p : Picture) → is_picture p ≡ true → (n : Node) → Memᴰ n (patch_nodes p) → n.height ≤ climb_of p n

-- n is the deepest patch: none is deeper, and it is deeper than every other
pub record Deepest (p : Picture) (n : Node) : Type 0 where
  pub patch : Memᴰ n (patch_nodes p)
  pub none : (m : Node) → Memᴰ m (patch_nodes p) → deeper p m n ≡ false
  pub others : (m : Node) → Memᴰ m (patch_nodes p) → m ≢ n → deeper p n m ≡ true

-- every picture has exactly one deepest patch, so the largest value stands in for the pass of one patch only
abbrev pub Deepest-one : Type 0
Deepest-one = (p : Picture) → is_picture p ≡ true → (n : Node) × Deepest p n × ((m : Node) → Deepest p m → m ≡ n)

-- number from 1, size in pixels, height, depth, sum of columns, sum of rows
pub record Patch : Type 0 where
  pub number : ℕ
  pub size : ℕ
  pub height : ℕ
  pub depth : ℕ
  pub columns : ℕ
  pub rows : ℕ

-- the record of the patch of a leaf
unfoldable pub patch_of : Picture → ℕ → Node → Patch
patch_of p i n =
    let c = component_of p n in
    record {
      number = i;
      size = length c;
      height = n.height;
      depth = depth_of p n;
      columns = total (map (column p) c);
      rows = total (map (row p) c);
    }

-- the records of leaves, numbered from i on
abbrev pub patches_from : ℕ → Picture → List Node → List Patch
patches_from i p [] = []
patches_from i p (n ∷ ns) = patch_of p i n ∷ patches_from (suc i) p ns

-- the patches of a picture (a patch is a regional minimum), numbered from 1 by first place
unfoldable pub patches : Picture → List Patch
patches p = patches_from 1 p (patch_nodes p)
