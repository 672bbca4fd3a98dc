-- The pictures worked by hand, H1 to H10, their parts, trees, a pass, labels, patches, touches and fillings: each table by one test that antt computes.
use mathlib.Core.Path.{◌≡◌, refl}
use mathlib.Core.Bool.{Bool, true, false, ◌&&◌}
use mathlib.Core.List.{List, [], ◌∷◌, map}
use Prim.Native.Nat.{ℕ}
use lib.Dec.{eqb}
use Rattle.lists.specs.Lists.{all, range}
use Rattle.picture.specs.Pictures.{Picture, places, with_pixels, adjacent, is_picture, picture_of}
use Rattle.picture.specs.Components.{component_at, components}
use Rattle.picture.specs.Passes.{pass}
use Rattle.picture.specs.Labels.{labels}
use Rattle.picture.specs.Trees.{Tree, is_branch, nodes_at, nodes, father_of, map_of, tree_of, is_leaf}
use Rattle.picture.specs.Watersheds.{lowerable, best, watershed}
use Rattle.picture.specs.Filling.{filled_at, filled}
use Rattle.picture.specs.Patches.{patch_nodes, nearest_patch, touched_patch, deeper, climb_of, depth_of, Patch, patch_of, patches, patch_at, line_count}
use Rattle.picture.specs.Kept.{keeps_at, flat}

-- two lists hold the same numbers
abbrev pub same_list : List ℕ → List ℕ → Bool
same_list [] [] = true
same_list [] (y ∷ ys) = false
same_list (x ∷ xs) [] = false
same_list (x ∷ xs) (y ∷ ys) = eqb x y && same_list xs ys

-- a picture worked by hand, and the pixels of its watershed
pub record Row : Type 0 where
  pub picture : Picture
  pub water : List ℕ

abbrev row : Picture → List ℕ → Row
row p xs = record { picture = p; water = xs }

-- H3 and H10, whose trees are worked too
abbrev pub h3 : Picture
h3 = picture_of 4 5 1 (3 ∷ 1 ∷ 4 ∷ 0 ∷ 2 ∷ [])

abbrev pub h10 : Picture
h10 = picture_of 4 3 2 (0 ∷ 5 ∷ 2 ∷ 3 ∷ 3 ∷ 3 ∷ [])

-- the pictures worked by hand in the scope document
abbrev pub table : List Row
table =
    -- H1
    row (picture_of 4 1 1 (9 ∷ [])) (9 ∷ []) ∷
    -- H2
    row (picture_of 4 2 1 (0 ∷ 1 ∷ [])) (0 ∷ 0 ∷ []) ∷
    -- H3
    row h3 (1 ∷ 1 ∷ 4 ∷ 0 ∷ 0 ∷ []) ∷
    -- H4
    row (picture_of 4 2 2 (0 ∷ 5 ∷ 5 ∷ 0 ∷ [])) (0 ∷ 5 ∷ 5 ∷ 0 ∷ []) ∷
    -- H5
    row (picture_of 8 2 2 (0 ∷ 5 ∷ 5 ∷ 0 ∷ [])) (0 ∷ 0 ∷ 0 ∷ 0 ∷ []) ∷
    -- H6
    row (picture_of 4 3 3 (7 ∷ 7 ∷ 7 ∷ 7 ∷ 7 ∷ 7 ∷ 7 ∷ 7 ∷ 7 ∷ [])) (7 ∷ 7 ∷ 7 ∷ 7 ∷ 7 ∷ 7 ∷ 7 ∷ 7 ∷ 7 ∷ []) ∷
    -- H7
    row (picture_of 4 3 3 (0 ∷ 0 ∷ 0 ∷ 0 ∷ 5 ∷ 0 ∷ 0 ∷ 0 ∷ 0 ∷ [])) (0 ∷ 0 ∷ 0 ∷ 0 ∷ 0 ∷ 0 ∷ 0 ∷ 0 ∷ 0 ∷ []) ∷
    -- H8
    row (picture_of 4 5 1 (0 ∷ 3 ∷ 3 ∷ 3 ∷ 1 ∷ [])) (0 ∷ 0 ∷ 0 ∷ 3 ∷ 1 ∷ []) ∷
    -- H9
    row (picture_of 4 4 1 (0 ∷ 3 ∷ 3 ∷ 1 ∷ [])) (0 ∷ 0 ∷ 3 ∷ 1 ∷ []) ∷
    -- H10
    row h10 (0 ∷ 3 ∷ 2 ∷ 0 ∷ 0 ∷ 3 ∷ []) ∷
    []

-- the picture of a row is accepted, and its watershed is the row's
abbrev pub row_holds : Row → Bool
row_holds r = is_picture r.picture && same_list (watershed r.picture).pixels r.water

-- each worked picture has the watershed of its row
pub worked : all row_holds table ≡ true
unfolding adjacent is_picture component_at components lowerable best watershed
worked = refl

-- each worked watershed keeps its picture's parts at the heights from 0 to 9, above which no pixel lies
pub worked-parts : all (λ r. all (keeps_at r.picture (with_pixels r.picture r.water)) (range 0 10)) table ≡ true
unfolding adjacent component_at components keeps_at
worked-parts = refl

-- no flat grey wall keeps H3's parts: at height 1 that of value 0 has one component for two of them, that of value 9 has none
pub worked-walls : (keeps_at h3 (flat h3 0) 1 ≡ false) × (keeps_at h3 (flat h3 9) 1 ≡ false)
unfolding adjacent component_at components keeps_at
worked-walls = (refl, refl)

-- a tree worked by hand: its picture, heights, first places, fathers and map
pub record TreeRow : Type 0 where
  pub picture : Picture
  pub tree : Tree

abbrev tree_row : Picture → List ℕ → List ℕ → List ℕ → List ℕ → TreeRow
tree_row p hs xs fs ms = record { picture = p; tree = record { heights = hs; fathers = fs; firsts = xs; map = ms } }

-- the trees of H3 and H10
abbrev pub trees : List TreeRow
trees =
    tree_row h3 (0 ∷ 1 ∷ 4 ∷ []) (3 ∷ 1 ∷ 0 ∷ []) (2 ∷ 2 ∷ 65535 ∷ []) (1 ∷ 1 ∷ 2 ∷ 0 ∷ 0 ∷ []) ∷
    tree_row h10 (0 ∷ 2 ∷ 3 ∷ []) (0 ∷ 2 ∷ 0 ∷ []) (2 ∷ 2 ∷ 65535 ∷ []) (0 ∷ 2 ∷ 1 ∷ 2 ∷ 2 ∷ 2 ∷ []) ∷
    []

-- two trees have the same lists
abbrev pub same_tree : Tree → Tree → Bool
same_tree t u =
    same_list t.heights u.heights &&
    (same_list t.fathers u.fathers && (same_list t.firsts u.firsts && same_list t.map u.map))

-- each worked tree is that of its picture
pub worked-trees : all (λ r. same_tree (tree_of r.picture) r.tree) trees ≡ true
unfolding adjacent component_at components is_branch nodes_at nodes father_of map_of tree_of
worked-trees = refl

-- the pass of H10 between places 0 and 2
pub worked-pass : pass h10 0 2 ≡ 3
unfolding adjacent component_at pass
worked-pass = refl

-- the labels of H3's section at height 2
pub worked-labels : same_list (labels h3 2) (0 ∷ 1 ∷ 0 ∷ 2 ∷ 2 ∷ []) ≡ true
unfolding adjacent component_at components labels
worked-labels = refl

-- patches worked by hand: the picture, the patch number of each place, the line, and the six figures of each patch's record
pub record PatchRow : Type 0 where
  pub picture : Picture
  pub places : List ℕ
  pub line : ℕ
  pub figures : List (List ℕ)

abbrev patch_row : Picture → List ℕ → ℕ → List (List ℕ) → PatchRow
patch_row p xs l fs = record { picture = p; places = xs; line = l; figures = fs }

-- the watersheds of H3, whose hold list is given, and of H10; a deep patch beside a shallow one; patches of one height, in rows and with both adjacencies, and beside a lower one; a picture of one patch
abbrev pub patch-table : List PatchRow
patch-table =
    patch_row (picture_of 4 5 1 (1 ∷ 1 ∷ 4 ∷ 0 ∷ 0 ∷ [])) (1 ∷ 1 ∷ 0 ∷ 2 ∷ 2 ∷ []) 1
    ((1 ∷ 2 ∷ 1 ∷ 3 ∷ 1 ∷ 0 ∷ []) ∷ (2 ∷ 2 ∷ 0 ∷ 4 ∷ 7 ∷ 0 ∷ []) ∷ []) ∷
    patch_row (picture_of 4 3 2 (0 ∷ 3 ∷ 2 ∷ 0 ∷ 0 ∷ 3 ∷ [])) (1 ∷ 0 ∷ 2 ∷ 1 ∷ 1 ∷ 0 ∷ []) 2
    ((1 ∷ 3 ∷ 0 ∷ 3 ∷ 1 ∷ 2 ∷ []) ∷ (2 ∷ 1 ∷ 2 ∷ 1 ∷ 2 ∷ 0 ∷ []) ∷ []) ∷
    patch_row (picture_of 4 5 1 (0 ∷ 2 ∷ 1 ∷ 9 ∷ 5 ∷ [])) (1 ∷ 0 ∷ 2 ∷ 0 ∷ 3 ∷ []) 2
    ((1 ∷ 1 ∷ 0 ∷ 9 ∷ 0 ∷ 0 ∷ []) ∷ (2 ∷ 1 ∷ 1 ∷ 1 ∷ 2 ∷ 0 ∷ []) ∷ (3 ∷ 1 ∷ 5 ∷ 4 ∷ 4 ∷ 0 ∷ []) ∷ []) ∷
    patch_row (picture_of 4 7 1 (2 ∷ 7 ∷ 5 ∷ 6 ∷ 2 ∷ 2 ∷ 9 ∷ [])) (1 ∷ 0 ∷ 2 ∷ 0 ∷ 3 ∷ 3 ∷ 0 ∷ []) 3
    ((1 ∷ 1 ∷ 2 ∷ 7 ∷ 0 ∷ 0 ∷ []) ∷ (2 ∷ 1 ∷ 5 ∷ 1 ∷ 2 ∷ 0 ∷ []) ∷ (3 ∷ 2 ∷ 2 ∷ 5 ∷ 9 ∷ 0 ∷ []) ∷ []) ∷
    patch_row (picture_of 4 8 1 (2 ∷ 2 ∷ 7 ∷ 5 ∷ 6 ∷ 6 ∷ 2 ∷ 9 ∷ [])) (1 ∷ 1 ∷ 0 ∷ 2 ∷ 0 ∷ 0 ∷ 3 ∷ 0 ∷ []) 4
    ((1 ∷ 2 ∷ 2 ∷ 7 ∷ 1 ∷ 0 ∷ []) ∷ (2 ∷ 1 ∷ 5 ∷ 1 ∷ 3 ∷ 0 ∷ []) ∷ (3 ∷ 1 ∷ 2 ∷ 5 ∷ 6 ∷ 0 ∷ []) ∷ []) ∷
    patch_row (picture_of 4 3 3 (2 ∷ 7 ∷ 2 ∷ 2 ∷ 3 ∷ 4 ∷ 3 ∷ 2 ∷ 9 ∷ [])) (1 ∷ 0 ∷ 2 ∷ 1 ∷ 0 ∷ 0 ∷ 0 ∷ 3 ∷ 0 ∷ []) 5
    ((1 ∷ 2 ∷ 2 ∷ 7 ∷ 0 ∷ 1 ∷ []) ∷ (2 ∷ 1 ∷ 2 ∷ 2 ∷ 2 ∷ 0 ∷ []) ∷ (3 ∷ 1 ∷ 2 ∷ 1 ∷ 1 ∷ 2 ∷ []) ∷ []) ∷
    patch_row (picture_of 8 3 3 (2 ∷ 7 ∷ 2 ∷ 2 ∷ 3 ∷ 4 ∷ 3 ∷ 2 ∷ 9 ∷ [])) (1 ∷ 0 ∷ 2 ∷ 1 ∷ 0 ∷ 0 ∷ 0 ∷ 1 ∷ 0 ∷ []) 5
    ((1 ∷ 3 ∷ 2 ∷ 7 ∷ 1 ∷ 3 ∷ []) ∷ (2 ∷ 1 ∷ 2 ∷ 1 ∷ 2 ∷ 0 ∷ []) ∷ []) ∷
    patch_row (picture_of 4 5 2 (2 ∷ 2 ∷ 1 ∷ 3 ∷ 1 ∷ 2 ∷ 1 ∷ 3 ∷ 0 ∷ 2 ∷ [])) (0 ∷ 0 ∷ 1 ∷ 0 ∷ 2 ∷ 0 ∷ 3 ∷ 0 ∷ 4 ∷ 0 ∷ []) 6
    ((1 ∷ 1 ∷ 1 ∷ 2 ∷ 2 ∷ 0 ∷ []) ∷ (2 ∷ 1 ∷ 1 ∷ 1 ∷ 4 ∷ 0 ∷ []) ∷ (3 ∷ 1 ∷ 1 ∷ 1 ∷ 1 ∷ 1 ∷ []) ∷ (4 ∷ 1 ∷ 0 ∷ 3 ∷ 3 ∷ 1 ∷ []) ∷ []) ∷
    patch_row (picture_of 8 1 2 (0 ∷ 255 ∷ [])) (1 ∷ 0 ∷ []) 1 ((1 ∷ 1 ∷ 0 ∷ 255 ∷ 0 ∷ 0 ∷ []) ∷ []) ∷
    []

-- the figures of a patch: number, size, height, depth, sum of columns and sum of rows
abbrev pub figures_of : Patch → List ℕ
figures_of q = q.number ∷ q.size ∷ q.height ∷ q.depth ∷ q.columns ∷ q.rows ∷ []

abbrev pub same_lists : List (List ℕ) → List (List ℕ) → Bool
same_lists [] [] = true
same_lists [] (y ∷ ys) = false
same_lists (x ∷ xs) [] = false
same_lists (x ∷ xs) (y ∷ ys) = same_list x y && same_lists xs ys

-- a row has the picture's patch numbers, line and figures
abbrev pub patches_hold : PatchRow → Bool
patches_hold r =
    let p = r.picture in
    same_list (map (patch_at p) (range 0 (places p))) r.places &&
    (eqb (line_count p) r.line && same_lists (map figures_of (patches p)) r.figures)

-- each worked picture has the patches of its row
pub worked-patches : all patches_hold patch-table ≡ true
unfolding adjacent component_at components is_branch nodes_at nodes is_leaf patch_nodes pass deeper climb_of depth_of patch_of patches patch_at line_count
worked-patches = refl

-- touches worked by hand: the picture, and the patch number of a touch at each place under handbook 4 and under handbook 5
pub record TouchRow : Type 0 where
  pub picture : Picture
  pub four : List ℕ
  pub five : List ℕ

abbrev touch_row : Picture → List ℕ → List ℕ → TouchRow
touch_row p xs ys = record { picture = p; four = xs; five = ys }

abbrev pub touch-table : List TouchRow
touch-table =
    -- equal passes: the lowest number
    touch_row (picture_of 4 5 1 (0 ∷ 2 ∷ 1 ∷ 9 ∷ 5 ∷ [])) (1 ∷ 0 ∷ 2 ∷ 0 ∷ 3 ∷ []) (1 ∷ 1 ∷ 2 ∷ 1 ∷ 3 ∷ []) ∷
    -- H3: the lowest number, although another patch is deeper
    touch_row h3 (0 ∷ 1 ∷ 0 ∷ 2 ∷ 0 ∷ []) (1 ∷ 1 ∷ 1 ∷ 2 ∷ 2 ∷ []) ∷
    -- the lowest number is not always 1
    touch_row (picture_of 4 6 1 (0 ∷ 9 ∷ 5 ∷ 6 ∷ 3 ∷ 4 ∷ [])) (1 ∷ 0 ∷ 2 ∷ 0 ∷ 3 ∷ 0 ∷ []) (1 ∷ 1 ∷ 2 ∷ 2 ∷ 3 ∷ 3 ∷ []) ∷
    -- a lower pass, although another patch is fewer steps away
    touch_row (picture_of 4 6 1 (0 ∷ 9 ∷ 8 ∷ 7 ∷ 5 ∷ 1 ∷ [])) (1 ∷ 0 ∷ 0 ∷ 0 ∷ 0 ∷ 2 ∷ []) (1 ∷ 1 ∷ 2 ∷ 2 ∷ 2 ∷ 2 ∷ []) ∷
    -- both adjacencies
    touch_row (picture_of 4 3 3 (9 ∷ 9 ∷ 0 ∷ 0 ∷ 5 ∷ 9 ∷ 9 ∷ 9 ∷ 9 ∷ [])) (0 ∷ 0 ∷ 1 ∷ 2 ∷ 0 ∷ 0 ∷ 0 ∷ 0 ∷ 0 ∷ []) (1 ∷ 1 ∷ 1 ∷ 2 ∷ 2 ∷ 1 ∷ 1 ∷ 1 ∷ 1 ∷ []) ∷
    touch_row (picture_of 8 3 3 (9 ∷ 9 ∷ 0 ∷ 0 ∷ 5 ∷ 9 ∷ 9 ∷ 9 ∷ 9 ∷ [])) (0 ∷ 0 ∷ 1 ∷ 2 ∷ 0 ∷ 0 ∷ 0 ∷ 0 ∷ 0 ∷ []) (1 ∷ 1 ∷ 1 ∷ 2 ∷ 1 ∷ 1 ∷ 1 ∷ 1 ∷ 1 ∷ []) ∷
    -- the lowest number, although another patch is smaller, or its last place comes first
    touch_row (picture_of 4 3 2 (0 ∷ 3 ∷ 2 ∷ 0 ∷ 0 ∷ 3 ∷ [])) (1 ∷ 0 ∷ 2 ∷ 1 ∷ 1 ∷ 0 ∷ []) (1 ∷ 1 ∷ 2 ∷ 1 ∷ 1 ∷ 1 ∷ []) ∷
    -- the lowest number, although another patch is larger
    touch_row (picture_of 4 5 1 (3 ∷ 1 ∷ 2 ∷ 0 ∷ 0 ∷ [])) (0 ∷ 1 ∷ 0 ∷ 2 ∷ 2 ∷ []) (1 ∷ 1 ∷ 1 ∷ 2 ∷ 2 ∷ []) ∷
    -- one patch, and a line of the largest value
    touch_row (picture_of 8 1 2 (0 ∷ 255 ∷ [])) (1 ∷ 0 ∷ []) (1 ∷ 1 ∷ []) ∷
    []

-- the patch number of a touch at each place under a handbook
abbrev pub touched : ℕ → Picture → List ℕ
touched handbook p = map (touched_patch handbook p) (range 0 (places p))

-- the picture of a row is accepted, and has the touches of the row
abbrev pub touches_hold : TouchRow → Bool
touches_hold r =
    is_picture r.picture && (same_list (touched 4 r.picture) r.four && same_list (touched 5 r.picture) r.five)

-- each worked picture has the touches of its row
pub worked-touches : all touches_hold touch-table ≡ true
unfolding adjacent is_picture component_at components is_branch nodes_at nodes is_leaf patch_nodes pass patch_at nearest_patch touched_patch
worked-touches = refl

-- a picture filled with a least size, and the pixels then
pub record FilledRow : Type 0 where
  pub picture : Picture
  pub size : ℕ
  pub pixels : List ℕ

abbrev filled_row : Picture → ℕ → List ℕ → FilledRow
filled_row p s xs = record { picture = p; size = s; pixels = xs }

-- H3, H10, H4 and H5
abbrev filled-table : List FilledRow
filled-table =
    filled_row h3 1 (3 ∷ 1 ∷ 4 ∷ 0 ∷ 2 ∷ []) ∷
    filled_row h3 2 (3 ∷ 3 ∷ 4 ∷ 2 ∷ 2 ∷ []) ∷
    filled_row h3 3 (4 ∷ 4 ∷ 4 ∷ 4 ∷ 4 ∷ []) ∷
    filled_row h10 2 (3 ∷ 5 ∷ 3 ∷ 3 ∷ 3 ∷ 3 ∷ []) ∷
    filled_row (picture_of 4 2 2 (0 ∷ 5 ∷ 5 ∷ 0 ∷ [])) 2 (5 ∷ 5 ∷ 5 ∷ 5 ∷ []) ∷
    filled_row (picture_of 8 2 2 (0 ∷ 5 ∷ 5 ∷ 0 ∷ [])) 2 (0 ∷ 5 ∷ 5 ∷ 0 ∷ []) ∷
    []

-- the fillings of the pictures are those of the table
pub worked-filled : all (λ r. same_list (filled r.picture r.size).pixels r.pixels) filled-table ≡ true
unfolding adjacent component_at filled_at filled
worked-filled = refl
