-- What it is to keep parts, and demand 3.
use Rattle.std.specs.Prelude.{◌≡◌, Bool, true, false, ◌&&◌, List, [], ◌∷◌, ℕ, ◌≤◌, ◌<◌, eqb, leb, length, replicate}
use Rattle.lists.specs.Lists.{all, tally, range, all_within}
use Rattle.picture.specs.Pictures.{Picture, places, with_pixels, all_bytes, is_picture}
use Rattle.picture.specs.Components.{components}
use Rattle.picture.specs.Passes.{pass}
use Rattle.picture.specs.Trees.{Node, nodes, node_at, component_of, father_of}
use Rattle.picture.specs.Watersheds.{watershed}
use Rattle.picture.specs.Patches.{patches, patch_at}

-- b keeps f's parts at height k (standard term: b is an extension of f there): each component of f lies in exactly one of b's, and each of b's contains exactly one of f's
unfoldable pub keeps_at : Picture → Picture → ℕ → Bool
keeps_at f b k =
    let cs = components f k in
    let ds = components b k in
    all (λ c. eqb (tally (λ d. all_within c d) ds) 1) cs && all (λ d. eqb (tally (λ c. all_within c d) cs) 1) ds

-- b keeps f's parts: at every height from 0 to 255 (standard term: each section of b is an extension of f's, as in a W-thinning)
unfoldable pub keeps_parts : Picture → Picture → Bool
keeps_parts f b = all (keeps_at f b) (range 0 256)

-- partners (corresponding nodes): nodes of equal height, the component of f's node within that of a's
unfoldable pub partners : Picture → Picture → Node → Node → Bool
partners f a n m = eqb n.height m.height && all_within (component_of f n) (component_of a m)

-- each number is at most the other list's at its index
abbrev pub nowhere_above : List ℕ → List ℕ → Bool
nowhere_above [] ys = true
nowhere_above (x ∷ xs) [] = false
nowhere_above (x ∷ xs) (y ∷ ys) = leb x y && nowhere_above xs ys

-- what demand 3 says of an accepted picture f and its watershed a
pub record Kept (f a : Picture) : Type 0 where
  -- a is an accepted picture with f's adjacency and sides, nowhere above f
  pub sides : a ≡ with_pixels f a.pixels
  pub accepted : is_picture a ≡ true
  pub under : nowhere_above a.pixels f.pixels ≡ true
  -- every connected part at every height is kept
  pub parts : keeps_parts f a ≡ true
  -- each node of f has exactly one partner in a, and each node of a is the partner of exactly one of f's
  pub one-partner : (i : ℕ) → i < length (nodes f) → tally (λ m. partners f a (node_at f i) m) (nodes a) ≡ 1
  pub of-each : (j : ℕ) → j < length (nodes a) → tally (λ n. partners f a n (node_at a j)) (nodes f) ≡ 1
  -- the fathers of partners are partners
  pub fathers :
      (i j : ℕ) → i < length (nodes f) → j < length (nodes a) →
      partners f a (node_at f i) (node_at a j) ≡ true →
      father_of f (node_at f i) < 65535 →
      (father_of a (node_at a j) < 65535) ×
      (partners f a (node_at f (father_of f (node_at f i))) (node_at a (father_of a (node_at a j))) ≡ true)
  -- the roots are partners, and the root's partner is the root
  pub root-partners :
      (i j : ℕ) → i < length (nodes f) → j < length (nodes a) →
      father_of f (node_at f i) ≡ 65535 → father_of a (node_at a j) ≡ 65535 →
      partners f a (node_at f i) (node_at a j) ≡ true
  pub roots :
      (i j : ℕ) → i < length (nodes f) → j < length (nodes a) →
      partners f a (node_at f i) (node_at a j) ≡ true →
      father_of f (node_at f i) ≡ 65535 →
      father_of a (node_at a j) ≡ 65535
  -- the pass between two pixels of minima of f is the same in a
  pub passes :
      (x y : ℕ) → x < places f → y < places f →
      1 ≤ patch_at f x → 1 ≤ patch_at f y →
      pass f x y ≡ pass a x y
  -- no other picture that is nowhere above a keeps f's parts
  pub least :
      (b : List ℕ) → length b ≡ places f → all_bytes b ≡ true →
      nowhere_above b a.pixels ≡ true →
      keeps_parts f (with_pixels f b) ≡ true →
      b ≡ a.pixels

-- every other picture with f's sides that is nowhere above a fails to keep f's parts, at a height from 0 to 255
abbrev pub OthersFail : Picture → Picture → Type 0
OthersFail f a =
    (b : List ℕ) → length b ≡ places f → all_bytes b ≡ true → nowhere_above b a.pixels ≡ true → (b ≡ a.pixels → ⊥) →
    (h : ℕ) × (h ≤ 255) × (keeps_at f (with_pixels f b) h ≡ false)

-- demand 3, whole
abbrev pub Demand-3 : Type 0
Demand-3 = (f : Picture) → is_picture f ≡ true → Kept f (watershed f)

-- the flat picture of one value, with f's adjacency and sides
abbrev pub flat : Picture → ℕ → Picture
flat f v = with_pixels f (replicate (places f) v)

-- the flat grey wall: of a picture with two patches or more, no flat picture keeps the parts
abbrev pub Flat-fails : Type 0
Flat-fails = (f : Picture) → is_picture f ≡ true → 2 ≤ length (patches f) → (v : ℕ) → keeps_parts f (flat f v) ≡ false
