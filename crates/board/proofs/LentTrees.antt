-- The laws of the calls that lend a tree: its faults, and the tree entry by entry.
use mathlib.Core.Path.{◌≡◌, refl, sym, ap, ◌∙◌}
use mathlib.Core.Bool.{Bool, true, false, ◌||◌, not}
use mathlib.Core.Logic.{◌≢◌}
use mathlib.Core.List.{List, [], ◌∷◌}
use Prim.Native.Nat.{ℕ, zero, suc, ◌≤◌, ◌<◌}
use native.Mathlib.Omega.{arith}
use lib.Dec.{eqb, leb}
use lib.ListN.{length, get_or}
use borrow.Author.Tests.{eqb-true, eq-eqb, leb-false, not-false}
use Rattle.picture.specs.Pictures.{Picture, places, is_picture}
use Rattle.picture.specs.Passes.{pass}
use Rattle.picture.specs.Trees.{nodes, tree_of}
use Rattle.faults.specs.PictureFault.{first_of, when}
use Rattle.lists.proofs.Tests.{and_left, and_right, and_both, or-fails, clash, on_test}
use Rattle.topology.proofs.Accepted.{accepted-is}
use Rattle.topology.proofs.Nodes.{nodes-few}
use Rattle.topology.proofs.Passes.{pass-byte}
use Rattle.topology.proofs.TreeLists.{length-heights, length-fathers, length-firsts, length-map-of, heights-at, fathers-at, firsts_at, map_at}
use Rattle.tree_lists.specs.Lists.{ListsRoom}
use Rattle.lent_tree.specs.Lent.{HoldsTree}
use Rattle.verify.specs.Checked.{IsTreeAnswer, decided-yes, decided-never}
use Rattle.lent_tree.specs.Passes.{PassReady}
use Rattle.faults.specs.Faults.{output_fault}
use Rattle.faults.specs.Steps.{Admitted}
use Rattle.board.specs.Trees.{begins, is_tree, shortest, tree_fault_of, places_fault_of, checked_fault}
use Rattle.board.specs.LentTrees.{TreeLent}
use Rattle.faults.proofs.Faults.{admitted, output-enough, first_some, first-none, first-later, then-none}

-- a list begins with another: entry by entry
begins-at : (xs ys : List ℕ) → begins xs ys ≡ true → (i : ℕ) → i < length xs → get_or ys i 0 ≡ get_or xs i 0
begins-at [] ys e i h = absurd (omega arith)
begins-at (x ∷ xs) [] e i h = absurd (clash e refl)
begins-at (x ∷ xs) (y ∷ ys) e zero h = sym (eqb-true x y (and_left (eqb x y) _ e))
begins-at (x ∷ xs) (y ∷ ys) e (suc i) h = begins-at xs ys (and_right (eqb x y) _ e) i (omega arith)

at-begins : (xs ys : List ℕ) → length xs ≤ length ys → ((i : ℕ) → i < length xs → get_or ys i 0 ≡ get_or xs i 0) → begins xs ys ≡ true
at-begins [] ys h f = refl
at-begins (x ∷ xs) [] h f = absurd (omega arith)
at-begins (x ∷ xs) (y ∷ ys) h f =
    and_both (eq-eqb x y (sym (f 0 (omega arith)))) (at-begins xs ys (omega arith) (λ i l. f (suc i) (omega arith)))

-- the same for a list xs of n entries
entries : (xs ys : List ℕ) (n : ℕ) → length xs ≡ n → begins xs ys ≡ true → (i : ℕ) → i < n → get_or ys i 0 ≡ get_or xs i 0
entries xs ys n e b i h = begins-at xs ys b i (omega arith)

begun : (xs ys : List ℕ) (n : ℕ) → length xs ≡ n → n ≤ length ys → ((i : ℕ) → i < n → get_or ys i 0 ≡ get_or xs i 0) → begins xs ys ≡ true
begun xs ys n e h f = at-begins xs ys (omega arith) (λ i l. f i (omega arith))

module _ (p : Picture) (count : ℕ) (hs fs ss m : List ℕ) where
  -- the test holds exactly for the tree
  pub tree-entries : is_tree p count hs fs ss m ≡ true → HoldsTree p count hs fs ss m
  unfolding is_tree
  tree-entries e =
      let n = length (nodes p) in
      let e₁ = and_right (eqb count n) _ e in
      let e₂ = and_right (begins (tree_of p).heights hs) _ e₁ in
      let e₃ = and_right (begins (tree_of p).fathers fs) _ e₂ in
      record {
        total = eqb-true count n (and_left (eqb count n) _ e);
        heights = λ i h. entries (tree_of p).heights hs n (length-heights p) (and_left (begins (tree_of p).heights hs) _ e₁) i h ∙ heights-at p i h;
        fathers = λ i h. entries (tree_of p).fathers fs n (length-fathers p) (and_left (begins (tree_of p).fathers fs) _ e₂) i h ∙ fathers-at p i h;
        firsts = λ i h. entries (tree_of p).firsts ss n (length-firsts p) (and_left (begins (tree_of p).firsts ss) _ e₃) i h ∙ firsts_at p i h;
        map = λ x h. entries (tree_of p).map m (places p) (length-map-of p) (and_right (begins (tree_of p).firsts ss) _ e₃) x h ∙ map_at p x h;
      }

  module _ (lent : TreeLent p hs fs ss m) where
    pub entries-tree : HoldsTree p count hs fs ss m → is_tree p count hs fs ss m ≡ true
    unfolding is_tree
    entries-tree t =
        let n = length (nodes p) in
        let few = nodes-few p in
        and_both (eq-eqb count n t.total)
        (and_both
        (begun (tree_of p).heights hs n (length-heights p) (omega (arith, few, lent.heights)) (λ i h. t.heights i h ∙ sym (heights-at p i h)))
        (and_both
        (begun (tree_of p).fathers fs n (length-fathers p) (omega (arith, few, lent.fathers)) (λ i h. t.fathers i h ∙ sym (fathers-at p i h)))
        (and_both
        (begun (tree_of p).firsts ss n (length-firsts p) (omega (arith, few, lent.firsts)) (λ i h. t.firsts i h ∙ sym (firsts_at p i h)))
        (begun (tree_of p).map m (places p) (length-map-of p) lent.map (λ x h. t.map x h ∙ sym (map_at p x h))))))

    -- the answer of the check is the test
    pub answer-tree : (b : Bool) → IsTreeAnswer p count hs fs ss m b → b ≡ is_tree p count hs fs ss m
    answer-tree true s = sym (entries-tree (decided-yes refl s))
    answer-tree false s =
        on_test (is_tree p count hs fs ss m) (λ e. absurd (decided-never refl s (tree-entries e))) (λ e. sym e)

  -- the returns of the fault of a lent tree
  pub tree-unchecked : (f : ℕ) → f ≢ 0 → f ≡ checked_fault f p count hs fs ss m
  unfolding checked_fault
  tree-unchecked f d = first_some f _ f refl d

  pub tree-checked : (f r : ℕ) (b : Bool) → f ≡ 0 → b ≡ is_tree p count hs fs ss m → r ≡ when (not b) 11 → r ≡ checked_fault f p count hs fs ss m
  unfolding checked_fault
  tree-checked f r b z e v = v ∙ (ap (λ (t : Bool). when (not t) 11) e ∙ sym (first-none f _ z))

  -- no fault: the lent lists are the tree
  pub no-checked-fault : (f : ℕ) → checked_fault f p count hs fs ss m ≡ 0 → (f ≡ 0) × (is_tree p count hs fs ss m ≡ true)
  unfolding checked_fault
  no-checked-fault f e =
      let z = then-none f 10 (not (is_tree p count hs fs ss m)) _ refl e in (z.0, not-false (is_tree p count hs fs ss m) z.1)

-- the fault of the lengths, from the least of them
pub lists-fault :
    (p : Picture) (hs fs ss m q : List ℕ) (l f : ℕ) → l ≡ shortest hs fs ss m →
    f ≡ output_fault p.adjacency p.width p.height (length p.pixels) l (length q) → f ≡ tree_fault_of p hs fs ss m q
unfolding tree_fault_of
lists-fault p hs fs ss m q l f e g =
    g ∙ ap (λ (k : ℕ). output_fault p.adjacency p.width p.height (length p.pixels) k (length q)) e

-- what the calls lend
module _ (p : Picture) (hs fs ss m q : List ℕ) (bytes : (i : ℕ) → get_or p.pixels i 0 ≤ 255) where
  pub tree-admitted : tree_fault_of p hs fs ss m q ≡ 0 → Admitted p (length q) × (places p ≤ shortest hs fs ss m)
  unfolding tree_fault_of
  tree-admitted z =
      let e = output-enough p.adjacency p.width p.height (length p.pixels) (length q) (shortest hs fs ss m) z in
      (admitted p (length q) e.0 bytes, e.1)

  pub lent-tree : tree_fault_of p hs fs ss m q ≡ 0 → TreeLent p hs fs ss m
  lent-tree z =
      let a = (tree-admitted z).0 in
      let l = (tree-admitted z).1 in
      record {
        accepted = a.picture;
        few = a.faultless.few;
        heights = omega arith;
        fathers = omega arith;
        firsts = omega arith;
        map = omega arith;
      }

  -- the code counts from the number of pixels
  pub places-counted :
      (f x y : ℕ) → f ≡ tree_fault_of p hs fs ss m q →
      first_of f (when (leb (length p.pixels) x || leb (length p.pixels) y) 10) ≡ places_fault_of p hs fs ss m q x y
  unfolding places_fault_of
  places-counted f x y e =
      first-later f (length p.pixels) (places p) (λ n. when (leb n x || leb n y) 10) (λ z. (tree-admitted (sym e ∙ z)).0.faultless.size) ∙
      ap (λ (g : ℕ). first_of g (when (leb (places p) x || leb (places p) y) 10)) e

-- no fault of the lengths and of two places
pub no-places-fault :
    (p : Picture) (hs fs ss m q : List ℕ) (x y : ℕ) → places_fault_of p hs fs ss m q x y ≡ 0 →
    (tree_fault_of p hs fs ss m q ≡ 0) × (x < places p) × (y < places p)
unfolding places_fault_of
no-places-fault p hs fs ss m q x y e =
    let z = then-none _ 9 _ _ refl e in
    let b = or-fails (leb (places p) x) (leb (places p) y) z.1 in
    (z.0, leb-false (places p) x b.0, leb-false (places p) y b.1)

-- a tree and two places of its picture, ready for the pass
pub pass-ready :
    (p : Picture) (count : ℕ) (hs fs ss m : List ℕ) (x y : ℕ) → TreeLent p hs fs ss m → is_tree p count hs fs ss m ≡ true → x < places p → y < places p →
    PassReady p.pixels hs fs m x y
pass-ready p count hs fs ss m x y l e bx by =
    let t = tree-entries p count hs fs ss m e in
    let few = nodes-few p in
    let c = t.total in
    record {
      p = p;
      count = count;
      ss = ss;
      ok = l.accepted;
      is = refl;
      tree = t;
      left = bx;
      right = by;
      heights = omega (arith, few, c, l.heights);
      fathers = omega (arith, few, c, l.fathers);
      map = l.map;
    }

pub pass-low : (p : Picture) (x y : ℕ) → is_picture p ≡ true → x < places p → y < places p → pass p x y ≤ 255
pass-low p x y ok bx by = pass-byte p (accepted-is p ok) x y bx by

-- the lists and the work of a call with no fault have room for the tree
pub tree-rooms : (p : Picture) (hs fs ss m q : List ℕ) → Admitted p (length q) → places p ≤ shortest hs fs ss m → ListsRoom (places p) hs fs ss m q
tree-rooms p hs fs ss m q a l =
    record {
      heights = omega arith;
      fathers = omega arith;
      firsts = omega arith;
      map = omega arith;
      work = omega (arith, a.faultless.size, a.faultless.room);
    }
