-- Demand 3 in what the tree call and the pass call answer for a picture and for its watershed.
use mathlib.Core.Path.{◌≡◌, refl, sym, ap, ap₂, subst, ◌∙◌}
use mathlib.Core.Bool.{true}
use mathlib.Core.Logic.{⊎_elim, ◌↔◌}
use mathlib.Core.List.{List, [], ◌∷◌, ◌++◌}
use Prim.Native.Nat.{ℕ, suc, ◌≤◌, ◌<◌}
use native.Mathlib.Omega.{arith}
use lib.ListN.{length, get_or, drop}
use borrow.Author.Tests.{eq-eqb}
use Rattle.answers.proofs.Calls.{written-left, answered-value}
use Rattle.lists.proofs.Cuts.{over-front}
use Rattle.lists.specs.Lists.{tally, range, over}
use Rattle.picture.specs.Pictures.{Picture, places, is_picture}
use Rattle.picture.specs.Passes.{pass}
use Rattle.picture.specs.Trees.{nodes, node_at, father_of, tree_of}
use Rattle.picture.specs.Patches.{patch_at}
use Rattle.picture.specs.Kept.{partners, Kept}
use Rattle.lists.proofs.Tests.{and_both}
use Rattle.lists.proofs.Lists.{tally-map, tally-same, range-mem, by_index}
use Rattle.topology.proofs.Nodes.{node-is}
use Rattle.topology.proofs.Fathers.{father-found}
use Rattle.topology.proofs.Accepted.{accepted-is}
use Rattle.topology.proofs.Tree.{one-root}
use Rattle.topology.proofs.TreeLists.{length-heights, length-fathers, length-firsts, heights-at, fathers-at, firsts_at}
use Rattle.answers.specs.Answers.{Answer}
use Rattle.answers.specs.Answers.{after_call}
use Rattle.board.specs.Trees.{begins, is_tree, tree_fault_of, places_fault_of, checked_fault, TreeSays, PassSays}
use Rattle.board.specs.Demands.{left_by, answered_node, TreesKept, Trees-of-calls, Passes-of-calls}
use Rattle.board.proofs.Demands.{accepted-of-call, demand-3-of-call}
use Rattle.board.proofs.LentTrees.{no-places-fault, no-checked-fault}

-- an entry of a list that a call without a fault left in front of another
in-front : (f : ℕ) (xs old new : List ℕ) → f ≡ 0 → new ≡ after_call f (over xs old) old → (i : ℕ) → i < length xs → get_or new i 0 ≡ get_or xs i 0
in-front f xs old new z e i h =
    ap (λ (l : List ℕ). get_or l i 0) (e ∙ sym (written-left f (over xs old) old z)) ∙ over-front xs old i h

-- such a list begins with the other
begins-append : (xs ys : List ℕ) → begins xs (xs ++ ys) ≡ true
begins-append [] ys = refl
begins-append (x ∷ xs) ys = and_both (eq-eqb x x refl) (begins-append xs ys)

begins-front : (f : ℕ) (xs old new : List ℕ) → f ≡ 0 → new ≡ after_call f (over xs old) old → begins xs new ≡ true
begins-front f xs old new z e =
    ap (begins xs) (e ∙ sym (written-left f (over xs old) old z)) ∙ begins-append xs (drop (length xs) old)

-- what an unrefused tree call answers, node by node
module _ (p : Picture) (hs hs' fs fs' ss ss' m m' q q' : List ℕ) (r : Answer) (says : TreeSays p hs hs' fs fs' ss ss' m m' q q' r) (unrefused : r.number ≡ 0) where
  fine : tree_fault_of p hs fs ss m q ≡ 0
  fine = sym says.call.answer.number ∙ unrefused

  pub answered-count : r.value ≡ length (nodes p)
  answered-count = answered-value (tree_fault_of p hs fs ss m q) (length (nodes p)) r says.call.answer fine

  pub answered-node : (i : ℕ) → i < length (nodes p) → answered_node hs' ss' i ≡ node_at p i
  answered-node i h =
      let f = tree_fault_of p hs fs ss m q in
      ap₂ (λ (a b : ℕ). record { height = a; first = b })
      (in-front f (tree_of p).heights hs hs' fine says.heights i (omega (arith, length-heights p, h)) ∙ heights-at p i h)
      (in-front f (tree_of p).firsts ss ss' fine says.firsts i (omega (arith, length-firsts p, h)) ∙ firsts_at p i h)

  pub answered-father : (i : ℕ) → i < length (nodes p) → get_or fs' i 0 ≡ father_of p (node_at p i)
  answered-father i h =
      in-front (tree_fault_of p hs fs ss m q) (tree_of p).fathers fs fs' fine says.fathers i (omega (arith, length-fathers p, h)) ∙ fathers-at p i h

-- answered lists that hold the nodes and the fathers of a picture's tree
pub record AnsweredTree (p : Picture) (n : ℕ) (hs fs ss : List ℕ) : Type 0 where
  pub count : n ≡ length (nodes p)
  pub node : (i : ℕ) → i < length (nodes p) → answered_node hs ss i ≡ node_at p i
  pub father : (i : ℕ) → i < length (nodes p) → get_or fs i 0 ≡ father_of p (node_at p i)

-- a father that is not 65535 is a node
father-in : (p : Picture) (i : ℕ) → i < length (nodes p) → father_of p (node_at p i) < 65535 → father_of p (node_at p i) < length (nodes p)
father-in p i h l =
    ⊎_elim (λ b. b) (λ e. absurd (let g = e.0 in omega arith)) (father-found p (node_at p i) (node-is p i h))

-- the last node is the one root
root_is :
    (p : Picture) → is_picture p ≡ true → (n : ℕ) (hs fs ss : List ℕ) → AnsweredTree p n hs fs ss → (i : ℕ) → i < n → (get_or fs i 0 ≡ 65535) ↔ (suc i ≡ n)
root_is p ok n hs fs ss t i h =
    let b : i < length (nodes p) = subst (λ (k : ℕ). i < k) t.count h in
    let r = one-root p (accepted-is p ok) i b in
    (λ e. r.0 (sym (t.father i b) ∙ e) ∙ sym t.count, λ e. t.father i b ∙ r.1 (e ∙ t.count))

module _ (f a : Picture) (n : ℕ) (hs fs ss : List ℕ) (l : ℕ) (gs es ts : List ℕ) (F : AnsweredTree f n hs fs ss) (A : AnsweredTree a l gs es ts) (ok : is_picture f ≡ true) (kept : Kept f a) where
  left : (i : ℕ) → i < n → i < length (nodes f)
  left i h = subst (λ (k : ℕ). i < k) F.count h

  right : (j : ℕ) → j < l → j < length (nodes a)
  right j h = subst (λ (k : ℕ). j < k) A.count h

  both : (i j : ℕ) → i < length (nodes f) → j < length (nodes a) → partners f a (answered_node hs ss i) (answered_node gs ts j) ≡ partners f a (node_at f i) (node_at a j)
  both i j bi bj = ap₂ (partners f a) (F.node i bi) (A.node j bj)

  pub trees-kept : TreesKept f a n hs fs ss l gs es ts
  trees-kept =
      record {
        one-partner =
            λ i h.
            let b = left i h in
            ap (λ (k : ℕ). tally (λ j. partners f a (answered_node hs ss i) (answered_node gs ts j)) (range 0 k)) A.count ∙
            (tally-same (λ j. partners f a (answered_node hs ss i) (answered_node gs ts j)) (λ j. partners f a (node_at f i) (node_at a j))
            (range 0 (length (nodes a)))
            (λ j m. both i j b (let c = range-mem 0 (length (nodes a)) m in omega (arith, c.1))) ∙
            (sym (tally-map (partners f a (node_at f i)) (node_at a) (range 0 (length (nodes a)))) ∙
            (ap (tally (partners f a (node_at f i))) (by_index (record { height = 0; first = 0 }) (nodes a)) ∙ kept.one-partner i b)));
        of-each =
            λ j h.
            let b = right j h in
            ap (λ (k : ℕ). tally (λ i. partners f a (answered_node hs ss i) (answered_node gs ts j)) (range 0 k)) F.count ∙
            (tally-same (λ i. partners f a (answered_node hs ss i) (answered_node gs ts j)) (λ i. partners f a (node_at f i) (node_at a j))
            (range 0 (length (nodes f)))
            (λ i m. both i j (let c = range-mem 0 (length (nodes f)) m in omega (arith, c.1)) b) ∙
            (sym (tally-map (λ n. partners f a n (node_at a j)) (node_at f) (range 0 (length (nodes f)))) ∙
            (ap (tally (λ n. partners f a n (node_at a j))) (by_index (record { height = 0; first = 0 }) (nodes f)) ∙ kept.of-each j b)));
        fathers =
            λ i j hi hj e s.
            let bi = left i hi in
            let bj = right j hj in
            let ei = F.father i bi in
            let ej = A.father j bj in
            let si : father_of f (node_at f i) < 65535 = omega (arith, s, ei) in
            let (sj, t) = kept.fathers i j bi bj (sym (both i j bi bj) ∙ e) si in (
              omega (arith, ei, father-in f i bi si, F.count),
              omega (arith, ej, father-in a j bj sj, A.count),
              ap₂ (λ (u v : ℕ). partners f a (answered_node hs ss u) (answered_node gs ts v)) ei ej ∙
                  (both (father_of f (node_at f i)) (father_of a (node_at a j)) (father-in f i bi si) (father-in a j bj sj) ∙ t),
            );
        root = λ i h. root_is f ok n hs fs ss F i h;
        root-after = λ j h. root_is a kept.accepted l gs es ts A j h;
        root-partners =
            λ i j hi hj ri rj.
            let bi = left i hi in
            let bj = right j hj in
            both i j bi bj ∙ kept.root-partners i j bi bj (sym (F.father i bi) ∙ ri) (sym (A.father j bj) ∙ rj);
        roots =
            λ i j hi hj e r.
            let bi = left i hi in
            let bj = right j hj in
            A.father j bj ∙ kept.roots i j bi bj (sym (both i j bi bj) ∙ e) (sym (F.father i bi) ∙ r);
      }

-- the trees that two unrefused calls answer, for a picture and for one that keeps it
pub demand-3-of-trees :
    (f a : Picture) → is_picture f ≡ true → Kept f a →
    (hs hs' fs fs' ss ss' m m' q q' : List ℕ) (r : Answer) → TreeSays f hs hs' fs fs' ss ss' m m' q q' r → r.number ≡ 0 →
    (gs gs' es es' ts ts' k k' w w' : List ℕ) (s : Answer) → TreeSays a gs gs' es es' ts ts' k k' w w' s → s.number ≡ 0 →
    TreesKept f a r.value hs' fs' ss' s.value gs' es' ts'
demand-3-of-trees f a ok kept hs hs' fs fs' ss ss' m m' q q' r says z gs gs' es es' ts ts' k k' w w' s tells y =
    trees-kept f a r.value hs' fs' ss' s.value gs' es' ts'
    (record {
      count = answered-count f hs hs' fs fs' ss ss' m m' q q' r says z;
      node = answered-node f hs hs' fs fs' ss ss' m m' q q' r says z;
      father = answered-father f hs hs' fs fs' ss ss' m m' q q' r says z;
    })
    (record {
      count = answered-count a gs gs' es es' ts ts' k k' w w' s tells y;
      node = answered-node a gs gs' es es' ts ts' k k' w w' s tells y;
      father = answered-father a gs gs' es es' ts ts' k k' w w' s tells y;
    })
    ok
    kept

-- what an unrefused call of the pass answers
answered-pass :
    (p : Picture) (count : ℕ) (hs fs ss m : List ℕ) (x y : ℕ) (q q' : List ℕ) (r : Answer) → PassSays p count hs fs ss m x y q q' r → r.number ≡ 0 →
    (r.value ≡ pass p x y) × (x < places p) × (y < places p)
answered-pass p count hs fs ss m x y q q' r says z =
    let fine = sym says.answer.number ∙ z in
    let f = places_fault_of p hs fs ss m q x y in
    let b = no-places-fault p hs fs ss m q x y (no-checked-fault p count hs fs ss m f fine).0 in (
      answered-value (checked_fault f p count hs fs ss m) (pass p x y) r says.answer fine,
      b.1,
      b.2,
    )

-- the passes that two unrefused calls answer between pixels of minima, for a picture and for one that keeps it
pub demand-3-of-passes :
    (f a : Picture) → Kept f a → (x y : ℕ) → 1 ≤ patch_at f x → 1 ≤ patch_at f y →
    (n : ℕ) (hs fs ss m q q' : List ℕ) (r : Answer) → PassSays f n hs fs ss m x y q q' r → r.number ≡ 0 →
    (l : ℕ) (gs es ts k w w' : List ℕ) (s : Answer) → PassSays a l gs es ts k x y w w' s → s.number ≡ 0 →
    r.value ≡ s.value
demand-3-of-passes f a kept x y px py n hs fs ss m q q' r says z l gs es ts k w w' s tells u =
    let b = answered-pass f n hs fs ss m x y q q' r says z in
    let c = answered-pass a l gs es ts k x y w w' s tells u in
    b.0 ∙ (kept.passes x y b.1 b.2 px py ∙ sym c.0)

-- an unrefused tree call leaves lists that the check accepts
pub answered-is-tree :
    (p : Picture) (hs hs' fs fs' ss ss' m m' q q' : List ℕ) (r : Answer) → TreeSays p hs hs' fs fs' ss ss' m m' q q' r → r.number ≡ 0 →
    is_tree p r.value hs' fs' ss' m' ≡ true
unfolding is_tree
answered-is-tree p hs hs' fs fs' ss ss' m m' q q' r says z =
    let f = tree_fault_of p hs fs ss m q in
    let e = sym says.call.answer.number ∙ z in
    and_both
    (eq-eqb r.value (length (nodes p)) (answered-count p hs hs' fs fs' ss ss' m m' q q' r says z))
    (and_both (begins-front f (tree_of p).heights hs hs' e says.heights)
    (and_both (begins-front f (tree_of p).fathers fs fs' e says.fathers)
    (and_both (begins-front f (tree_of p).firsts ss ss' e says.firsts)
    (begins-front f (tree_of p).map m m' e says.map))))

-- the calls together
pub trees-of-calls : Trees-of-calls
trees-of-calls p o o' v v' c bytes says z =
    demand-3-of-trees p (left_by p o') (accepted-of-call p o o' v v' c bytes says z) (demand-3-of-call p o o' v v' c bytes says z).0

pub passes-of-calls : Passes-of-calls
passes-of-calls p o o' v v' c bytes says z = demand-3-of-passes p (left_by p o') (demand-3-of-call p o o' v v' c bytes says z).0
