-- The lent map of a height is checked against the numbers of its roots; then the next height.
use Rattle.std.proofs.Common.{◌≡◌, sym, ap, ◌∙◌, Bool, inl, inr, ⊎_elim, ◌≢◌, List, ℕ, suc, ◌+◌, ◌≤◌, ◌<◌, arith, ltb, length, get_or, lt-ltb, le-ltb, below_more}
use mathlib.Core.Logic.{by_cases}
use native.Mathlib.Decide.{ℕ_discrete, dec_lt}
use Rattle.lists.specs.Lists.{pick}
use Rattle.picture.specs.Pictures.{Picture, places, value_at}
use Rattle.picture.specs.Components.{component_at}
use Rattle.picture.specs.Trees.{Node, nodes, node_at, number_of, map_of}
use Rattle.topology.proofs.Adjacency.{At}
use Rattle.topology.proofs.Accepted.{places-bound}
use Rattle.topology.proofs.Nodes.{node, number-found, nodes-few, heights-rise}
use Rattle.topology.proofs.Descent.{under, map-under, map_found}
use Rattle.tree_laws.proofs.Counts.{so_far, height-least, height-below}
use Rattle.tree_laws.proofs.NewRoots.{Member, RootsListed, root-first, free-fork, number-new, count_next}
use Rattle.tree_laws.proofs.Numbering.{Numbered, next_level, named-all, edges-next}
use Rattle.tree_laws.proofs.Forests.{Found, found-root, found-state}
use Rattle.tree_laws.proofs.Classes.{MarkedClasses, marks-found}
use Rattle.tree_laws.proofs.Checks.{Checking}
use Rattle.lent_tree.specs.Lent.{HoldsTree}
use Rattle.verify_nodes.specs.NodeChecks.{SameHeights, Counted, Matched}
use Rattle.tree_laws.proofs.States.{node_state, several_state}

pub matched-start : (p : Picture) (k c d : ℕ) (l fs ss m : List ℕ) → Counted p k c d l fs ss m → Matched p k c d 0 l fs ss m
matched-start p k c d l fs ss m s =
    record { counted = s; few = λ y b v h. absurd (omega arith); same = λ y b v h. absurd (omega arith) }

-- a pixel of another value
pub matched-pass : (p : Picture) (k c d x : ℕ) (l fs ss m : List ℕ) → Matched p k c d x l fs ss m → value_at p x ≢ k → Matched p k c d (x + 1) l fs ss m
matched-pass p k c d x l fs ss m s e =
    record {
      counted = s.counted;
      few = λ y b v h. s.few y b v (back y v h);
      same = λ y b v h. s.same y b v (back y v h);
    }
  where
    back : (y : ℕ) → value_at p y ≡ k → y < x + 1 → y < x
    back y v h = by_cases (ℕ_discrete y x) (λ q. absurd (e (ap (value_at p) (sym q) ∙ v))) (λ q. omega arith)

module _ (p : Picture) (k c d x r : ℕ) (l o fs ss m : List ℕ) (s : Matched p k c d x l fs ss m) (f : Found l x r o) (b : x < places p) (value : value_at p x ≡ k) where
  moved : Counted p k c d o fs ss m
  moved =
      let g = s.counted in
      record {
        fa = g.fa;
        agree = g.agree;
        cells = marks-found p k c l g.fa g.cells f;
        roots = g.roots;
        named = g.named;
        either = g.either;
      }

  cell : get_or o r 0 ≡ s.counted.cells.marks (s.counted.cells.root x)
  cell =
      let g = s.counted.cells in found-state f g.forest ∙ ap g.marks (sym (found-root f g.forest))

  pub matched-turn : get_or o r 0 < several_state → get_or o r 0 ≡ node_state (get_or m x 0) → Matched p k c d (x + 1) o fs ss m
  unfolding moved
  matched-turn h e =
      record {
        counted = moved;
        few =
            λ y a v g.
            below_more (λ z. z < places p → value_at p z ≡ k → s.counted.cells.marks (s.counted.cells.root z) < several_state) x
            (λ z i b u. s.few z b u i) (λ b u. let i = cell in omega arith) y g a v;
        same =
            λ y a v g.
            below_more (λ z. z < places p → value_at p z ≡ k → s.counted.cells.marks (s.counted.cells.root z) ≡ node_state (get_or m z 0)) x
            (λ z i b u. s.same z b u i) (λ b u. sym cell ∙ e) y g a v;
      }

-- the numbering that the check has seen
abbrev fathers_now : ℕ → (ℕ → ℕ) → ℕ → ℕ
fathers_now c fa i = pick (ltb i c) (fa i) 65535

module _ (p : Picture) (k c d : ℕ) (l fs ss m : List ℕ) (s : Counted p k c d l fs ss m) where
  abbrev cs : MarkedClasses p k c l s.fa
  cs = s.cells

  now-old : (i : ℕ) → i < c → fathers_now c s.fa i ≡ s.fa i
  now-old i h = ap (λ (b : Bool). pick b (s.fa i) 65535) (lt-ltb i c h)

  now-new : (i : ℕ) → c ≤ i → fathers_now c s.fa i ≡ 65535
  now-new i h = ap (λ (b : Bool). pick b (s.fa i) 65535) (le-ltb i c h)

  numbered : Numbered p c d (λ j. get_or ss j 0) cs.root cs.st cs.marks s.fa (fathers_now c s.fa)
  numbered =
      record {
        named = s.named;
        others = λ y b r n. ⊎_elim (λ t. absurd (n t)) (λ t. t) (s.either y b r);
        fresh = λ i a b. now-new i a;
        old = now-old;
      }

  listed : ((y : ℕ) → At p k y → cs.root y ≡ y → several_state ≤ cs.st y → Member (λ j. get_or ss j 0) c d y) → RootsListed p k c d (λ j. get_or ss j 0) cs.root cs.st
  listed f = record { roots = s.roots; complete = f }

  module _ (complete : (y : ℕ) → At p k y → cs.root y ≡ y → several_state ≤ cs.st y → Member (λ j. get_or ss j 0) c d y) where
    pub says : (y : ℕ) → At p k y → cs.marks (cs.root y) ≡ node_state (under p k y)
    says =
        named-all p k c cs.root cs.st s.fa cs.joined d (λ j. get_or ss j 0) (listed complete)
        cs.marks (fathers_now c s.fa) numbered

    pub count-is : d ≡ so_far p (suc k)
    count-is =
        count_next p k c cs.root cs.st s.fa cs.joined d (λ j. get_or ss j 0) (listed complete)

    pub node-new : (i : ℕ) → c ≤ i → i < d → node_at p i ≡ node k (get_or ss i 0)
    node-new =
        number-new p k c cs.root cs.st s.fa cs.joined d (λ j. get_or ss j 0) (listed complete)

    pub checking-next : Checking p (suc k) 0 l fs m
    checking-next =
        record {
          ok = cs.joined.ok;
          fa = fathers_now c s.fa;
          classes =
              record {
                root = cs.root;
                st = cs.marks;
                size = cs.size;
                forest = cs.forest;
                level =
                    next_level p k c cs.root cs.st s.fa cs.joined d (λ j. get_or ss j 0) (listed complete)
                    cs.marks (fathers_now c s.fa) numbered;
                edges = edges-next p k cs.root cs.joined.edges;
              };
          agree =
              record {
                same =
                    λ i h.
                    by_cases (dec_lt i c)
                    (λ g.
                    let e = now-old i g in
                    ⊎_elim (λ q. inl (e ∙ q)) (λ q. inr (q ∙ ap (λ (z : ℕ). get_or m z 0) (sym e))) (s.agree.same i h))
                    (λ g. inl (now-new i (omega arith)));
              };
        }

-- the tree's own lists are complete
pub tree-complete :
    (p : Picture) (k c d count : ℕ) (l hs fs ss m : List ℕ) (s : Counted p k c d l fs ss m) → SameHeights k c d count hs → HoldsTree p count hs fs ss m →
    (y : ℕ) → At p k y → s.cells.root y ≡ y → several_state ≤ s.cells.st y → Member (λ j. get_or ss j 0) c d y
tree-complete p k c d count l hs fs ss m s run tree y at r h =
    let cs = s.cells in
    let fork = free-fork p k c cs.root cs.st s.fa cs.joined y at r h in
    let (num, is) = number-found p k y cs.joined.low at fork in
    let first = sym (root-first p k c cs.root cs.st s.fa cs.joined y at) ∙ r in
    let i : ℕ = number_of p k (component_at p k y) in
    let hk : (node_at p i).height ≡ k = ap (λ (n : Node). n.height) is in
    let fy : (node_at p i).first ≡ y = ap (λ (n : Node). n.first) is ∙ first in
    record { at = i; from = from i num hk; to = to i num hk; is = tree.firsts i num ∙ fy }
  where
    from : (i : ℕ) → i < length (nodes p) → (node_at p i).height ≡ k → c ≤ i
    from i num hk =
        by_cases (dec_lt i c)
        (λ g. absurd (let q = height-below p k i (let e = s.cells.joined.count in omega arith) num in omega arith))
        (λ g. omega arith)

    to : (i : ℕ) → i < length (nodes p) → (node_at p i).height ≡ k → i < d
    to i num hk =
        by_cases (dec_lt i d)
        (λ g. g)
        (λ g.
        absurd
        (let total = tree.total in
        let o = run.order in
        let dn : d < length (nodes p) = omega arith in
        let e = s.cells.joined.count in
        let a = height-least p k d (omega arith) dn in
        let b = heights-rise p d i (omega arith) num in
        let z = tree.heights d dn in
        run.ends (omega arith) (omega arith)))

-- under the tree a pixel's root says its lent node
pub matched-cell :
    (p : Picture) (k c d x r : ℕ) (l o fs ss m : List ℕ) (s : Matched p k c d x l fs ss m) (f : Found l x r o) (b : x < places p) (value : value_at p x ≡ k) →
    (count : ℕ) (hs : List ℕ) → SameHeights k c d count hs → HoldsTree p count hs fs ss m → (get_or o r 0 ≡ node_state (get_or m x 0)) × (get_or m x 0 < 1600)
matched-cell p k c d x r l o fs ss m s f b value count hs run tree =
    let g = s.counted in
    let e = says p k c d l fs ss m g (tree-complete p k c d count l hs fs ss m g run tree) x (record { within = b; low = omega arith }) in
    let q = cell p k c d x r l o fs ss m s f b value in
    let h : map_of p x ≡ under p k x = map-under p x ∙ ap (λ (j : ℕ). under p j x) value in
    let t = tree.map x b in
    let n = map_found p g.cells.joined.ok x b in
    let few = nodes-few p in
    let most = places-bound p g.cells.joined.ok in
    (omega arith, omega arith)
