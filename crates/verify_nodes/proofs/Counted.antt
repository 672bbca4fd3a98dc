-- The lent nodes of a height are checked against the new roots.
use Rattle.std.proofs.Common.{◌≡◌, refl, sym, ap, subst, ◌∙◌, false, inl, inr, ⊎_elim, List, ℕ, suc, ◌+◌, ◌-◌, ◌≤◌, ◌<◌, add-one, arith, length, get_or, set}
use mathlib.Core.Logic.{by_cases}
use native.Mathlib.Decide.{ℕ_discrete}
use Rattle.picture.specs.Pictures.{Picture, places}
use Rattle.picture.specs.Components.{component_at}
use Rattle.picture.specs.Trees.{is_branch, nodes, node_at}
use Rattle.topology.proofs.Adjacency.{At}
use Rattle.topology.proofs.Reached.{first_at}
use Rattle.topology.proofs.Nodes.{node-is}
use Rattle.lists.proofs.Updates.{put_same, put_other}
use Rattle.tree_laws.proofs.Counts.{so_far, firsts-rise}
use Rattle.tree_laws.proofs.NewRoots.{roots-none, root-first, fork-free}
use Rattle.tree_laws.proofs.Forests.{root-cell}
use Rattle.tree_laws.proofs.Classes.{MarkedClasses, marks-set}
use Rattle.tree_laws.proofs.Checks.{Checking}
use Rattle.lent_tree.specs.Lent.{HoldsTree}
use Rattle.verify_nodes.specs.NodeChecks.{SameHeights, Counted, NodeFits}
use Rattle.tree_laws.proofs.States.{node_state, several_state}

pub counted_start : (p : Picture) (k c : ℕ) (l fs ss m : List ℕ) → k ≤ 255 → c ≡ so_far p k → Checking p k (places p) l fs m → Counted p k c c l fs ss m
counted_start p k c l fs ss m low e s =
    record {
      fa = s.fa;
      agree = s.agree;
      cells =
          record {
            root = s.classes.root;
            st = s.classes.st;
            marks = s.classes.st;
            size = s.classes.size;
            forest = s.classes.forest;
            joined = record { ok = s.ok; low = low; count = e; level = s.classes.level; edges = s.classes.edges };
          };
      roots = roots-none p k c (λ j. get_or ss j 0) s.classes.root s.classes.st;
      named = λ j h g. absurd (omega arith);
      either = λ y b r. inr refl;
    }

module _ (p : Picture) (k c i : ℕ) (l fs ss m : List ℕ) (s : Counted p k c i l fs ss m) where
  abbrev cs : MarkedClasses p k c l s.fa
  cs = s.cells

  pub counted-turn : i < 1600 → NodeFits p k c i l ss → Counted p k c (i + 1) (set l (get_or ss i 0) (node_state i)) fs ss m
  counted-turn few t =
      subst (λ (z : ℕ). Counted p k c z (set l r (node_state i)) fs ss m) (sym (add-one i))
      (record {
        fa = s.fa;
        agree = s.agree;
        cells = marks-set p k c l s.fa cs r (node_state i) t.within root-r (omega arith);
        roots =
            record {
              order = let o = s.roots.order in omega arith;
              rising =
                  λ a b h g q.
                  by_cases (ℕ_discrete b i)
                  (λ e. subst (λ (z : ℕ). get_or ss a 0 < get_or ss z 0) (sym e) (below a h (omega arith)))
                  (λ e. s.roots.rising a b h g (omega arith));
              place = each (At p k) (record { within = t.within; low = t.low }) s.roots.place;
              fixed = each (λ y. cs.root y ≡ y) root-r s.roots.fixed;
              free = each (λ y. several_state ≤ cs.st y) free-r s.roots.free;
            };
        named =
            λ j h g.
            by_cases (ℕ_discrete j i)
            (λ e. put_same cs.marks r (node_state i) (get_or ss j 0) (ap (λ (z : ℕ). get_or ss z 0) e) ∙ ap (λ (z : ℕ). node_state z) (sym e))
            (λ e.
            let q = below j h (omega arith) in
            put_other cs.marks r (node_state i) (get_or ss j 0) (λ z. omega (arith, q, z)) ∙ s.named j h (omega arith));
        either =
            λ y b q.
            by_cases (ℕ_discrete y r)
            (λ e. inl (record { at = i; from = s.roots.order; to = omega arith; is = sym e }))
            (λ e.
            ⊎_elim
            (λ z. let to = z.to in inl (record { at = z.at; from = z.from; to = omega arith; is = z.is }))
            (λ z. inr (put_other cs.marks r (node_state i) y e ∙ z))
            (s.either y b q));
      })
    where
      r : ℕ
      r = get_or ss i 0

      inside : get_or ss i 0 < length l
      inside = let a = t.within in let b = cs.size in omega arith

      root-r : cs.root (get_or ss i 0) ≡ get_or ss i 0
      root-r = cs.forest.top (get_or ss i 0) inside (let a = t.free in omega arith)

      new-r : several_state ≤ cs.marks (get_or ss i 0)
      new-r = let a = t.free in let b = cs.forest.state (get_or ss i 0) inside (omega arith) in omega arith

      free-r : several_state ≤ cs.st (get_or ss i 0)
      free-r =
          let a = new-r in
          ⊎_elim
          (λ z.
          absurd
          (let b = s.named z.at z.from z.to in let e = ap cs.marks z.is in let to = z.to in omega arith))
          (λ z. omega arith)
          (s.either (get_or ss i 0) t.within root-r)

      below : (a : ℕ) → c ≤ a → a < i → get_or ss a 0 < get_or ss i 0
      below a h g =
          let q = t.above (omega arith) in
          by_cases (ℕ_discrete a (i - 1))
          (λ e. subst (λ (z : ℕ). get_or ss z 0 < get_or ss i 0) (sym e) q)
          (λ e. let o = s.roots.rising a (i - 1) h (omega arith) (omega arith) in omega arith)

      each : (P : ℕ → Type 0) → P (get_or ss i 0) → ((j : ℕ) → c ≤ j → j < i → P (get_or ss j 0)) → (j : ℕ) → c ≤ j → j < suc i → P (get_or ss j 0)
      each P a f j h g =
          by_cases (ℕ_discrete j i) (λ e. subst (λ (z : ℕ). P (get_or ss z 0)) (sym e) a) (λ e. f j h (omega arith))

  module _ (d count : ℕ) (hs : List ℕ) (run : SameHeights k c d count hs) (below : i < d) (tree : HoldsTree p count hs fs ss m) where
    number : i < length (nodes p)
    number = let a = run.most in let b = tree.total in omega arith

    height-is : (j : ℕ) → c ≤ j → j < d → (node_at p j).height ≡ k
    height-is j h g =
        sym (tree.heights j (let a = run.most in let b = tree.total in omega arith)) ∙ run.same j h g

    first-is : (j : ℕ) → j < d → get_or ss j 0 ≡ (node_at p j).first
    first-is j g = tree.firsts j (let a = run.most in let b = tree.total in omega arith)

    -- the tree's own first place passes the tests
    pub tree-fits : NodeFits p k c i l ss
    tree-fits =
        let n = node-is p i number in
        let hk = height-is i s.roots.order below in
        let fi = first-is i below in
        let at : At p k (get_or ss i 0) =
        subst (λ (y : ℕ). At p k y) (sym fi) (subst (λ (j : ℕ). At p j (node_at p i).first) hk n.place) in
        let first : first_at p k (get_or ss i 0) ≡ get_or ss i 0 =
        ap (first_at p k) fi ∙ (ap (λ (j : ℕ). first_at p j (node_at p i).first) (sym hk) ∙ (n.first ∙ sym fi)) in
        let fork : is_branch p k (component_at p k (get_or ss i 0)) ≡ false =
        ap (λ (y : ℕ). is_branch p k (component_at p k y)) fi ∙
        (ap (λ (j : ℕ). is_branch p j (component_at p j (node_at p i).first)) (sym hk) ∙ n.fork) in
        let root = root-first p k c cs.root cs.st s.fa cs.joined (get_or ss i 0) at ∙ first in
        let free = fork-free p k c cs.root cs.st s.fa cs.joined (get_or ss i 0) at fork root in
        record {
          within = at.within;
          low = at.low;
          above = λ h. rises (i - 1) (omega arith) (omega arith);
          free = cell at root free;
        }
      where
        rises : (j : ℕ) → c ≤ j → j < i → get_or ss j 0 < get_or ss i 0
        rises j h g =
            let a = firsts-rise p j i g number (height-is j h (omega arith) ∙ sym (height-is i s.roots.order below)) in
            let b = first-is j (omega arith) in
            let e = first-is i below in
            omega arith

        cell : At p k (get_or ss i 0) → cs.root (get_or ss i 0) ≡ get_or ss i 0 → several_state ≤ cs.st (get_or ss i 0) → several_state ≤ get_or l (get_or ss i 0) 0
        cell at r f =
            let inside : get_or ss i 0 < length l = let a = at.within in let b = cs.size in omega arith in
            let e = cs.forest.state (get_or ss i 0) inside (root-cell cs.forest (get_or ss i 0) inside r) in
            ⊎_elim
            (λ z. absurd (let g = rises z.at z.from z.to in let h = z.is in omega arith))
            (λ z. omega arith)
            (s.either (get_or ss i 0) at.within r)
