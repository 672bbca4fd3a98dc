-- The listed roots get their numbers, and the pixels of the height their nodes.
use mathlib.Core.Path.{◌≡◌, refl, sym, ap, subst, ◌∙◌}
use mathlib.Core.Logic.{⊎_elim, by_cases, ◌≢◌}
use mathlib.Core.List.{List}
use Prim.Native.Nat.{ℕ, suc, ◌+◌, ◌*◌, ◌≤◌, ◌<◌}
use native.Mathlib.Decide.{ℕ_discrete, dec_lt}
use native.Mathlib.Omega.{arith}
use lib.ListN.{length, get_or, set, length-set}
use lib.Seq.{get_or-set_same, get_or-set_other}
use Rattle.picture.specs.Pictures.{Picture, places}
use Rattle.picture.specs.Trees.{Node, node_at}
use Rattle.topology.proofs.Adjacency.{At}
use Rattle.topology.proofs.Accepted.{Accepted}
use Rattle.topology.proofs.Descent.{under}
use Rattle.lists.proofs.Updates.{put, put_same, put_other}
use Rattle.tree_laws.proofs.Counts.{so_far}
use Rattle.tree_laws.proofs.NewRoots.{Member, RootsListed, number-new, count_next, count-few}
use Rattle.tree_laws.proofs.Numbering.{Numbered, next_level, named-all, edges-next}
use Rattle.tree_laws.proofs.Classes.{Classes, MarkedClasses, marks-set}
use Rattle.tree_laws.proofs.Chains.{fathers_in, map_in, NextOfValue, Chained, after-mono, chained_same, upto_skip}
use Rattle.tree_laws.proofs.Listing.{firsts_in, NodesIn, Listing, list-end}
use Rattle.tree_laws.proofs.States.{node_state}

-- the listed roots from c on, before i, have their numbers; w is the work before
pub record Naming (p : Picture) (k c d i : ℕ) (l w v : List ℕ) : Type 0 where
  pub cells : MarkedClasses p k c l (fathers_in p w)
  pub room : length v ≡ 4 * places p
  pub nodes : NodesIn p c w
  pub chained : Chained p k 0 (map_in p w)
  pub listed : RootsListed p k c d (firsts_in p w) cells.root cells.st
  pub named : (j : ℕ) → c ≤ j → j < i → cells.marks (firsts_in p w j) ≡ node_state j
  pub others : (y : ℕ) → y < places p → cells.root y ≡ y → (Member (firsts_in p w) c d y → ⊥) → cells.marks y ≡ cells.st y
  pub heights : (j : ℕ) → c ≤ j → j < i → get_or v j 0 ≡ k
  pub fresh : (j : ℕ) → c ≤ j → j < i → get_or v (places p + j) 0 ≡ 65535
  pub rest : (j : ℕ) → (c ≤ j → d ≤ j) → (places p + c ≤ j → places p + d ≤ j) → get_or v j 0 ≡ get_or w j 0

-- the nodes up to height k are numbered, and the pixels of height k before x have theirs
pub record Mapping (p : Picture) (k d x : ℕ) (l w : List ℕ) : Type 0 where
  pub ok : Accepted p
  pub room : length w ≡ 4 * places p
  pub low : k ≤ 255
  pub count : d ≡ so_far p (suc k)
  pub nodes : NodesIn p d w
  pub classes : Classes p (suc k) 0 l (fathers_in p w)
  pub says : (y : ℕ) → At p k y → classes.st (classes.root y) ≡ node_state (under p k y)
  pub chained : Chained p k x (map_in p w)

module _ (p : Picture) (k c d : ℕ) where
  pub naming-start : (x : ℕ) (l w : List ℕ) → Listing p k c d x l w → places p ≤ x → Naming p k c d c l w w
  naming-start x l w s h =
      record {
        cells = s.cells;
        room = s.room;
        nodes = s.nodes;
        chained = s.chained;
        listed = list-end p k c d x l w s h;
        named = λ j a b. absurd (omega arith);
        others = λ y a b g. ⊎_elim (λ t. absurd (g t)) (λ t. t) (s.either y a b);
        heights = λ j a b. absurd (omega arith);
        fresh = λ j a b. absurd (omega arith);
        rest = λ j a b. refl;
      }

  -- the end of the list is within the nodes
  pub naming-few : (i : ℕ) (l w v : List ℕ) → Naming p k c d i l w v → d ≤ places p
  naming-few i l w v s = let cs = s.cells in count-few p k c cs.root cs.st (fathers_in p w) cs.joined d (firsts_in p w) s.listed

  -- the list is not touched
  naming-first : (i : ℕ) (l w v : List ℕ) → Naming p k c d i l w v → (j : ℕ) → j < places p → firsts_in p v j ≡ firsts_in p w j
  naming-first i l w v s j h =
      let few = naming-few i l w v s in
      s.rest (3 * places p + j) (λ a. omega arith) (λ a. omega arith)

  pub naming-turn :
      (i r : ℕ) (l w v : List ℕ) → Naming p k c d i l w v → c ≤ i → i < d → r ≡ firsts_in p v i →
      Naming p k c d (i + 1) (set l r (node_state i)) w (set (set v i k) (places p + i) 65535)
  naming-turn i r l w v s a b e =
      record {
        cells = cells';
        room = length-set (set v i k) (places p + i) 65535 ∙ (length-set v i k ∙ s.room);
        nodes = s.nodes;
        chained = s.chained;
        listed = s.listed;
        named =
            λ j g h.
            by_cases (ℕ_discrete j i)
            (λ q. own (firsts_in p w j) (ap (firsts_in p w) q ∙ sym is-r) ∙ ap (λ (z : ℕ). node_state z) (sym q))
            (λ q. other (firsts_in p w j) (λ z. differ j g (omega arith) (z ∙ is-r)) ∙ s.named j g (omega arith));
        others = λ y g h t. other y (λ q. t (record { at = i; from = a; to = b; is = sym (q ∙ is-r) })) ∙ s.others y g h t;
        heights =
            λ j g h.
            by_cases (ℕ_discrete j i)
            (λ q. cell-far j (omega (arith, few)) ∙ (ap (λ (z : ℕ). get_or (set v i k) z 0) q ∙ get_or-set_same v i k 0 (omega (arith, few, s.room))))
            (λ q. cell-far j (omega (arith, few)) ∙ (get_or-set_other v i j k 0 q ∙ s.heights j g (omega arith)));
        fresh =
            λ j g h.
            by_cases (ℕ_discrete j i)
            (λ q.
            ap (λ (z : ℕ). get_or (set (set v i k) (places p + i) 65535) (places p + z) 0) q ∙
            get_or-set_same (set v i k) (places p + i) 65535 0 (let z = length-set v i k in omega (arith, few, s.room)))
            (λ q.
            get_or-set_other (set v i k) (places p + i) (places p + j) 65535 0 (λ z. q (omega arith)) ∙
            (get_or-set_other v i (places p + j) k 0 (λ z. omega (arith, few)) ∙ s.fresh j g (omega arith)));
        rest =
            λ j g h.
            get_or-set_other (set v i k) (places p + i) j 65535 0 (λ z. let q = h (omega arith) in omega arith) ∙
            (get_or-set_other v i j k 0 (λ z. let q = g (omega arith) in omega arith) ∙ s.rest j g h);
      }
    where
      few : d ≤ places p
      few = naming-few i l w v s

      is-r : r ≡ firsts_in p w i
      is-r = e ∙ naming-first i l w v s i (omega (arith, few))

      cells' : MarkedClasses p k c (set l r (node_state i)) (fathers_in p w)
      cells' =
          marks-set p k c l (fathers_in p w) s.cells r (node_state i)
          (subst (λ (z : ℕ). z < places p) (sym is-r) (s.listed.roots.place i a b).within)
          (ap s.cells.root is-r ∙ (s.listed.roots.fixed i a b ∙ sym is-r))
          (omega arith)

      own : (y : ℕ) → y ≡ r → put s.cells.marks r (node_state i) y ≡ node_state i
      own y q = put_same s.cells.marks r (node_state i) y q

      other : (y : ℕ) → y ≢ r → put s.cells.marks r (node_state i) y ≡ s.cells.marks y
      other y q = put_other s.cells.marks r (node_state i) y q

      differ : (j : ℕ) → c ≤ j → j < i → firsts_in p w j ≢ firsts_in p w i
      differ j g h q = let o = s.listed.roots.rising j i g h b in omega arith

      cell-far : (j : ℕ) → j < places p → get_or (set (set v i k) (places p + i) 65535) j 0 ≡ get_or (set v i k) j 0
      cell-far j h = get_or-set_other (set v i k) (places p + i) j 65535 0 (λ z. omega arith)

  module _ (l w v : List ℕ) (s : Naming p k c d d l w v) where
    abbrev cs : MarkedClasses p k c l (fathers_in p w)
    cs = s.cells

    few : d ≤ places p
    few = naming-few d l w v s

    same : (y : ℕ) → y < places p → map_in p v y ≡ map_in p w y
    same y h = s.rest (2 * places p + y) (λ a. omega (arith, few)) (λ a. omega (arith, few))

    new-node : (i : ℕ) → c ≤ i → i < d → node_at p i ≡ record { height = k; first = firsts_in p w i }
    new-node i a b = number-new p k c cs.root cs.st (fathers_in p w) cs.joined d (firsts_in p w) s.listed i a b

    numbered : Numbered p c d (firsts_in p w) cs.root cs.st cs.marks (fathers_in p w) (fathers_in p v)
    numbered =
        record {
          named = s.named;
          others = s.others;
          fresh = s.fresh;
          old = λ i h. s.rest (places p + i) (λ a. omega (arith, few, s.listed.roots.order)) (λ a. omega (arith, few));
        }

    heights : (i : ℕ) → i < d → get_or v i 0 ≡ (node_at p i).height
    heights i h =
        by_cases (dec_lt i c)
        (λ g. s.rest i (λ a. absurd (omega arith)) (λ a. omega (arith, few)) ∙ s.nodes.heights i g)
        (λ g. s.heights i (omega arith) h ∙ sym (ap (λ (n : Node). n.height) (new-node i (omega arith) h)))

    firsts : (i : ℕ) → i < d → firsts_in p v i ≡ (node_at p i).first
    firsts i h =
        naming-first d l w v s i (omega (arith, few)) ∙
        by_cases (dec_lt i c)
        (λ g. s.nodes.firsts i g)
        (λ g. sym (ap (λ (n : Node). n.first) (new-node i (omega arith) h)))

    pub naming-end : (x : ℕ) → NextOfValue p k 0 x → Mapping p k d x l v
    naming-end x n =
        record {
          ok = cs.joined.ok;
          room = s.room;
          low = cs.joined.low;
          count = count_next p k c cs.root cs.st (fathers_in p w) cs.joined d (firsts_in p w) s.listed;
          nodes = record { heights = heights; firsts = firsts };
          classes =
              record {
                root = cs.root;
                st = cs.marks;
                size = cs.size;
                forest = cs.forest;
                level =
                    next_level p k c cs.root cs.st (fathers_in p w) cs.joined d (firsts_in p w) s.listed
                    cs.marks (fathers_in p v) numbered;
                edges = edges-next p k cs.root cs.joined.edges;
              };
          says =
              named-all p k c cs.root cs.st (fathers_in p w) cs.joined d (firsts_in p w) s.listed
              cs.marks (fathers_in p v) numbered;
          chained =
              chained_same p k x (map_in p w) (map_in p v) same
              (record {
                mapped = λ y u. s.chained.mapped y (upto_skip p k 0 x y n u);
                linked = λ y a. s.chained.linked y (after-mono (omega arith) a);
              });
        }
