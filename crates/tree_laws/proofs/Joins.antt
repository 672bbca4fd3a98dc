-- The pixels of one height join the classes, a place and a neighbour at a time.
use mathlib.Core.Path.{◌≡◌, refl, sym, ap, subst, ◌∙◌}
use mathlib.Core.Logic.{◌⊎◌, inl, inr, ⊎_elim, by_cases, ◌≢◌, ⊎_swap}
use mathlib.Core.List.{List}
use Prim.Native.Nat.{ℕ, suc, ◌≤◌, ◌<◌}
use native.Mathlib.Decide.{ℕ_discrete}
use native.Mathlib.Omega.{arith}
use lib.ListN.{length, get_or, set, length-set}
use Rattle.picture.specs.Pictures.{Picture, places, value_at}
use Rattle.picture.specs.Geometry.{neighbours_in}
use Rattle.picture.specs.Trees.{nodes, node_at, father_of, map_of}
use Rattle.picture.proofs.Neighbours.{neighbour-at, neighbour-index}
use Rattle.topology.proofs.Connected.{conn-source, conn-target, conn-trans, conn-edge}
use Rattle.topology.proofs.Adjacency.{Adj, At, Joined, adj-sym, joined-sym}
use Rattle.topology.proofs.Accepted.{Accepted, byte_at, places-bound}
use Rattle.topology.proofs.Nodes.{nodes-few}
use Rattle.tree_laws.proofs.Beneath.{Low, beneath, beneath-number}
use Rattle.lists.proofs.Updates.{put}
use Rattle.tree_laws.proofs.Levels.{relink, relink-moved, relink-kept, relink-same, State, nothing, single, several, Upto, upto_before, edges-lower, Merged, merged-exchange, met, met-number, linked}
use Rattle.tree_laws.proofs.Forests.{Forest, Found, found-root, root-cell, Ordered, ordered-less, in_order, forest-link}
use Rattle.tree_laws.proofs.Marks.{Names}
use Rattle.tree_laws.proofs.Classes.{Classes, classes-cells, classes-found}
use Rattle.tree_laws.proofs.States.{first_node, node_state, several_state, nothing_state}

-- x, with the root r, is joined to the first j of its neighbours
pub record Near (p : Picture) (k x j r : ℕ) (l : List ℕ) (fa : ℕ → ℕ) : Type 0 where
  pub classes : Classes p k x l fa
  pub low : k ≤ 255
  pub within : x < places p
  pub value : value_at p x ≡ k
  pub is : classes.root x ≡ r
  pub seen : (i : ℕ) → i < j → Upto p k x (get_or (neighbours_in p x) i 0) → classes.root (get_or (neighbours_in p x) i 0) ≡ classes.root x

-- y is the neighbour j of x
pub record Edge (p : Picture) (x j y : ℕ) : Type 0 where
  pub listed : j < length (neighbours_in p x)
  pub is : y ≡ get_or (neighbours_in p x) j 0

-- what the link of two roots at x asks
pub record Linkable (x q r : ℕ) (l : List ℕ) : Type 0 where
  pub few : length l ≤ 1600
  pub place : x < length l
  pub in-q : q < length l
  pub in-r : r < length l
  pub name-q : Names (length l) (get_or l q 0)
  pub name-r : Names (length l) (get_or l r 0)

module _ (p : Picture) (ok : Accepted p) (k x : ℕ) where
  pub edge-touch : (j y : ℕ) → Edge p x j y → (y < places p) × Adj p x y
  edge-touch j y e =
      subst (λ (z : ℕ). (z < places p) × Adj p x z) (sym e.is) (neighbour-at p x j e.listed)

  pub edge-within : (j y : ℕ) (pixels l : List ℕ) → Edge p x j y → p.pixels ≡ pixels → length l ≡ places p → (y < length pixels) × (y < length l)
  edge-within j y pixels l e is cells =
      let (b, t) = edge-touch j y e in
      let size = ok.size in
      let same = ap length is in
      (omega arith, omega arith)

  pub near-start : (r : ℕ) (l m : List ℕ) (fa : ℕ → ℕ) → Classes p k x l fa → x < places p → value_at p x ≡ k → Found l x r m → Near p k x 0 r m fa
  near-start r l m fa c b v f =
      record {
        classes = classes-found p k x l fa c f;
        low = let h = byte_at p.pixels ok.bytes x in omega arith;
        within = b;
        value = v;
        is = found-root f c.forest;
        seen = λ i h. absurd (omega arith);
      }

  -- all neighbours: the edges of x are done
  pub near-end : (r : ℕ) (l : List ℕ) (fa : ℕ → ℕ) → Near p k x (length (neighbours_in p x)) r l fa → Classes p k (suc x) l fa
  near-end r l fa n =
      let c = n.classes in
      record {
        root = c.root;
        st = c.st;
        size = c.size;
        forest = c.forest;
        level = c.level;
        edges =
            record {
              same =
                  λ y z a b t.
                  by_cases (ℕ_discrete y x)
                  (λ e.
                  by_cases (ℕ_discrete z x)
                  (λ g. ap c.root (e ∙ sym g))
                  (λ g. ap c.root e ∙ sym (done z (upto_before p k x z g b) (subst (λ (u : ℕ). Adj p u z) e t))))
                  (λ d.
                  by_cases (ℕ_discrete z x)
                  (λ g. done y (upto_before p k x y d a) (adj-sym p y x (subst (λ (u : ℕ). Adj p y u) g t)) ∙ ap c.root (sym g))
                  (λ g. c.edges.same y z (upto_before p k x y d a) (upto_before p k x z g b) t));
            };
      }
    where
      done : (y : ℕ) → Upto p k x y → Adj p x y → n.classes.root y ≡ n.classes.root x
      done y u t =
          let (i, b, e) = neighbour-index p x y ok.some u.within t in
          ap n.classes.root (sym e) ∙ n.seen i b (subst (Upto p k x) (sym e) u)

  module _ (j r : ℕ) (l : List ℕ) (fa : ℕ → ℕ) (n : Near p k x j r l fa) where
    abbrev cs : Classes p k x l fa
    cs = n.classes

    seen_next : (new : ℕ → ℕ) → ((y z : ℕ) → cs.root y ≡ cs.root z → new y ≡ new z) → (y : ℕ) → Edge p x j y → (Upto p k x y → new y ≡ new x) →
        (i : ℕ) → i < suc j → Upto p k x (get_or (neighbours_in p x) i 0) → new (get_or (neighbours_in p x) i 0) ≡ new x
    seen_next new same y e f i b u =
        by_cases (ℕ_discrete i j)
        (λ q.
        let g : get_or (neighbours_in p x) i 0 ≡ y = ap (λ (a : ℕ). get_or (neighbours_in p x) a 0) q ∙ sym e.is in
        ap new g ∙ f (subst (Upto p k x) g u))
        (λ d. same (get_or (neighbours_in p x) i 0) x (n.seen i (omega arith) u))

    -- the next neighbour is still to come or has the same root
    near_next : (m : List ℕ) → length m ≡ length l → Forest m cs.root cs.st → (y : ℕ) → Edge p x j y → (Upto p k x y → cs.root y ≡ cs.root x) → Near p k x (suc j) r m fa
    near_next m size forest y e f =
        record {
          classes = classes-cells p k x l fa cs m size forest;
          low = n.low;
          within = n.within;
          value = n.value;
          is = n.is;
          seen = seen_next cs.root (λ a b q. q) y e f;
        }

    pub near-skip : (y : ℕ) → Edge p x j y → (Upto p k x y → ⊥) → Near p k x (suc j) r l fa
    near-skip y e d = near_next l refl cs.forest y e (λ u. absurd (d u))

    -- a root's cell is a state
    near-names : (m : List ℕ) → length m ≡ length l → Forest m cs.root cs.st → (y : ℕ) → At p k y → cs.root y ≡ y → Names (length m) (get_or m y 0)
    near-names m size forest y s e =
        let b : y < length m = let a = s.within in let g = cs.size in omega arith in
        let h = root-cell forest y b e in
        let t = forest.state y b h in
        record { root = h; node = λ q. by (cs.level.state y s e) t q }
      where
        by : State p k cs.root y (cs.st y) → get_or m y 0 ≡ cs.st y → get_or m y 0 < several_state → get_or m y 0 < node_state (length m)
        by (nothing a f) t q = absurd (omega arith)
        by (several z w a c d f g h) t q = absurd (omega arith)
        by (single z c d a f) t q =
            let g = beneath-number p k z (let h = n.low in omega arith) c in
            let h = nodes-few p in
            let i = cs.size in
            omega arith

    at_x : At p k x
    at_x = record { within = n.within; low = let v = n.value in omega arith }

    module _ (y : ℕ) (u : Upto p k x y) (t : Adj p x y) where
      at_y : At p k y
      at_y = record { within = u.within; low = ⊎_elim (λ h. omega arith) (λ h. let g = h.0 in omega arith) u.passed }

      module _ {m : List ℕ} {q : ℕ} (f : Found l y q m) where
        root-of-y : cs.root y ≡ q
        root-of-y = found-root f cs.forest

        forest : Forest m cs.root cs.st
        forest = f.walked.keeps cs.root cs.st cs.forest

        root-q : cs.root q ≡ q
        root-q = subst (λ (a : ℕ). cs.root a ≡ a) root-of-y (cs.level.fixed y u.within)

        root-r : cs.root r ≡ r
        root-r = subst (λ (a : ℕ). cs.root a ≡ a) n.is (cs.level.fixed x n.within)

        joined-q : Joined p k x q
        joined-q = subst (Joined p k x) root-of-y (conn-trans (conn-edge at_x t at_y) (cs.level.own y at_y))

        joined-r : Joined p k x r
        joined-r = subst (Joined p k x) n.is (cs.level.own x at_x)

        pub near_same : Edge p x j y → q ≡ r → Near p k x (suc j) r m fa
        near_same e g = near_next m f.walked.size forest y e (λ h. root-of-y ∙ (g ∙ sym n.is))

        pub near-linkable : Linkable x q r m
        near-linkable =
            let size = f.walked.size in
            let same = cs.size in
            let most = places-bound p ok in
            let within = n.within in
            let in-q = (conn-target joined-q).within in
            let in-r = (conn-target joined-r).within in
            record {
              few = omega arith;
              place = omega arith;
              in-q = omega arith;
              in-r = omega arith;
              name-q = near-names m f.walked.size forest q (conn-target joined-q) root-q;
              name-r = near-names m f.walked.size forest r (conn-target joined-r) root-r;
            }

        -- the two roots, the smaller first
        module _ {lo hi : ℕ} (o : Ordered q r lo hi) where
          less : lo < hi
          less = ordered-less o

          roots : (cs.root lo ≡ lo) × (cs.root hi ≡ hi)
          roots = in_order (λ a b. (cs.root a ≡ a) × (cs.root b ≡ b)) (λ a b h. (h.1, h.0)) o (root-q, root-r)

          ends : Joined p k x lo × Joined p k x hi
          ends = in_order (λ a b. Joined p k x a × Joined p k x b) (λ a b h. (h.1, h.0)) o (joined-q, joined-r)

          joined : Joined p k lo hi
          joined = conn-trans (joined-sym p k ends.0) ends.1

          hi-in : hi < length m
          hi-in = let b = (conn-target joined).within in let g = cs.size in omega (arith, b, g, f.walked.size)

          small : lo < first_node
          small = let b = (conn-source joined).within in let g = places-bound p ok in omega arith

          state : (a : ℕ) → a < length m → cs.root a ≡ a → get_or m a 0 ≡ cs.st a
          state a b e = forest.state a b (root-cell forest a b e)

          lo-state : get_or m lo 0 ≡ cs.st lo
          lo-state = state lo (omega (arith, hi-in, less)) roots.0

          hi-state : get_or m hi 0 ≡ cs.st hi
          hi-state = state hi hi-in roots.1

          -- both places have the root lo now
          now : (z : ℕ) → (cs.root z ≡ q) ⊎ (cs.root z ≡ r) → relink cs.root lo hi z ≡ lo
          now z e =
              ⊎_elim (λ h. relink-kept cs.root lo hi z (λ g. omega (arith, less)) ∙ h) (λ h. relink-moved cs.root lo hi z h)
              (in_order (λ a b. (cs.root z ≡ a) ⊎ (cs.root z ≡ b)) (λ a b. ⊎_swap) o e)

          lower : (z w : ℕ) → Low p k z → Low p k w → beneath p k z ≡ beneath p k w → cs.root z ≡ cs.root w
          lower = edges-lower p k x cs.root (let h = n.low in omega arith) cs.edges

          -- the father of a node that one of the two roots says
          pub near-met :
              (i : ℕ) → i < 1600 → get_or m q 0 ≢ nothing_state → get_or m r 0 ≢ nothing_state → (get_or m q 0 ≡ node_state i) ⊎ (get_or m r 0 ≡ node_state i) →
              (i < length (nodes p)) × (father_of p (node_at p i) ≡ map_of p x)
          near-met i b dq dr e =
              let (da, db) = in_order (λ a b. (get_or m a 0 ≢ nothing_state) × (get_or m b 0 ≢ nothing_state)) (λ a b h. (h.1, h.0)) o (dq, dr) in
              let g : (cs.st lo ≡ node_state i) ⊎ (cs.st hi ≡ node_state i) =
              ⊎_elim (λ h. inl (sym lo-state ∙ h)) (λ h. inr (sym hi-state ∙ h))
              (in_order (λ a b. (get_or m a 0 ≡ node_state i) ⊎ (get_or m b 0 ≡ node_state i)) (λ a b. ⊎_swap) o e)
              in (
                met-number p ok k n.low x lo hi cs.root cs.st fa cs.level lower less roots.0 roots.1 joined ends.0 n.value i b g,
                met p ok k n.low x lo hi cs.root cs.st fa cs.level lower less roots.0 roots.1 joined ends.0 n.value i b
                    (λ h. da (lo-state ∙ h)) (λ h. db (hi-state ∙ h)) g,
              )

          -- the two roots are linked
          pub near-linked :
              (s : ℕ) (fb : ℕ → ℕ) → first_node ≤ s → Merged x (get_or m q 0) (get_or m r 0) s fa fb → Edge p x j y →
              Near p k x (suc j) lo (set (set m hi lo) lo s) fb
          near-linked s fb big merged e =
              record {
                classes =
                    record {
                      root = relink cs.root lo hi;
                      st = put cs.st lo s;
                      size = length-set (set m hi lo) lo s ∙ (length-set m hi lo ∙ (f.walked.size ∙ cs.size));
                      forest = forest-link m lo hi s cs.root cs.st forest less hi-in small roots.0 roots.1 big;
                      level =
                          linked p ok k n.low x lo hi cs.root cs.st fa cs.level lower
                          less roots.0 roots.1 joined ends.0 n.value s fb
                          (subst (λ (a : ℕ). Merged x a (cs.st hi) s fa fb) lo-state
                          (subst (λ (a : ℕ). Merged x (get_or m lo 0) a s fa fb) hi-state
                          (in_order (λ a b. Merged x (get_or m a 0) (get_or m b 0) s fa fb) (λ a b. merged-exchange) o merged)));
                      edges = record { same = λ a b c d g. relink-same cs.root lo hi a b (cs.edges.same a b c d g) };
                    };
                low = n.low;
                within = n.within;
                value = n.value;
                is = now x (inr n.is);
                seen = seen_next (relink cs.root lo hi) (relink-same cs.root lo hi) y e (λ h. now y (inl root-of-y) ∙ sym (now x (inr n.is)));
              }
