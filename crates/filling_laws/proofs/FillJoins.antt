-- The pixels of one height join the classes for filling, a place and a neighbour at a time; then the large classes are settled.
use mathlib.Core.Path.{◌≡◌, refl, sym, ap, subst, ◌∙◌}
use mathlib.Core.Logic.{◌⊎◌, inl, inr, ⊎_elim, by_cases, ◌≢◌, ⊎_swap}
use mathlib.Core.List.{List}
use Prim.Native.Nat.{ℕ, suc, ◌+◌, ◌≤◌, ◌<◌}
use native.Mathlib.Decide.{ℕ_discrete, dec_lt}
use native.Mathlib.Omega.{arith}
use lib.ListN.{length, get_or, set, length-set}
use Rattle.picture.specs.Pictures.{Picture, places, value_at}
use Rattle.picture.specs.Geometry.{neighbours_in}
use Rattle.picture.proofs.Neighbours.{neighbour-index}
use Rattle.topology.proofs.Connected.{conn-source, conn-target, conn-trans, conn-edge}
use Rattle.topology.proofs.Adjacency.{Adj, At, Joined, adj-sym, joined-sym}
use Rattle.topology.proofs.Accepted.{Accepted, byte_at, places-bound}
use Rattle.lists.proofs.Updates.{put, put_same, put_other}
use Rattle.tree_laws.proofs.Levels.{Upto, upto_before, relink, relink-moved, relink-kept, relink-same}
use Rattle.tree_laws.proofs.Forests.{Forest, Found, found-root, root-cell, Ordered, ordered-less, in_order, forest-link, forest-state}
use Rattle.tree_laws.proofs.States.{first_node}
use Rattle.tree_laws.proofs.Joins.{Edge}
use Rattle.topology.proofs.Filled.{Large, large-joined}
use Rattle.filling_laws.proofs.FillLevels.{count_state, first_settled, Fills, FillEdges, fill-edges-upto, fills-start, edges-start, pixel-counted, settled-large}
use Rattle.filling_laws.proofs.FillLinks.{edges-stated, fills-touched, Together, together-exchange, fills-linked, edges-linked}

-- the cells hold the classes at height k, settled ones filled below b, with the neighbours up to x joined
pub record FillClasses (p : Picture) (s k b x : ℕ) (l : List ℕ) : Type 0 where
  pub root : ℕ → ℕ
  pub st : ℕ → ℕ
  pub size : length l ≡ places p
  pub forest : Forest l root st
  pub fills : Fills p s k b root st
  pub edges : FillEdges p s k x root st

-- a picture and a size that are not refused
pub record FillAsked (p : Picture) (s : ℕ) : Type 0 where
  pub ok : Accepted p
  pub some : 1 ≤ s
  pub few : s ≤ places p

pub asked-few : {p : Picture} {s : ℕ} → FillAsked p s → s ≤ 1600
asked-few {p} a = let b = places-bound p a.ok in let c = a.few in omega arith

-- before the first height every place is alone
pub fill_start : (p : Picture) (s : ℕ) (l : List ℕ) → FillAsked p s → length l ≡ places p → ((y : ℕ) → y < length l → get_or l y 0 ≡ count_state 1) → FillClasses p s 0 0 0 l
fill_start p s l a size cell =
    record {
      root = λ y. y;
      st = λ y. count_state 1;
      size = size;
      forest =
          record {
            below = λ y b. omega arith;
            parents = record { less = λ y b h. absurd (let c = cell y b in omega arith) };
            up = λ y b h. absurd (let c = cell y b in omega arith);
            top = λ y b h. refl;
            state = λ y b h. cell y b;
          };
      fills = fills-start p a.ok s a.some;
      edges = edges-start p a.ok s a.some (λ y. y) (λ y. count_state 1);
    }

-- other cells of the same forest
abbrev pub fill-cells : (p : Picture) (s k b x : ℕ) (l m : List ℕ) (c : FillClasses p s k b x l) → length m ≡ length l → Forest m c.root c.st → FillClasses p s k b x m
fill-cells p s k b x l m c size forest =
    record { root = c.root; st = c.st; size = size ∙ c.size; forest = forest; fills = c.fills; edges = c.edges }

pub fill-upto : (p : Picture) (s k b a x : ℕ) (l : List ℕ) → ((y : ℕ) → Upto p k x y → Upto p k a y) → FillClasses p s k b a l → FillClasses p s k b x l
fill-upto p s k b a x l f c =
    record {
      root = c.root;
      st = c.st;
      size = c.size;
      forest = c.forest;
      fills = c.fills;
      edges = fill-edges-upto p s k a x c.root c.st f c.edges;
    }

-- what the code sees of the root q of a neighbour and of the root r of the place that joins it
pub record RootsSeen (q r : ℕ) (l : List ℕ) : Type 0 where
  pub few : length l ≤ 1600
  pub other-within : q < length l
  pub own-within : r < length l
  pub other-state : count_state 0 ≤ get_or l q 0
  pub own-state : count_state 0 ≤ get_or l r 0
  pub own-counted : get_or l r 0 < first_settled

-- the neighbour y of x is in its class, or is settled, and then the class of x counts s
pub data Seen (s : ℕ) (root st : ℕ → ℕ) (x y : ℕ) : Type 0 where
  joined : root y ≡ root x → Seen s root st x y
  touched : first_settled ≤ st (root y) → st (root x) ≡ count_state s → Seen s root st x y

-- x, with the root r, is joined to the first j of its neighbours
pub record FillNear (p : Picture) (s k x j r : ℕ) (l : List ℕ) : Type 0 where
  pub classes : FillClasses p s k k x l
  pub low : k ≤ 255
  pub within : x < places p
  pub value : value_at p x ≡ k
  pub is : classes.root x ≡ r
  pub seen : (i : ℕ) → i < j → Upto p k x (get_or (neighbours_in p x) i 0) → Seen s classes.root classes.st x (get_or (neighbours_in p x) i 0)

module _ (p : Picture) (s : ℕ) (a : FillAsked p s) (k x : ℕ) where
  pub fill-near-start : (r : ℕ) (l m : List ℕ) → FillClasses p s k k x l → x < places p → value_at p x ≡ k → Found l x r m → FillNear p s k x 0 r m
  fill-near-start r l m c b v f =
      record {
        classes = fill-cells p s k k x l m c f.walked.size (f.walked.keeps c.root c.st c.forest);
        low = let h = byte_at p.pixels a.ok.bytes x in omega arith;
        within = b;
        value = v;
        is = found-root f c.forest;
        seen = λ i h. absurd (omega arith);
      }

  -- all neighbours: the edges of x are done
  pub fill-near-end : (r : ℕ) (l : List ℕ) → FillNear p s k x (length (neighbours_in p x)) r l → FillClasses p s k k (suc x) l
  fill-near-end r l n =
      let c = n.classes in
      record {
        root = c.root;
        st = c.st;
        size = c.size;
        forest = c.forest;
        fills = c.fills;
        edges =
            record {
              same =
                  λ y z u w t h.
                  by_cases (ℕ_discrete y x)
                  (λ e.
                  by_cases (ℕ_discrete z x)
                  (λ g. ap c.root (g ∙ sym e))
                  (λ g.
                  done z (upto_before p k x z g w) (subst (λ (u : ℕ). Adj p u z) e t) (subst (λ (u : ℕ). c.st (c.root u) < count_state s) e h) ∙
                  ap c.root (sym e)))
                  (λ d.
                  by_cases (ℕ_discrete z x)
                  (λ g. ap c.root g ∙ back y (upto_before p k x y d u) (subst (λ (u : ℕ). Adj p y u) g t) h)
                  (λ g. c.edges.same y z (upto_before p k x y d u) (upto_before p k x z g w) t h));
            };
      }
    where
      seen : (y : ℕ) → Upto p k x y → Adj p x y → Seen s n.classes.root n.classes.st x y
      seen y u t =
          let (i, b, e) = neighbour-index p x y a.ok.some u.within t in
          subst (Seen s n.classes.root n.classes.st x) e (n.seen i b (subst (Upto p k x) (sym e) u))

      done : (y : ℕ) → Upto p k x y → Adj p x y → n.classes.st (n.classes.root x) < count_state s → n.classes.root y ≡ n.classes.root x
      done y u t h = by (seen y u t)
        where
          by : Seen s n.classes.root n.classes.st x y → n.classes.root y ≡ n.classes.root x
          by (joined e) = e
          by (touched g e) = absurd (omega arith)

      -- a class that counts fewer and touches x holds x
      back : (y : ℕ) → Upto p k x y → Adj p y x → n.classes.st (n.classes.root y) < count_state s → n.classes.root x ≡ n.classes.root y
      back y u t h = by (seen y u (adj-sym p y x t))
        where
          by : Seen s n.classes.root n.classes.st x y → n.classes.root x ≡ n.classes.root y
          by (joined e) = sym e
          by (touched g e) = absurd (let b = asked-few a in omega arith)

  module _ (j r : ℕ) (l : List ℕ) (n : FillNear p s k x j r l) where
    abbrev cs : FillClasses p s k k x l
    cs = n.classes

    at_x : At p k x
    at_x = record { within = n.within; low = let v = n.value in omega arith }

    -- the class of x is counted
    open-x : cs.st (cs.root x) < first_settled
    open-x = pixel-counted p a.ok s k cs.root cs.st cs.fills x n.within n.value

    seen_next :
        (root st : ℕ → ℕ) → ((y : ℕ) → Seen s cs.root cs.st x y → Seen s root st x y) → (y : ℕ) → Edge p x j y → (Upto p k x y → Seen s root st x y) →
        (i : ℕ) → i < suc j → Upto p k x (get_or (neighbours_in p x) i 0) → Seen s root st x (get_or (neighbours_in p x) i 0)
    seen_next root st same y e f i b u =
        by_cases (ℕ_discrete i j)
        (λ q.
        let g : get_or (neighbours_in p x) i 0 ≡ y = ap (λ (c : ℕ). get_or (neighbours_in p x) c 0) q ∙ sym e.is in
        subst (Seen s root st x) (sym g) (f (subst (Upto p k x) g u)))
        (λ d. same (get_or (neighbours_in p x) i 0) (n.seen i (omega arith) u))

    -- the next neighbour is still to come or has the same root
    near_next : (m : List ℕ) → length m ≡ length l → Forest m cs.root cs.st → (y : ℕ) → Edge p x j y → (Upto p k x y → cs.root y ≡ cs.root x) → FillNear p s k x (suc j) r m
    near_next m size forest y e f =
        record {
          classes = fill-cells p s k k x l m cs size forest;
          low = n.low;
          within = n.within;
          value = n.value;
          is = n.is;
          seen = seen_next cs.root cs.st (λ z q. q) y e (λ u. joined (f u));
        }

    pub fill-near-skip : (y : ℕ) → Edge p x j y → (Upto p k x y → ⊥) → FillNear p s k x (suc j) r l
    fill-near-skip y e d = near_next l refl cs.forest y e (λ u. absurd (d u))

    module _ (y : ℕ) (u : Upto p k x y) (t : Adj p x y) where
      at_y : At p k y
      at_y = record { within = u.within; low = ⊎_elim (λ h. omega arith) (λ h. let g = h.0 in omega arith) u.passed }

      module _ {m : List ℕ} {q : ℕ} (f : Found l y q m) where
        root-of-y : cs.root y ≡ q
        root-of-y = found-root f cs.forest

        forest : Forest m cs.root cs.st
        forest = f.walked.keeps cs.root cs.st cs.forest

        root-q : cs.root q ≡ q
        root-q = subst (λ (c : ℕ). cs.root c ≡ c) root-of-y (cs.fills.fixed y u.within)

        root-r : cs.root r ≡ r
        root-r = subst (λ (c : ℕ). cs.root c ≡ c) n.is (cs.fills.fixed x n.within)

        joined-r : Joined p k x r
        joined-r = subst (Joined p k x) n.is (cs.fills.joined x at_x open-x)

        open-r : cs.st r < first_settled
        open-r = subst (λ (c : ℕ). cs.st c < first_settled) n.is open-x

        sizes : length m ≡ places p
        sizes = f.walked.size ∙ cs.size

        in-q : q < length m
        in-q = let w = f.walked in let z = w.size in let b = w.within in omega arith

        in-r : r < length m
        in-r = let b = (conn-target joined-r).within in let z = sizes in omega arith

        state-of : (c : ℕ) → c < length m → cs.root c ≡ c → get_or m c 0 ≡ cs.st c
        state-of c b e = forest.state c b (root-cell forest c b e)

        pub roots-seen : RootsSeen q r m
        roots-seen =
            record {
              few = let b = places-bound p a.ok in let z = sizes in omega arith;
              other-within = in-q;
              own-within = in-r;
              other-state = root-cell forest q in-q root-q;
              own-state = root-cell forest r in-r root-r;
              own-counted = let o = open-r in let g = state-of r in-r root-r in omega arith;
            }

        pub fill-near-same : Edge p x j y → q ≡ r → FillNear p s k x (suc j) r m
        fill-near-same e g = near_next m f.walked.size forest y e (λ h. root-of-y ∙ (g ∙ sym n.is))

        -- the neighbour is settled
        pub fill-near-touched : Edge p x j y → first_settled ≤ get_or m q 0 → FillNear p s k x (suc j) r (set m r (count_state s))
        fill-near-touched e h =
            record {
              classes =
                  record {
                    root = cs.root;
                    st = put cs.st r (count_state s);
                    size = length-set m r (count_state s) ∙ sizes;
                    forest = forest-state m r (count_state s) cs.root cs.st forest in-r root-r (omega arith);
                    fills =
                        fills-touched p s k (asked-few a) n.low cs.root cs.st r root-r (conn-target joined-r) x n.within n.value n.is open-r
                        (large-joined p s k y x (conn-edge at_y (adj-sym p x y t) at_x) large-y)
                        cs.fills;
                    edges = edges-stated p s k k k cs.root cs.st cs.fills r (count_state s) (omega arith) root-r (conn-target joined-r) open-r x (omega arith) cs.edges;
                  };
              low = n.low;
              within = n.within;
              value = n.value;
              is = n.is;
              seen = seen_next cs.root (put cs.st r (count_state s)) again y e (λ g. touched (omega (arith, still y settled-y, settled-y)) (put_same cs.st r (count_state s) (cs.root x) n.is));
            }
          where
            settled-y : first_settled ≤ cs.st (cs.root y)
            settled-y = let g = state-of q in-q root-q in subst (λ (c : ℕ). first_settled ≤ cs.st c) (sym root-of-y) (omega (arith, g, h))

            large-y : Large p s k y
            large-y = settled-large p s k k cs.root cs.st n.low (omega arith) cs.fills y at_y settled-y

            still : (z : ℕ) → first_settled ≤ cs.st (cs.root z) → put cs.st r (count_state s) (cs.root z) ≡ cs.st (cs.root z)
            still z g = put_other cs.st r (count_state s) (cs.root z) (λ e. let i = ap cs.st e in omega (arith, i, g, open-r))

            again : (z : ℕ) → Seen s cs.root cs.st x z → Seen s cs.root (put cs.st r (count_state s)) x z
            again z (joined g) = joined g
            again z (touched g i) = touched (let e = still z g in omega arith) (put_same cs.st r (count_state s) (cs.root x) n.is)

        -- the two roots, the smaller first
        module _ (counted : get_or m q 0 < first_settled) {lo hi : ℕ} (o : Ordered q r lo hi) where
          open-q : cs.st q < first_settled
          open-q = let g = state-of q in-q root-q in omega arith

          joined-q : Joined p k x q
          joined-q =
              subst (Joined p k x) root-of-y
              (conn-trans (conn-edge at_x t at_y) (cs.fills.joined y at_y (subst (λ (c : ℕ). cs.st c < first_settled) (sym root-of-y) open-q)))

          less : lo < hi
          less = ordered-less o

          roots : (cs.root lo ≡ lo) × (cs.root hi ≡ hi)
          roots = in_order (λ c d. (cs.root c ≡ c) × (cs.root d ≡ d)) (λ c d h. (h.1, h.0)) o (root-q, root-r)

          ends : Joined p k x lo × Joined p k x hi
          ends = in_order (λ c d. Joined p k x c × Joined p k x d) (λ c d h. (h.1, h.0)) o (joined-q, joined-r)

          opens : (cs.st lo < first_settled) × (cs.st hi < first_settled)
          opens = in_order (λ c d. (cs.st c < first_settled) × (cs.st d < first_settled)) (λ c d h. (h.1, h.0)) o (open-q, open-r)

          insides : (lo < length m) × (hi < length m)
          insides = in_order (λ c d. (c < length m) × (d < length m)) (λ c d h. (h.1, h.0)) o (in-q, in-r)

          both : Joined p k lo hi
          both = conn-trans (joined-sym p k ends.0) ends.1

          small : lo < first_node
          small = let b = (conn-source both).within in let g = places-bound p a.ok in omega arith

          at-x-root : (cs.root x ≡ lo) ⊎ (cs.root x ≡ hi)
          at-x-root = in_order (λ c d. (cs.root x ≡ c) ⊎ (cs.root x ≡ d)) (λ c d. ⊎_swap) o (inr n.is)

          -- both places have the root lo now
          now : (z : ℕ) → (cs.root z ≡ q) ⊎ (cs.root z ≡ r) → relink cs.root lo hi z ≡ lo
          now z e =
              ⊎_elim (λ h. relink-kept cs.root lo hi z (λ g. omega (arith, less)) ∙ h) (λ h. relink-moved cs.root lo hi z h)
              (in_order (λ c d. (cs.root z ≡ c) ⊎ (cs.root z ≡ d)) (λ c d. ⊎_swap) o e)

          module _ (d : ℕ) (together : Together s (get_or m q 0) (get_or m r 0) d) where
            merged : Together s (cs.st lo) (cs.st hi) d
            merged =
                in_order (λ c e. Together s (cs.st c) (cs.st e) d) (λ c e. together-exchange) o
                (subst (λ (c : ℕ). Together s c (cs.st r) d) (state-of q in-q root-q)
                (subst (λ (c : ℕ). Together s (get_or m q 0) c d) (state-of r in-r root-r) together))

            big : first_node ≤ d
            big =
                let e = roots-seen.other-state in
                let f = roots-seen.own-state in
                by_cases (dec_lt (get_or m q 0 + get_or m r 0) (count_state 0 + count_state s))
                (λ c. let w = together.few c in omega arith)
                (λ c. let w = together.many (omega arith) in omega arith)

            again : (z : ℕ) → Seen s cs.root cs.st x z → Seen s (relink cs.root lo hi) (put cs.st lo d) x z
            again z (joined g) = joined (relink-same cs.root lo hi z x g)
            again z (touched g i) =
                let (ol, oh) = opens in
                let nh : cs.root z ≢ hi = λ e. let w = ap cs.st e in omega (arith, w, g, oh) in
                let nl : cs.root z ≢ lo = λ e. let w = ap cs.st e in omega (arith, w, g, ol) in
                let kept = relink-kept cs.root lo hi z nh in
                let same : put cs.st lo d (relink cs.root lo hi z) ≡ cs.st (cs.root z) = ap (put cs.st lo d) kept ∙ put_other cs.st lo d (cs.root z) nl in
                touched (omega arith) (put_same cs.st lo d (relink cs.root lo hi x) (now x (inr n.is)) ∙ full i)
              where
                full : cs.st (cs.root x) ≡ count_state s → d ≡ count_state s
                full i =
                    let e = roots-seen.other-state in
                    let c : cs.st r ≡ count_state s = ap cs.st (sym n.is) ∙ i in
                    let b = state-of r in-r root-r in
                    together.many (omega arith)

            -- the two roots are linked
            pub fill-near-linked : Edge p x j y → FillNear p s k x (suc j) lo (set (set m hi lo) lo d)
            fill-near-linked e =
                record {
                  classes =
                      record {
                        root = relink cs.root lo hi;
                        st = put cs.st lo d;
                        size = length-set (set m hi lo) lo d ∙ (length-set m hi lo ∙ sizes);
                        forest = forest-link m lo hi d cs.root cs.st forest less insides.1 small roots.0 roots.1 big;
                        fills =
                            fills-linked p s k (asked-few a) cs.root cs.st cs.fills x lo hi d less roots.0 roots.1 both opens.0 opens.1 merged
                            n.within n.value at-x-root;
                        edges =
                            edges-linked p s k (asked-few a) cs.root cs.st cs.fills x lo hi d less roots.0 roots.1 both opens.0 opens.1 merged
                            n.within n.value at-x-root x cs.edges;
                      };
                  low = n.low;
                  within = n.within;
                  value = n.value;
                  is = now x (inr n.is);
                  seen =
                      seen_next (relink cs.root lo hi) (put cs.st lo d) again y e
                      (λ h. joined (now y (inl root-of-y) ∙ sym (now x (inr n.is))));
                }
