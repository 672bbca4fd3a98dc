-- The listed roots of a height get their numbers, and the classes go on to the next height.
use mathlib.Core.Path.{◌≡◌, sym, ap, subst, ◌∙◌}
use mathlib.Core.Bool.{false}
use mathlib.Core.Logic.{by_cases}
use Prim.Native.Nat.{ℕ, suc, ◌≤◌, ◌<◌}
use native.Mathlib.Decide.{dec_lt}
use native.Mathlib.Omega.{arith}
use lib.ListN.{length}
use Rattle.picture.specs.Pictures.{Picture, places, value_at}
use Rattle.picture.specs.Components.{component_at}
use Rattle.picture.specs.Trees.{is_branch, nodes, node_at, number_of, map_of}
use Rattle.topology.proofs.Connected.{start, conn-target}
use Rattle.topology.proofs.Adjacency.{At, Joined, joined-mono}
use Rattle.topology.proofs.Accepted.{places-bound}
use Rattle.topology.proofs.Nodes.{node, node-equal, number-found}
use Rattle.topology.proofs.Descent.{under, under_same, under-fork}
use Rattle.tree_laws.proofs.Counts.{so-few}
use Rattle.tree_laws.proofs.Beneath.{low-at, at_low, low-at-below, beneath-next}
use Rattle.tree_laws.proofs.Levels.{nothing, single, Father, unmet, known, Level, class-joined, Edges, HeightJoined, upto_all, upto_next, edges-upto}
use Rattle.tree_laws.proofs.States.{node_state}
use Rattle.tree_laws.proofs.NewRoots.{Member, RootsListed, root-first, Ended, new, old, ended, count_next, number-new, count-few}

-- the listed roots have their numbers, the other states and fathers are as they were
pub record Numbered (p : Picture) (c d : ℕ) (f root st new fa fb : ℕ → ℕ) : Type 0 where
  pub named : (i : ℕ) → c ≤ i → i < d → new (f i) ≡ node_state i
  pub others : (y : ℕ) → y < places p → root y ≡ y → (Member f c d y → ⊥) → new y ≡ st y
  pub fresh : (i : ℕ) → c ≤ i → i < d → fb i ≡ 65535
  pub old : (i : ℕ) → i < c → fb i ≡ fa i

module _ (p : Picture) (k c : ℕ) (root st fa : ℕ → ℕ) (whole : HeightJoined p k c root st fa) (d : ℕ) (f : ℕ → ℕ) (l : RootsListed p k c d f root st)
    (new-st fb : ℕ → ℕ) (m : Numbered p c d f root st new-st fa fb) where
  abbrev v : Level p k root st fa
  v = whole.level

  low : k ≤ 255
  low = whole.low

  node-under : (i y : ℕ) → i < length (nodes p) → At p k y → is_branch p k (component_at p k y) ≡ false → root y ≡ y → node_at p i ≡ node k y → under p k y ≡ i
  node-under i y b s h r q =
      let (a, g) = number-found p k y low s h in
      under-fork p k y h ∙
      node-equal p (number_of p k (component_at p k y)) i a b (g ∙ (ap (node k) (sym (root-first p k c root st fa whole y s) ∙ r) ∙ sym q))

  named-root : (y : ℕ) → At p k y → root y ≡ y → new-st y ≡ node_state (under p k y)
  named-root y s r = by (ended p k c root st fa whole y s r)
    where
      by : Ended p k c root st fa whole y → new-st y ≡ node_state (under p k y)
      by (new h b) =
          let t = l.complete y s r h in
          let few = so-few p (suc k) (let z = low in omega arith) in
          let next = count_next p k c root st fa whole d f l in
          let to = t.to in
          let u = node-under t.at y (omega arith) s b r (number-new p k c root st fa whole d f l t.at t.from t.to ∙ ap (node k) t.is) in
          let w = m.named t.at t.from t.to in
          let q = ap new-st t.is in
          omega arith
      by (old h b) =
          m.others y s.within r (λ t. let g = l.roots.free t.at t.from t.to in let q = ap st t.is in omega arith) ∙ h

  -- every place of the section has a root that says its node
  pub named-all : (y : ℕ) → At p k y → new-st (root y) ≡ node_state (under p k y)
  named-all y s =
      named-root (root y) (conn-target (v.own y s)) (v.fixed y s.within) ∙ ap (λ (i : ℕ). node_state i) (sym (under_same p (v.own y s)))

  father-next : (i : ℕ) → i < c → Father p k root st (fa i) i → Father p (suc k) root new-st (fb i) i
  father-next i b (known h g) = let q = m.old i b in known (omega arith) (g ∙ ap (map_of p) (sym q))
  father-next i b (unmet z h g q t) =
      let bound : i < 1600 = let a = count-few p k c root st fa whole d f l in let u = l.roots.order in let w = places-bound p whole.ok in omega arith in
      let stays : new-st (root z) ≡ node_state i =
      m.others (root z) (conn-target (v.own z (low-at p g))).within (v.fixed z g.within)
      (λ r. let u = l.roots.free r.at r.from r.to in let w = ap st r.is in omega arith) ∙
      t
      in
      let all = named-all z (low-at p g) in
      unmet z (m.old i b ∙ h) (at_low p (low-at p g)) (beneath-next p k z ∙ omega arith) stays

  father-fresh : (i : ℕ) → c ≤ i → i < d → Father p (suc k) root new-st (fb i) i
  father-fresh i a b =
      let s = l.roots.place i a b in
      let says : new-st (root (f i)) ≡ node_state i = ap new-st (l.roots.fixed i a b) ∙ m.named i a b in
      let all = named-all (f i) s in
      unmet (f i) (m.fresh i a b) (at_low p s) (beneath-next p k (f i) ∙ omega arith) says

  not_listed : (y : ℕ) → k < value_at p y → Member f c d y → ⊥
  not_listed y h t =
      let s = (l.roots.place t.at t.from t.to).low in let q = ap (value_at p) t.is in omega arith

  pub next_level : Level p (suc k) root new-st fb
  next_level =
      record {
        own =
            λ y s.
            let h = s.low in
            let b = s.within in
            by_cases (dec_lt k (value_at p y))
            (λ q. subst (λ (z : ℕ). Joined p (suc k) y z) (sym (v.later y b q).0) (start s))
            (λ q. joined-mono p (let g : k ≤ suc k = omega arith in g) (v.own y (record { within = b; low = omega arith })));
        fixed = v.fixed;
        first = v.first;
        later =
            λ y b h.
            let (r, q) = v.later y b (omega arith) in
            (r, m.others y b r (not_listed y (omega arith)) ∙ q);
        state =
            λ y s r.
            let b = s.within in
            let h = s.low in
            by_cases (dec_lt k (value_at p y))
            (λ q.
            nothing (m.others y b r (not_listed y q) ∙ (v.later y b q).1)
            (λ z g t.
            let low = (conn-target (class-joined v (low-at-below p g) t)).low in
            omega arith))
            (λ q.
            let t : At p k y = record { within = b; low = omega arith } in
            single y (at_low p t) r (named-root y t r ∙ ap (λ (i : ℕ). node_state i) (sym (beneath-next p k y)))
            (λ w g z.
            beneath-next p k w ∙
            (under_same p (class-joined v (low-at-below p g) z) ∙ sym (beneath-next p k y))));
        fathers =
            λ i b.
            let n = whole.count in
            let next = count_next p k c root st fa whole d f l in
            by_cases (dec_lt i c) (λ h. father-next i h (v.fathers i (omega arith))) (λ h. father-fresh i (omega arith) (omega arith));
      }

-- what is passed at the end of a height is passed at the start of the next
pub edges-next : (p : Picture) (k : ℕ) (root : ℕ → ℕ) → Edges p k (places p) root → Edges p (suc k) 0 root
edges-next p k root e =
    edges-upto p k (places p) (suc k) 0 root (λ y u. upto_all p k (places p) y (omega arith) (upto_next p k y u)) e
