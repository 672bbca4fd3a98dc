-- The heights of a lent tree checked one after the other.
use Rattle.std.proofs.Common.{◌≡◌, sym, ap, ◌∙◌, ⊎_elim, List, ℕ, suc, ◌-◌, ◌≤◌, ◌<◌, arith, length, get_or}
use mathlib.Core.Logic.{by_cases}
use native.Mathlib.Decide.{dec_lt}
use Rattle.picture.specs.Pictures.{Picture, places, value_at}
use Rattle.picture.specs.Trees.{Node, nodes, node_at, father_of, map_of}
use Rattle.topology.proofs.Connected.{conn-target}
use Rattle.topology.proofs.Adjacency.{At}
use Rattle.topology.proofs.Accepted.{Accepted, byte_at, places-bound}
use Rattle.topology.proofs.Branches.{own-pixel}
use Rattle.topology.proofs.Nodes.{nodes-few}
use Rattle.topology.proofs.Descent.{under, map-under, nodes-some}
use Rattle.topology.proofs.Climb.{root_is, last-root}
use Rattle.tree_laws.proofs.Counts.{so-all}
use Rattle.tree_laws.proofs.NewRoots.{Member, joined-root, free-fork}
use Rattle.tree_laws.proofs.LastFathers.{LastFather, missing, pixel, last-father}
use Rattle.tree_laws.proofs.Checks.{Differs}
use Rattle.lent_tree.specs.Lent.{HoldsTree}
use Rattle.verify_nodes.specs.NodeChecks.{SameHeights, Matched}
use Rattle.verify.specs.Heights.{Verified}
use Rattle.verify_nodes.proofs.Matched.{says, count-is, node-new, checking-next}

-- a lent node whose father and a pixel's node differ is no tree's
pub differs-tree : (p : Picture) (count : ℕ) (hs fs ss m : List ℕ) → Differs p fs m → HoldsTree p count hs fs ss m → ⊥
differs-tree p count hs fs ss m d t =
    d.differs (t.fathers d.at d.number ∙ (d.father ∙ sym (t.map d.pixel d.place)))

-- the lent map of a whole height agrees: its list of roots is complete
matched-complete :
    (p : Picture) (k c d x : ℕ) (l fs ss m : List ℕ) (s : Matched p k c d x l fs ss m) → places p ≤ x →
    (y : ℕ) → At p k y → s.counted.cells.root y ≡ y → 65534 ≤ s.counted.cells.st y → Member (λ j. get_or ss j 0) c d y
matched-complete p k c d x l fs ss m s h y at r g =
    let a = s.counted in
    let q = a.cells in
    let fork = free-fork p k c q.root q.st a.fa q.joined y at r g in
    let (z, j, v) = own-pixel p k y at fork in
    let e = joined-root p k c q.root q.st a.fa q.joined j in
    let b = (conn-target j).within in
    let few = s.few z b v (omega arith) in
    let is = ap q.marks (sym e ∙ r) in
    ⊎_elim (λ t. t) (λ t. absurd (omega arith)) (a.either y at.within r)

-- the next height
pub verified-next :
    (p : Picture) (k c d count : ℕ) (o l hs fs ss m : List ℕ) → Verified p k c count o hs fs ss m → SameHeights k c d count hs →
    (x : ℕ) → Matched p k c d x l fs ss m → places p ≤ x → Verified p (suc k) d count l hs fs ss m
verified-next p k c d count o l hs fs ss m v run x s h =
    let g = s.counted in
    let complete = matched-complete p k c d x l fs ss m s h in
    record {
      checking = checking-next p k c d l fs ss m g complete;
      number = count-is p k c d l fs ss m g complete;
      most = run.most;
      heights =
          λ i b.
          by_cases (dec_lt i c)
          (λ q. v.heights i q)
          (λ q.
          run.same i (omega arith) b ∙
          sym (ap (λ (n : Node). n.height) (node-new p k c d l fs ss m g complete i (omega arith) b)));
      firsts =
          λ i b.
          by_cases (dec_lt i c)
          (λ q. v.firsts i q)
          (λ q. sym (ap (λ (n : Node). n.first) (node-new p k c d l fs ss m g complete i (omega arith) b)));
      map =
          λ y b q.
          by_cases (dec_lt (value_at p y) k)
          (λ z. v.map y b z)
          (λ z.
          let value : value_at p y ≡ k = omega arith in
          let a = s.same y b value (omega arith) in
          let e = says p k c d l fs ss m g complete y (record { within = b; low = omega arith }) in
          let f : map_of p y ≡ under p k y = map-under p y ∙ ap (λ (j : ℕ). under p j y) value in
          omega arith);
    }

-- all heights are checked, the count is used up, and the last node has no father
pub verified-tree :
    (p : Picture) (count : ℕ) (l hs fs ss m : List ℕ) → Verified p 256 count count l hs fs ss m → get_or fs (count - 1) 0 ≡ 65535 → HoldsTree p count hs fs ss m
verified-tree p count l hs fs ss m v last =
    record {
      total = total;
      heights = λ i b. v.heights i (omega (arith, total));
      fathers =
          λ i b.
          by i b
          (last-father p ok v.checking.classes.root v.checking.classes.st (v.checking.fa i) i b
          (v.checking.classes.level.fathers i (let e = so-all p in omega arith)));
      firsts = λ i b. v.firsts i (omega (arith, total));
      map = map;
    }
  where
    ok : Accepted p
    ok = v.checking.ok

    total : count ≡ length (nodes p)
    total = v.number ∙ so-all p

    map : (x : ℕ) → x < places p → get_or m x 0 ≡ map_of p x
    map x b = v.map x b (let q = byte_at p.pixels ok.bytes x in omega arith)

    by : (i : ℕ) → i < length (nodes p) → LastFather p (v.checking.fa i) i → get_or fs i 0 ≡ father_of p (node_at p i)
    by i b (missing e f) =
        let top = root_is p ok i b f in
        let z : ℕ = length (nodes p) - 1 in
        let same = root_is p ok z (omega arith) (last-root p ok z (omega arith)) in
        let at : i ≡ count - 1 = omega (arith, total) in
        ap (λ (j : ℕ). get_or fs j 0) at ∙ (last ∙ sym f)
    by i b (pixel e f) =
        ⊎_elim
        (λ q. absurd (let few = places-bound p ok in omega arith))
        (λ q. q ∙ (map (v.checking.fa i) e ∙ sym f))
        (v.checking.agree.same i (let few = nodes-few p in let n = places-bound p ok in omega arith))

-- the tree's count is used up, and its last node has no father
pub tree-ends :
    (p : Picture) (c count : ℕ) (l hs fs ss m : List ℕ) → Verified p 256 c count l hs fs ss m → HoldsTree p count hs fs ss m → (c ≡ count) × (get_or fs (count - 1) 0 ≡ 65535)
tree-ends p c count l hs fs ss m v t =
    let e : c ≡ count = v.number ∙ (so-all p ∙ sym t.total) in
    let z : ℕ = length (nodes p) - 1 in
    let some = nodes-some p ok in
    let total = t.total in
    let at : count - 1 ≡ z = omega arith in
    (e, ap (λ (j : ℕ). get_or fs j 0) at ∙ (t.fathers z (omega arith) ∙ last-root p ok z (omega arith)))
  where
    ok : Accepted p
    ok = v.checking.ok
