-- The laws of the climbs: none put, one more, all; and each leaf's climb where it ceases to be the least.
use Rattle.std.proofs.Common.{◌≡◌, refl, sym, ap, ap₂, subst, ◌∙◌, Bool, true, inl, ⊎_elim, ◌≢◌, List, ℕ, ◌+◌, ◌*◌, ◌≤◌, ◌<◌, arith, length, get_or, set, length-set, get_or-set_same, get_or-set_other, lt-ltb, le-ltb}
use Rattle.std.proofs.Math.Logic.{by_cases}
use Rattle.std.proofs.Math.Decide.{ℕ_discrete, dec_lt}
use Rattle.lists.specs.Lists.{pick}
use Rattle.lists.specs.Blocks.{block_entry}
use Rattle.picture.specs.Pictures.{Picture}
use Rattle.picture.specs.Trees.{nodes, node_at}
use Rattle.picture.specs.Patches.{climb_of}
use Rattle.topology.proofs.Accepted.{Accepted, accepted-is, places-bound}
use Rattle.topology.proofs.Nodes.{node-is}
use Rattle.topology.proofs.Fathers.{father-found}
use Rattle.topology.proofs.Climb.{Up, up-rises, father, father-greater}
use Rattle.topology.proofs.LeafNodes.{leaf_node}
use Rattle.topology.proofs.LeavesBelow.{LeastBelow, Least, ChainEnd, least-same-fathers, least-one, least-last, chain-end, leaf-least}
use Rattle.topology.proofs.Dynamics.{climb-father, climb-root}
use Rattle.least_labels.specs.LeastLabels.{FathersRise, Handed, LeastOf, LeastThrough}
use Rattle.least_labels.proofs.Labels.{labels-start, labels-final, fathers-rise, handed-kept, handed-own, handed-labels}
use Rattle.climbs.specs.Climbs.{NodesLabelled, OwnLabels, height_or_most, ClimbPut, ClimbsBefore, HeightsAndFathers, Climbs}

-- the height of a node, or the largest value
module _ (n most : ℕ) (work : List ℕ) (f : ℕ) where
  pub height-in : f < n → height_or_most n most work f ≡ get_or work f 0
  unfolding height_or_most
  height-in h = ap (λ (b : Bool). pick b (get_or work f 0) most) (lt-ltb f n h)

  pub height-out : n ≤ f → height_or_most n most work f ≡ most
  unfolding height_or_most
  height-out h = ap (λ (b : Bool). pick b (get_or work f 0) most) (le-ltb f n h)

-- the same in memory with the same heights
height-same : (n most f : ℕ) (work cells : List ℕ) → ((j : ℕ) → j < n → get_or cells j 0 ≡ get_or work j 0) → height_or_most n most cells f ≡ height_or_most n most work f
height-same n most f work cells e =
    by_cases (dec_lt f n)
    (λ h. height-in n most cells f h ∙ (e f h ∙ sym (height-in n most work f h)))
    (λ h. let g : n ≤ f = omega arith in height-out n most cells f g ∙ sym (height-out n most work f g))

-- the least node among nodes labelled with their numbers
numbered-least : {P : ℕ → ℕ} {m a v : ℕ} → LeastOf (Up P m a) (λ j. j) v → LeastBelow P m a v
numbered-least {P} {m} {a} l = record { below = subst (Up P m a) l.is l.within; least = l.least }

pub climbs-start : {n count most : ℕ} {work : List ℕ} → OwnLabels n count work → ClimbsBefore n count most 0 work work
climbs-start o =
    record {
      kept = record { size = refl; same = λ j h. refl };
      ahead = λ s a b. refl;
      labels = labels-start o.own;
      climbs = λ s j h. absurd (omega arith);
    }

module _ (n count most : ℕ) (work : List ℕ) (few : count ≤ n) (long : length work ≡ 5 * n) (up : FathersRise n count work) where
  abbrev P : ℕ → ℕ
  P = block_entry work n

  rises : (i : ℕ) → i < count → P i < count → i < P i
  rises = fathers-rise few up

  -- one node more: the cells before it, and after its label is handed up
  module _ (i : ℕ) (cells handed : List ℕ) (h : i < count) (c : ClimbsBefore n count most i work cells) (g : Handed n i cells handed) where
    abbrev leaf : ℕ
    leaf = block_entry cells (4 * n) i

    least-here : LeastBelow P count i leaf
    least-here = numbered-least (labels-final rises c.labels i h (omega arith))

    leaf-few : leaf ≤ i
    leaf-few = up-rises rises least-here.below

    same-father : block_entry cells n i ≡ P i
    same-father = c.ahead i (omega arith) (omega arith)

    -- handing up leaves all but the labels
    earlier : (j : ℕ) → j < 4 * n → get_or handed j 0 ≡ get_or cells j 0
    earlier j b = (handed-kept g).outside j (inl b)

    handed-long : length handed ≡ length work
    handed-long = (handed-kept g).size ∙ c.kept.size

    cells-long : length cells ≡ 5 * n
    cells-long = c.kept.size ∙ long

    own : block_entry handed (4 * n) i ≡ leaf
    own = handed-own n count i work cells few cells-long up h same-father g

    labels : LeastThrough P count (i + 1) (λ j. j) (block_entry handed (4 * n))
    labels = handed-labels n count i work cells few cells-long up h same-father c.labels g

    pub handed-size : length handed ≡ 5 * n
    handed-size = handed-long ∙ long

    pub handed-leaf : block_entry handed (4 * n) i < n
    handed-leaf = let b = leaf-few in omega (arith, own)

    pub climbs-more :
        {climbed : List ℕ} → ClimbPut n i most handed climbed → ClimbsBefore n count most (i + 1) work climbed
    climbs-more e =
        let b = leaf-few in
        let size = handed-size in
        let at : block_entry handed n i ≡ P i = earlier (n + i) (omega arith) ∙ same-father in
        let v : height_or_most n most handed (block_entry handed n i) ≡ x =
        ap (height_or_most n most handed) at ∙
        height-same n most (P i) work handed (λ j h. earlier j (omega arith) ∙ c.kept.same j (inl h)) in
        subst (ClimbsBefore n count most (i + 1) work) (sym (e ∙ ap₂ (λ (z y : ℕ). set handed (n + z) y) own v))
        (record {
          kept =
              record {
                size = length-set handed (n + leaf) x ∙ handed-long;
                same =
                    λ j w.
                    let d : j ≢ n + leaf = λ q. absurd (⊎_elim (λ z. omega arith) (λ z. let y = z.0 in omega arith) w) in
                    let low : j < 4 * n = ⊎_elim (λ z. omega arith) (λ z. z.1) w in
                    other j d ∙ (earlier j low ∙ c.kept.same j w);
              };
          ahead =
              λ s u w.
              let d : n + s ≢ n + leaf = λ q. absurd (omega arith) in
              other (n + s) d ∙ (earlier (n + s) (omega arith) ∙ c.ahead s (omega arith) w);
          labels =
              λ a u.
              let d : 4 * n + a ≢ n + leaf = λ q. absurd (omega arith) in
              subst (LeastOf _ (λ j. j)) (sym (other (4 * n + a) d)) (labels a u);
          climbs =
              λ s j u a f.
              by_cases (ℕ_discrete j leaf)
              (λ q.
              let here =
              least-last rises least-here (subst (LeastBelow P count s) q a) (omega arith)
              (λ z. let r = f (subst (LeastBelow P count (P s)) (sym q) z) in omega arith)
              in
              ap (λ (z : ℕ). get_or (set handed (n + leaf) x) (n + z) 0) q ∙
              (get_or-set_same handed (n + leaf) x 0 (omega arith) ∙ ap (λ (z : ℕ). height_or_most n most work (P z)) (sym here)))
              (λ q.
              let z : s ≢ i = λ y. q (least-one (subst (λ (w : ℕ). LeastBelow P count w j) y a) least-here) in
              let d : n + j ≢ n + leaf = λ y. q (omega arith) in
              let jb = up-rises rises a.below in
              other (n + j) d ∙
              (earlier (n + j) (omega arith) ∙ c.climbs s j (omega arith) a (λ y. let r = f y in omega arith)));
        })
      where
        x : ℕ
        x = height_or_most n most work (P i)

        other : (j : ℕ) → j ≢ n + leaf → get_or (set handed (n + leaf) x) j 0 ≡ get_or handed j 0
        other j d = get_or-set_other handed (n + leaf) j x 0 d

pub climbs-end :
    {n count most i : ℕ} {work climbed : List ℕ} → i ≤ count → count ≤ i → ClimbsBefore n count most i work climbed → ClimbsBefore n count most count work climbed
climbs-end {n} {count} {most} {i} {work} {climbed} a b c =
    let e : i ≡ count = omega arith in subst (λ (z : ℕ). ClimbsBefore n count most z work climbed) e c

-- labels written: the fathers stand
module _ (n count : ℕ) (work labelled : List ℕ) (o : NodesLabelled n count work labelled) where
  before : (j : ℕ) → j < 4 * n → get_or labelled j 0 ≡ get_or work j 0
  before j h = o.kept.outside j (inl h)

  pub labelled-own : OwnLabels n count labelled
  labelled-own = record { own = o.inside }

  pub labelled-rise : count ≤ n → FathersRise n count work → FathersRise n count labelled
  labelled-rise few up =
      record {
        rise = λ i h f. let e = same i h in let r = up.rise i h (omega arith) in omega arith;
        within = λ i h f. let e = same i h in let r = up.within i h (omega arith) in omega arith;
      }
    where
      same : (i : ℕ) → i < count → block_entry labelled n i ≡ block_entry work n i
      same i h = before (n + i) (omega arith)

  labelled-tree : {p : Picture} {most : ℕ} → count ≤ n → HeightsAndFathers p n count most work → HeightsAndFathers p n count most labelled
  labelled-tree few t =
      let e = t.number in
      record {
        accepted = t.accepted;
        size = t.size;
        number = t.number;
        heights = λ i h. before i (omega arith) ∙ t.heights i h;
        fathers = λ i h. before (n + i) (omega arith) ∙ t.fathers i h;
        largest = t.largest;
      }

-- the climbs of a picture's leaves, from as many nodes as it has
module _ (p : Picture) (n most : ℕ) (work after : List ℕ) where
  abbrev m : ℕ
  m = length (nodes p)

  module _ (t : HeightsAndFathers p n m most work) (few : m ≤ n) (up : FathersRise n m work) (c : ClimbsBefore n m most m work after) where
    ok : Accepted p
    ok = accepted-is p t.accepted

    least-of : (a : ℕ) → a < m → (w : ℕ) × Least p a w
    least-of a h = (
      block_entry after (4 * n) a,
      least-same-fathers t.fathers (numbered-least (labels-final (fathers-rise few up) c.labels a h (omega arith))),
    )

    climbed-leaf : (j : ℕ) → j < m → leaf_node p j ≡ true → block_entry after n j ≡ climb_of p (node_at p j)
    climbed-leaf j b l = c.climbs s j e.within (least-same-fathers (λ i h. sym (t.fathers i h)) e.least) ends ∙ height
      where
        e : ChainEnd (father-greater p ok) j
        e = chain-end (father-greater p ok) least-of j b (leaf-least p ok j l)

        s : ℕ
        s = e.last

        same : block_entry work n s ≡ father p s
        same = t.fathers s e.within

        ends : LeastBelow (block_entry work n) m (block_entry work n s) j → m ≤ block_entry work n s
        ends d = let q = same in let a = e.ends (subst (λ (z : ℕ). Least p z j) same (least-same-fathers t.fathers d)) in omega arith

        height : height_or_most n most work (block_entry work n s) ≡ climb_of p (node_at p j)
        height =
            ap (height_or_most n most work) same ∙
            ⊎_elim
            (λ f.
            let (w, k) = least-of (father p s) f in
            let d : w ≢ j = λ q. let a = e.ends (subst (Least p (father p s)) q k) in absurd (omega arith) in
            height-in n most work (father p s) (omega arith) ∙
            (t.heights (father p s) f ∙ sym (climb-father p ok s j e.within e.least f w k d)))
            (λ f.
            let a = t.size in
            let most-places = places-bound p ok in
            let q = f.0 in
            height-out n most work (father p s) (omega arith) ∙
            (t.largest ∙ sym (climb-root p ok s j e.within e.least q)))
            (father-found p (node_at p s) (node-is p s e.within))

-- labels and climbs together
pub climbs-all :
    {n count most : ℕ} {work labelled after : List ℕ} → count ≤ n → FathersRise n count work → NodesLabelled n count work labelled →
    ClimbsBefore n count most count labelled after → Climbs n count most work after
climbs-all {n} {count} {most} {work} {labelled} {after} few up o c =
    record {
      kept =
          record {
            size = c.kept.size ∙ o.kept.size;
            same =
                λ j h.
                let low : j < 4 * n = ⊎_elim (λ z. omega arith) (λ z. z.1) h in
                c.kept.same j h ∙ before n count work labelled o j low;
          };
      climbs =
          λ p t j b l.
          let e = t.number in
          climbed-leaf p n most labelled after
          (subst (λ (z : ℕ). HeightsAndFathers p n z most labelled) e (labelled-tree n count work labelled o few t))
          (omega arith)
          (subst (λ (z : ℕ). FathersRise n z labelled) e (labelled-rise n count work labelled o few up))
          (subst (λ (z : ℕ). ClimbsBefore n z most z labelled after) e c)
          j b l;
    }
