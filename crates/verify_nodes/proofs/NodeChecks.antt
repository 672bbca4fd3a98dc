-- What the checks of nodes and map say, whatever the picture is.
use Rattle.std.proofs.Common.{◌≡◌, refl, sym, ap, subst, ◌∙◌, Bool, true, false, List, ℕ, ◌+◌, ◌-◌, ◌≤◌, ◌<◌, arith, length, get_or, set, length-set, eqb, ltb, eqb-true, ltb-true, ltb-false}
use borrow.Author.Tests.{eqb-false}
use Rattle.picture.specs.Pictures.{Picture, places, value_at}
use Rattle.tree_laws.proofs.Decided.{yes, never, decided-yes, decided-never}
use Rattle.tree_laws.proofs.Forests.{Found, Parents}
use Rattle.lent_tree.specs.Lent.{HoldsTree}
use Rattle.verify_nodes.specs.NodeChecks.{SameHeights, Counted, Matched, NodeFits, SamePicture, FitAnswer, CountReady, NodesChecked, LentMapReady, MapChecked}
use Rattle.verify_nodes.proofs.Counted.{counted-turn, tree-fits}
use Rattle.verify_nodes.proofs.Matched.{matched-pass, matched-turn, matched-cell}
use Rattle.tree_laws.proofs.States.{first_node, node_state, several_state}

-- the run of the height k from c on goes at least to i
pub record RunTo (k c i : ℕ) (hs : List ℕ) : Type 0 where
  pub order : c ≤ i
  pub same : (j : ℕ) → c ≤ j → j < i → get_or hs j 0 ≡ k

module _ (pixels : List ℕ) (k c i f : ℕ) (l ss : List ℕ) (e : f ≡ get_or ss i 0) where
  value_of : (p : Picture) → SamePicture p pixels l → (v : ℕ) → v ≡ get_or pixels f 0 → value_at p (get_or ss i 0) ≡ v
  value_of p r v g = ap (λ (u : List ℕ). get_or u (get_or ss i 0) 0) r.is ∙ (ap (λ (u : ℕ). get_or pixels u 0) (sym e) ∙ sym g)

  pub unfit-beyond : length l ≤ f → FitAnswer pixels k c i l ss false
  unfit-beyond h = never (λ p r t. let a = t.within in let z = r.size in omega arith)

  pub unfit-high : (v : ℕ) → v ≡ get_or pixels f 0 → k < v → FitAnswer pixels k c i l ss false
  unfit-high v g h =
      never (λ p r t. let a = t.low in let z = value_of p r v g in omega arith)

  pub unfit-taken : get_or l f 0 < several_state → FitAnswer pixels k c i l ss false
  unfit-taken h = never (λ p r t. let a = t.free in let z = ap (λ (u : ℕ). get_or l u 0) e in omega arith)

  pub unfit-order : (g : ℕ) → g ≡ get_or ss (i - 1) 0 → c < i → f ≤ g → FitAnswer pixels k c i l ss false
  unfit-order g q a h = never (λ p r t. let b = t.above a in omega arith)

  pub fit-yes : (v : ℕ) → f < length l → v ≡ get_or pixels f 0 → v ≤ k → several_state ≤ get_or l f 0 → (c < i → get_or ss (i - 1) 0 < f) → FitAnswer pixels k c i l ss true
  fit-yes v b g h free above =
      yes
      (λ p r.
      record {
        within = let z = r.size in omega arith;
        low = let z = value_of p r v g in omega arith;
        above = λ a. let z = above a in omega arith;
        free = let z = ap (λ (u : ℕ). get_or l u 0) e in omega arith;
      })

  -- the lent first places of two nodes are compared
  pub fit-tested :
      (v : ℕ) → f < length l → v ≡ get_or pixels f 0 → v ≤ k → several_state ≤ get_or l f 0 → c < i →
      FitAnswer pixels k c i l ss (ltb (get_or ss (i - 1) 0) (get_or ss i 0))
  fit-tested v b g h free a = by (ltb (get_or ss (i - 1) 0) (get_or ss i 0)) refl
    where
      by : (t : Bool) → ltb (get_or ss (i - 1) 0) (get_or ss i 0) ≡ t → FitAnswer pixels k c i l ss t
      by true q = fit-yes v b g h free (λ z. let n = ltb-true (get_or ss (i - 1) 0) (get_or ss i 0) q in omega arith)
      by false q = unfit-order (get_or ss (i - 1) 0) refl a (let n = ltb-false (get_or ss (i - 1) 0) (get_or ss i 0) q in omega arith)

-- the lent nodes from c on, before i, have passed their tests and have their numbers
pub record NodesNumbered (pixels : List ℕ) (k c i : ℕ) (o ss l : List ℕ) : Type 0 where
  pub order : c ≤ i
  pub size : length l ≡ length o
  pub from : (p : Picture) (fs m : List ℕ) → p.pixels ≡ pixels → Counted p k c c o fs ss m → Counted p k c i l fs ss m

pub numbered-turn :
    (pixels : List ℕ) (k c i f : ℕ) (o ss l : List ℕ) → NodesNumbered pixels k c i o ss l → i < 1600 → (t : (p : Picture) → SamePicture p pixels l → NodeFits p k c i l ss) → f ≡ get_or ss i 0 →
    NodesNumbered pixels k c (i + 1) o ss (set l f (node_state i))
numbered-turn pixels k c i f o ss l s b t e =
    let a = s.order in
    record {
      order = omega arith;
      size = length-set l f (node_state i) ∙ s.size;
      from =
          λ p fs m q g.
          let h = s.from p fs m q g in
          subst (λ (z : ℕ). Counted p k c (i + 1) (set l z (node_state i)) fs ss m) (sym e)
          (counted-turn p k c i l fs ss m h b (t p (record { is = q; size = h.cells.size })));
    }

-- the place of a lent first place that fits
pub numbered_within : (pixels : List ℕ) (k c i f : ℕ) (o ss l : List ℕ) → CountReady pixels k c o ss → NodesNumbered pixels k c i o ss l → ((p : Picture) → SamePicture p pixels l → NodeFits p k c i l ss) → f ≡ get_or ss i 0 → f < length l
numbered_within pixels k c i f o ss l r s t e =
    let h = s.from r.p r.fs r.m r.is r.counted in
    let z = h.cells.size in
    let w = (t r.p (record { is = r.is; size = z })).within in
    omega arith

pub numbered-fails : (pixels : List ℕ) (k c d i : ℕ) (o ss l u : List ℕ) → NodesNumbered pixels k c i o ss l → i < d → ((p : Picture) → SamePicture p pixels l → NodeFits p k c i l ss → ⊥) → NodesChecked pixels k c d o ss u false
numbered-fails pixels k c d i o ss l u s b t =
    never
    (λ p fs m e g count hs run tree.
    let h = s.from p fs m e g in
    t p (record { is = e; size = h.cells.size }) (tree-fits p k c i l fs ss m h d count hs run b tree))

pub numbered-end : (pixels : List ℕ) (k c d i : ℕ) (o ss l : List ℕ) → NodesNumbered pixels k c i o ss l → i ≡ d → NodesChecked pixels k c d o ss l true
numbered-end pixels k c d i o ss l s e =
    yes (λ p fs m g h. subst (λ (z : ℕ). Counted p k c z l fs ss m) e (s.from p fs m g h))

module _ (pixels : List ℕ) (k x v : ℕ) (l m : List ℕ) (b : x < length l) (e : v ≡ get_or pixels x 0) where
  pub map_other : (v ≡ k → ⊥) → MapChecked pixels k x (x + 1) l m l true
  map_other d =
      yes (λ p c d' fs ss g s. matched-pass p k c d' x l fs ss m s (λ z. d (e ∙ (ap (λ (u : List ℕ). get_or u x 0) (sym g) ∙ z))))

  module _ (o : List ℕ) (r : ℕ) (f : Found l x r o) (same : v ≡ k) where
    value-at : (p : Picture) → p.pixels ≡ pixels → value_at p x ≡ k
    value-at p g = ap (λ (u : List ℕ). get_or u x 0) g ∙ (sym e ∙ same)

    pub map-yes : get_or o r 0 - first_node ≡ get_or m x 0 → get_or o r 0 < several_state → MapChecked pixels k x (x + 1) l m o true
    map-yes q h =
        yes
        (λ p c d fs ss g s.
        let size = s.counted.cells.size in
        let top = f.top in
        matched-turn p k c d x r l o fs ss m s f (omega arith) (value-at p g) h (omega arith))

    -- under the tree the cell says the lent node
    tree-cell :
        (p : Picture) (c d : ℕ) (fs ss : List ℕ) → p.pixels ≡ pixels → Matched p k c d x l fs ss m → (count : ℕ) (hs : List ℕ) → SameHeights k c d count hs →
        HoldsTree p count hs fs ss m → (get_or o r 0 ≡ node_state (get_or m x 0)) × (get_or m x 0 < 1600)
    tree-cell p c d fs ss g s count hs run tree =
        let size = s.counted.cells.size in
        let inside : x < places p = omega arith in
        let value = value-at p g in
        matched-cell p k c d x r l o fs ss m s f inside value count hs run tree

    pub map-free : several_state ≤ get_or o r 0 → MapChecked pixels k x (x + 1) l m o false
    map-free h =
        never (λ p c d fs ss g s count hs run tree. let (i, j) = tree-cell p c d fs ss g s count hs run tree in omega arith)

    pub map-differs : (get_or o r 0 - first_node ≡ get_or m x 0 → ⊥) → MapChecked pixels k x (x + 1) l m o false
    map-differs d =
        never (λ p c d' fs ss g s count hs run tree. let a = (tree-cell p c d' fs ss g s count hs run tree).0 in d (omega arith))

    -- the lent node is compared with the cell
    pub map-tested : get_or o r 0 < several_state → MapChecked pixels k x (x + 1) l m o (eqb (get_or o r 0 - first_node) (get_or m x 0))
    map-tested h = by (eqb (get_or o r 0 - first_node) (get_or m x 0)) refl
      where
        by : (t : Bool) → eqb (get_or o r 0 - first_node) (get_or m x 0) ≡ t → MapChecked pixels k x (x + 1) l m o t
        by true q = map-yes (eqb-true (get_or o r 0 - first_node) (get_or m x 0) q) h
        by false q = map-differs (eqb-false (get_or o r 0 - first_node) (get_or m x 0) q)

-- the lent map of the pixels before x is checked
pub record MapCheckedTo (pixels : List ℕ) (k x : ℕ) (o m l : List ℕ) : Type 0 where
  pub size : length l ≡ length o
  pub most : x ≤ length o
  pub from :
      (p : Picture) (c d : ℕ) (fs ss : List ℕ) → p.pixels ≡ pixels → Matched p k c d 0 o fs ss m → Matched p k c d x l fs ss m

pub map-ready : (pixels : List ℕ) (k x : ℕ) (o m l : List ℕ) → LentMapReady pixels k 0 o m → MapCheckedTo pixels k x o m l → Parents l
map-ready pixels k x o m l r s =
    (s.from r.p r.c r.d r.fs r.ss r.is r.matched).counted.cells.forest.parents

pub map-turn :
    (pixels : List ℕ) (k x : ℕ) (o m l u : List ℕ) (b : Bool) → MapCheckedTo pixels k x o m l → x < length l → MapChecked pixels k x (x + 1) l m u b → b ≡ true →
    length u ≡ length l → MapCheckedTo pixels k (x + 1) o m u
map-turn pixels k x o m l u b s h t e z =
    let a = s.size in
    record {
      size = z ∙ s.size;
      most = omega arith;
      from = λ p c d fs ss g q. decided-yes e t p c d fs ss g (s.from p c d fs ss g q);
    }

pub map-fails :
    (pixels : List ℕ) (k x : ℕ) (o m l u : List ℕ) (b : Bool) → MapCheckedTo pixels k x o m l → MapChecked pixels k x (x + 1) l m u b → b ≡ false →
    MapChecked pixels k 0 (length o) o m u false
map-fails pixels k x o m l u b s t e =
    never (λ p c d fs ss g i. decided-never e t p c d fs ss g (s.from p c d fs ss g i))

pub map-end : (pixels : List ℕ) (k x : ℕ) (o m l : List ℕ) → MapCheckedTo pixels k x o m l → length l ≤ x → MapChecked pixels k 0 (length o) o m l true
map-end pixels k x o m l s h =
    let a = s.size in
    let b = s.most in
    yes
    (λ p c d fs ss g i.
    subst (λ (z : ℕ). Matched p k c d z l fs ss m) (let e : x ≡ length o = omega arith in e) (s.from p c d fs ss g i))
