-- A lent tree is checked while the pixels of a height join the classes: at each link the fathers of the nodes that meet.
use mathlib.Core.Path.{◌≡◌, refl, sym, ap, subst, ◌∙◌}
use mathlib.Core.Bool.{Bool, true, false}
use mathlib.Core.Logic.{◌⊎◌, inl, inr, ⊎_elim, by_cases, ◌≢◌}
use mathlib.Core.List.{List}
use Prim.Native.Nat.{ℕ, suc, ◌-◌, ◌≤◌, ◌<◌}
use native.Mathlib.Decide.{ℕ_discrete}
use native.Mathlib.Omega.{arith}
use lib.ListN.{length, get_or}
use Rattle.picture.specs.Pictures.{Picture, places}
use Rattle.picture.specs.Trees.{nodes, node_at, father_of, map_of}
use Rattle.topology.proofs.Accepted.{Accepted}
use Rattle.lists.proofs.Updates.{put, put_same, put_other}
use Rattle.tree_laws.proofs.Decided.{Decided, yes, never, decided-yes, decided-never}
use Rattle.tree_laws.proofs.Levels.{Earlier, Merged, left, right, both}
use Rattle.tree_laws.proofs.Forests.{Found, ordered, ordered-most, Linked, linked-size, Parents}
use Rattle.tree_laws.proofs.Marks.{Names}
use Rattle.tree_laws.proofs.Classes.{Classes}
use Rattle.tree_laws.proofs.Joins.{Near, Edge, Linkable, edge-touch, edge-within, near-skip, near_same, near-linkable, near-linked, near-met}
use Rattle.tree_laws.proofs.Chains.{upto-of}
use Rattle.tree_laws.proofs.States.{first_node, node_state, several_state, nothing_state}

-- the lent entries of two lists contradict the tree: a node's father is the node of a pixel, and their entries differ
pub record Differs (p : Picture) (fs m : List ℕ) : Type 0 where
  pub at : ℕ
  pub pixel : ℕ
  pub number : at < length (nodes p)
  pub place : pixel < places p
  pub father : father_of p (node_at p at) ≡ map_of p pixel
  pub differs : get_or fs at 0 ≢ get_or m pixel 0

-- each entry that is a pixel has been compared
pub record Agree (fa : ℕ → ℕ) (fs m : List ℕ) : Type 0 where
  pub same : (i : ℕ) → i < 1600 → (fa i ≡ 65535) ⊎ (get_or fs i 0 ≡ get_or m (fa i) 0)

-- the pixels of height k before x have joined, and the fathers met so far agree
pub record Checking (p : Picture) (k x : ℕ) (l fs m : List ℕ) : Type 0 where
  pub ok : Accepted p
  pub fa : ℕ → ℕ
  pub classes : Classes p k x l fa
  pub agree : Agree fa fs m

-- the first j neighbours of x are joined, and the lent fathers agree so far
pub record NearBy (p : Picture) (k x j r : ℕ) (l fs m : List ℕ) : Type 0 where
  pub fa : ℕ → ℕ
  pub near : Near p k x j r l fa
  pub agree : Agree fa fs m

-- the entry of the node that a state names agrees with the pixel's
unfoldable pub Agrees : ℕ → ℕ → List ℕ → List ℕ → Bool → Type 0
Agrees s x fs m =
    Decided ((i : ℕ) → i < 1600 → s ≡ node_state i → get_or fs i 0 ≡ get_or m x 0) ((s < several_state) × (get_or fs (s - first_node) 0 ≢ get_or m x 0))

-- the states a and b merged to s, the lent fathers of the nodes that meet being the lent node of x
pub data MergedBy (x a b s : ℕ) (fs m : List ℕ) : Type 0 where
  by_left : a ≡ nothing_state → s ≡ b → MergedBy x a b s fs m
  by_right : b ≡ nothing_state → s ≡ a → MergedBy x a b s fs m
  by_both :
      a ≢ nothing_state → b ≢ nothing_state → s ≡ several_state →
      ((i : ℕ) → i < 1600 → (a ≡ node_state i) ⊎ (b ≡ node_state i) → get_or fs i 0 ≡ get_or m x 0) → MergedBy x a b s fs m

-- what a checked link of two roots leaves: the link, with the root z, or a difference, with the number of cells for z
pub data Joint (x q r : ℕ) (l fs m : List ℕ) (o : List ℕ) (z : ℕ) : Type 0 where
  linked : (s : ℕ) → first_node ≤ s → Linked q r s l o z → MergedBy x (get_or l q 0) (get_or l r 0) s fs m → Joint x q r l fs m o z
  differs :
      (i : ℕ) → i < 1600 → get_or l q 0 ≢ nothing_state → get_or l r 0 ≢ nothing_state → (get_or l q 0 ≡ node_state i) ⊎ (get_or l r 0 ≡ node_state i) →
      get_or fs i 0 ≢ get_or m x 0 → length o ≡ length l → z ≡ length l → Joint x q r l fs m o z

-- the entries with x at the node that a state names
marked : ℕ → ℕ → (ℕ → ℕ) → ℕ → ℕ
marked s x fa i = put fa (s - first_node) x i

merged_by :
    (x a b s : ℕ) (fs m : List ℕ) (fa : ℕ → ℕ) → first_node ≤ a → first_node ≤ b → MergedBy x a b s fs m → Agree fa fs m →
    (fb : ℕ → ℕ) × Merged x a b s fa fb × Agree fb fs m
unfolding marked
merged_by x a b s fs m fa ra rb (by_left e q) g = (fa, left e q (λ i h. refl), g)
merged_by x a b s fs m fa ra rb (by_right e q) g = (fa, right e q (λ i h. refl), g)
merged_by x a b s fs m fa ra rb (by_both da db q f) g = (
  marked b x (marked a x fa),
  both da db q hit miss,
  record {
    same =
        λ i h.
        by_cases (ℕ_discrete b (node_state i))
        (λ e. inr (f i h (inr e) ∙ ap (λ (z : ℕ). get_or m z 0) (sym (hit i h (inr e)))))
        (λ d.
        by_cases (ℕ_discrete a (node_state i))
        (λ e. inr (f i h (inl e) ∙ ap (λ (z : ℕ). get_or m z 0) (sym (hit i h (inl e)))))
        (λ t.
        let r = miss i h t d in
        ⊎_elim (λ z. inl (r ∙ z)) (λ z. inr (z ∙ ap (λ (y : ℕ). get_or m y 0) (sym r))) (g.same i h)));
  },
)
  where
    own : (s : ℕ) (fa : ℕ → ℕ) (i : ℕ) → first_node ≤ s → s ≡ node_state i → marked s x fa i ≡ x
    own s fa i r e = put_same fa (s - first_node) x i (omega arith)

    other : (s : ℕ) (fa : ℕ → ℕ) (i : ℕ) → first_node ≤ s → s ≢ node_state i → marked s x fa i ≡ fa i
    other s fa i r d = put_other fa (s - first_node) x i (λ e. d (omega arith))

    hit : (i : ℕ) → i < 1600 → (a ≡ node_state i) ⊎ (b ≡ node_state i) → marked b x (marked a x fa) i ≡ x
    hit i h e =
        by_cases (ℕ_discrete b (node_state i))
        (λ z. own b (marked a x fa) i rb z)
        (λ z. other b (marked a x fa) i rb z ∙ ⊎_elim (λ y. own a fa i ra y) (λ y. absurd (z y)) e)

    miss : (i : ℕ) → i < 1600 → a ≢ node_state i → b ≢ node_state i → marked b x (marked a x fa) i ≡ fa i
    miss i h d e = other b (marked a x fa) i rb e ∙ other a fa i ra d

pub agrees-none : (s x : ℕ) (fs m : List ℕ) → several_state ≤ s → Agrees s x fs m true
unfolding Agrees
agrees-none s x fs m h = yes (λ i b q. absurd (omega arith))

pub agrees-same : (s x t : ℕ) (fs m : List ℕ) → t ≡ s - first_node → first_node ≤ s → get_or fs t 0 ≡ get_or m x 0 → Agrees s x fs m true
unfolding Agrees
agrees-same s x t fs m e r h = yes (λ i b g. let z : i ≡ t = omega arith in ap (λ (y : ℕ). get_or fs y 0) z ∙ h)

pub agrees-not : (s x t : ℕ) (fs m : List ℕ) → t ≡ s - first_node → s < several_state → (get_or fs t 0 ≡ get_or m x 0 → ⊥) → Agrees s x fs m false
unfolding Agrees
agrees-not s x t fs m e b h = never (b, λ g. h (ap (λ (y : ℕ). get_or fs y 0) e ∙ g))

module _ (x q r n : ℕ) (l fs m : List ℕ) (few : n ≤ 1600) (na : Names n (get_or l q 0)) (nb : Names n (get_or l r 0)) where
  pub joint-left : (o : List ℕ) (z : ℕ) → get_or l q 0 ≡ nothing_state → Linked q r (get_or l r 0) l o z → Joint x q r l fs m o z
  joint-left o z e h = linked (get_or l r 0) nb.root h (by_left e refl)

  pub joint-right : (o : List ℕ) (z : ℕ) → get_or l r 0 ≡ nothing_state → Linked q r (get_or l q 0) l o z → Joint x q r l fs m o z
  joint-right o z e h = linked (get_or l q 0) na.root h (by_right e refl)

  module _ (da : get_or l q 0 ≢ nothing_state) (db : get_or l r 0 ≢ nothing_state) where
    -- the state s is that of one of the two
    pub joint-differs : (s : ℕ) → (get_or l q 0 ≡ s) ⊎ (get_or l r 0 ≡ s) → Names n s → Agrees s x fs m false → Joint x q r l fs m l (length l)
    unfolding Agrees
    joint-differs s e names a =
        let (b, d) = decided-never refl a in
        let g = names.root in
        let h = names.node b in
        differs (s - first_node) (omega arith) da db (⊎_elim (λ t. inl (omega arith)) (λ t. inr (omega arith)) e) d refl refl

    pub joint-both : (o : List ℕ) (z : ℕ) → Agrees (get_or l q 0) x fs m true → Agrees (get_or l r 0) x fs m true → Linked q r several_state l o z → Joint x q r l fs m o z
    unfolding Agrees
    joint-both o z a b h =
        linked several_state (omega arith) h
        (by_both da db refl (λ i g. ⊎_elim (decided-yes refl a i g) (decided-yes refl b i g)))

-- x is joined to some of its neighbours, and y is the next
pub record EdgeCheckReady (pixels : List ℕ) (k x r y : ℕ) (l fs m : List ℕ) : Type 0 where
  pub p : Picture
  pub j : ℕ
  pub ok : Accepted p
  pub is : p.pixels ≡ pixels
  pub edge : Edge p x j y
  pub near : NearBy p k x j r l fs m

-- then x is joined to y too, or the lent lists differ from the tree: q is the root, or the number of cells
pub record EdgeChecked (pixels : List ℕ) (k x r y : ℕ) (l fs m : List ℕ) (q : ℕ) (o : List ℕ) : Type 0 where
  pub size : length o ≡ length l
  pub near :
      (p : Picture) (j : ℕ) → Accepted p → p.pixels ≡ pixels → Edge p x j y → NearBy p k x j r l fs m → q < length l →
      NearBy p k x (suc j) q o fs m
  pub differs :
      (p : Picture) (j : ℕ) → Accepted p → p.pixels ≡ pixels → Edge p x j y → NearBy p k x j r l fs m → length l ≤ q → Differs p fs m

module _ (pixels : List ℕ) (k x r y : ℕ) (l fs m : List ℕ) where
  root_in : (p : Picture) (j : ℕ) → Accepted p → NearBy p k x j r l fs m → r < length l
  root_in p j ok n =
      let f = n.near.classes.level.first x n.near.within in
      let e = n.near.is in
      let b = n.near.within in
      let s = n.near.classes.size in
      omega arith

  pub checked-bounds : EdgeCheckReady pixels k x r y l fs m → (y < length pixels) × (y < length l)
  checked-bounds e = edge-within e.p e.ok k x e.j y pixels l e.edge e.is e.near.near.classes.size

  pub checked-parents : EdgeCheckReady pixels k x r y l fs m → Parents l
  checked-parents e = e.near.near.classes.forest.parents

  pub checked-skip : (Earlier k x y (get_or pixels y 0) → ⊥) → EdgeChecked pixels k x r y l fs m r l
  checked-skip c =
      record {
        size = refl;
        near =
            λ p j ok e g n b.
            record {
              fa = n.fa;
              near =
                  near-skip p ok k x j r l n.fa n.near y g
                  (λ u. c (subst (λ (v : List ℕ). Earlier k x y (get_or v y 0)) e u.passed));
              agree = n.agree;
            };
        differs = λ p j ok e g n b. absurd (let h = root_in p j ok n in omega arith);
      }

  module _ (c : Earlier k x y (get_or pixels y 0)) (o : List ℕ) (q : ℕ) (f : Found l y q o) where
    pub checked-same : q ≡ r → EdgeChecked pixels k x r y l fs m r o
    checked-same h =
        record {
          size = f.walked.size;
          near =
              λ p j ok e g n b.
              let (s, t) = edge-touch p ok k x j y g in
              record { fa = n.fa; near = near_same p ok k x j r l n.fa n.near y (upto-of p e s c) t f g h; agree = n.agree };
          differs = λ p j ok e g n b. absurd (let i = root_in p j ok n in omega arith);
        }

    linkable : (p : Picture) (j : ℕ) → Accepted p → p.pixels ≡ pixels → Edge p x j y → NearBy p k x j r l fs m → Linkable x q r o
    linkable p j ok e g n =
        let (s, t) = edge-touch p ok k x j y g in
        near-linkable p ok k x j r l n.fa n.near y (upto-of p e s c) t f

    pub checked-join : EdgeCheckReady pixels k x r y l fs m → Linkable x q r o
    checked-join e = linkable e.p e.j e.ok e.is e.edge e.near

    -- the two roots are linked, or the lent lists differ
    pub checked-joined : (u : List ℕ) (z : ℕ) → q ≢ r → Joint x q r o fs m u z → EdgeChecked pixels k x r y l fs m z u
    checked-joined u z d (linked s big h g) =
        record {
          size = linked-size h ∙ f.walked.size;
          near =
              λ p j ok i a n b.
              let (w, t) = edge-touch p ok k x j y a in
              let names = linkable p j ok i a n in
              let (fb, merged, agree) =
              merged_by x (get_or o q 0) (get_or o r 0) s fs m n.fa names.name-q.root names.name-r.root g n.agree
              in
              record {
                fa = fb;
                near =
                    subst (λ (v : List ℕ). Near p k x (suc j) z v fb) (sym h.cells)
                    (near-linked p ok k x j r l n.fa n.near y (upto-of p i w c) t f h.order s fb big merged a);
                agree = agree;
              };
          differs = λ p j ok i a n b. absurd (let w = root_in p j ok n in omega (arith, ordered-most h.order));
        }
    checked-joined u z d (differs i b dq dr a e s is) =
        record {
          size = s ∙ f.walked.size;
          near = λ p j ok i a n v. absurd (let g = f.walked.size in omega arith);
          differs =
              λ p j ok g t n v.
              let (w, touch) = edge-touch p ok k x j y t in
              let (lo, hi, order) = ordered q r d in
              let (num, father) = near-met p ok k x j r l n.fa n.near y (upto-of p g w c) touch f order i b dq dr a in
              record { at = i; pixel = x; number = num; place = n.near.within; father = father; differs = e };
        }
