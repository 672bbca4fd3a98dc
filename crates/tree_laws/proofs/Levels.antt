-- The classes of places while the pixels of one height are joined: what their roots say of the components beneath, and what a link keeps.
use mathlib.Core.Path.{◌≡◌, refl, sym, ap, subst, ◌∙◌}
use mathlib.Core.Logic.{◌⊎◌, inl, inr, ⊎_elim, by_cases, ◌≢◌, ⊎_swap}
use Prim.Native.Nat.{ℕ, zero, suc, ◌≤◌, ◌<◌}
use native.Mathlib.Decide.{ℕ_discrete, dec_lt}
use native.Mathlib.Omega.{arith}
use lib.ListN.{length}
use Rattle.picture.specs.Pictures.{Picture, places, value_at}
use Rattle.picture.specs.Trees.{nodes, node_at, father_of, map_of}
use Rattle.lists.proofs.Updates.{put, put_same, put_other}
use Rattle.topology.proofs.Connected.{conn-source, conn-target, conn-trans, conn-closed}
use Rattle.topology.proofs.Adjacency.{Adj, At, Joined, joined-sym}
use Rattle.topology.proofs.Accepted.{Accepted, places-bound}
use Rattle.topology.proofs.Nodes.{nodes-few}
use Rattle.tree_laws.proofs.Counts.{so_far, so-places}
use Rattle.tree_laws.proofs.Beneath.{Low, beneath, low-at, beneath-number, beneath-joined, fork-father}
use Rattle.tree_laws.proofs.States.{node_state, several_state, nothing_state}

-- the roots after the class of hi is linked below lo
unfoldable pub relink : (ℕ → ℕ) → ℕ → ℕ → ℕ → ℕ
relink root lo hi z = put (λ y. y) hi lo (root z)

pub relink-moved : (root : ℕ → ℕ) (lo hi z : ℕ) → root z ≡ hi → relink root lo hi z ≡ lo
unfolding relink
relink-moved root lo hi z e = put_same (λ y. y) hi lo (root z) e

pub relink-kept : (root : ℕ → ℕ) (lo hi z : ℕ) → root z ≢ hi → relink root lo hi z ≡ root z
unfolding relink
relink-kept root lo hi z d = put_other (λ y. y) hi lo (root z) d

pub relink-same : (root : ℕ → ℕ) (lo hi y z : ℕ) → root y ≡ root z → relink root lo hi y ≡ relink root lo hi z
unfolding relink
relink-same root lo hi y z e = ap (put (λ y. y) hi lo) e

-- the state s of a root c: no component beneath, one that goes down to a node, or several
pub data State (p : Picture) (k : ℕ) (root : ℕ → ℕ) (c s : ℕ) : Type 0 where
  nothing : s ≡ nothing_state → ((z : ℕ) → Low p k z → root z ≡ c → ⊥) → State p k root c s
  single :
      (z : ℕ) → Low p k z → root z ≡ c → s ≡ node_state (beneath p k z) →
      ((w : ℕ) → Low p k w → root w ≡ c → beneath p k w ≡ beneath p k z) → State p k root c s
  several :
      (z w : ℕ) → s ≡ several_state → Low p k z → Low p k w → root z ≡ c → root w ≡ c → beneath p k z ≢ beneath p k w →
      State p k root c s

-- the entry f for the father of the node i: 65535 while its root says i, then a pixel that the father is the node of
pub data Father (p : Picture) (k : ℕ) (root st : ℕ → ℕ) (f i : ℕ) : Type 0 where
  unmet : (z : ℕ) → f ≡ 65535 → Low p k z → beneath p k z ≡ i → st (root z) ≡ node_state i → Father p k root st f i
  known : f < places p → father_of p (node_at p i) ≡ map_of p f → Father p k root st f i

-- the classes at height k
pub record Level (p : Picture) (k : ℕ) (root st fa : ℕ → ℕ) : Type 0 where
  pub own : (y : ℕ) → At p k y → Joined p k y (root y)
  pub fixed : (y : ℕ) → y < places p → root (root y) ≡ root y
  pub first : (y : ℕ) → y < places p → root y ≤ y
  pub later : (y : ℕ) → y < places p → k < value_at p y → (root y ≡ y) × (st y ≡ nothing_state)
  pub state : (y : ℕ) → At p k y → root y ≡ y → State p k root y (st y)
  pub fathers : (i : ℕ) → i < so_far p k → Father p k root st (fa i) i

-- what is in one class is joined
pub class-joined : {p : Picture} {k : ℕ} {root st fa : ℕ → ℕ} → Level p k root st fa → {y c : ℕ} → At p k y → root y ≡ c → Joined p k y c
class-joined {p} {k} v {y} s e = subst (λ (z : ℕ). Joined p k y z) e (v.own y s)

-- a place y of value v comes before x at height k: by value, then by place
abbrev pub Earlier : ℕ → ℕ → ℕ → ℕ → Type 0
Earlier k x y v = (v < k) ⊎ ((v ≡ k) × (y < x))

-- y is a place that comes before x at height k
pub record Upto (p : Picture) (k x y : ℕ) : Type 0 where
  pub within : y < places p
  pub passed : Earlier k x y (value_at p y)

-- neighbours up to x are in one class
pub record Edges (p : Picture) (k x : ℕ) (root : ℕ → ℕ) : Type 0 where
  pub same : (y z : ℕ) → Upto p k x y → Upto p k x z → Adj p y z → root y ≡ root z

-- all pixels of height k have joined the classes, with c nodes below it
pub record HeightJoined (p : Picture) (k c : ℕ) (root st fa : ℕ → ℕ) : Type 0 where
  pub ok : Accepted p
  pub low : k ≤ 255
  pub count : c ≡ so_far p k
  pub level : Level p k root st fa
  pub edges : Edges p k (places p) root

module _ (p : Picture) (k : ℕ) where
  -- the places passed do not change where none of value k lies between
  pub upto-gap : (a x y : ℕ) → ((z : ℕ) → a ≤ z → z < x → z < places p → value_at p z ≢ k) → Upto p k x y → Upto p k a y
  upto-gap a x y n u =
      record {
        within = u.within;
        passed =
            ⊎_elim (λ h. inl h)
            (λ h. by_cases (dec_lt y a) (λ b. inr (h.0, b)) (λ b. absurd (n y (omega arith) h.1 u.within h.0)))
            u.passed;
      }

  pub upto_before : (x y : ℕ) → y ≢ x → Upto p k (suc x) y → Upto p k x y
  upto_before x y d u =
      record { within = u.within; passed = ⊎_elim (λ h. inl h) (λ h. let g = h.1 in inr (h.0, omega arith)) u.passed }

  -- at the end of a height all its places are passed
  pub upto_all : (x y : ℕ) → places p ≤ x → At p k y → Upto p k x y
  upto_all x y b s =
      let w = s.within in
      let h = s.low in
      record { within = w; passed = by_cases (dec_lt (value_at p y) k) (λ g. inl g) (λ d. inr (omega arith, omega arith)) }

  -- and the next height begins
  pub upto_next : (y : ℕ) → Upto p (suc k) 0 y → At p k y
  upto_next y u =
      record { within = u.within; low = ⊎_elim (λ h. omega arith) (λ h. absurd (let g = h.1 in omega arith)) u.passed }

  pub edges-upto : (a j x : ℕ) (root : ℕ → ℕ) → ((y : ℕ) → Upto p j x y → Upto p k a y) → Edges p k a root → Edges p j x root
  edges-upto a j x root f e = record { same = λ y z u v t. e.same y z (f y u) (f z v) t }

-- what a link at the pixel x makes of the states a and b: the new state s, and the fathers' entries
pub data Merged (x a b s : ℕ) (fa fb : ℕ → ℕ) : Type 0 where
  left : a ≡ 65535 → s ≡ b → ((i : ℕ) → i < 1600 → fb i ≡ fa i) → Merged x a b s fa fb
  right : b ≡ 65535 → s ≡ a → ((i : ℕ) → i < 1600 → fb i ≡ fa i) → Merged x a b s fa fb
  both :
      a ≢ nothing_state → b ≢ nothing_state → s ≡ several_state →
      ((i : ℕ) → i < 1600 → (a ≡ node_state i) ⊎ (b ≡ node_state i) → fb i ≡ x) →
      ((i : ℕ) → i < 1600 → a ≢ node_state i → b ≢ node_state i → fb i ≡ fa i) → Merged x a b s fa fb

-- the two states exchanged
pub merged-exchange : {x a b s : ℕ} {fa fb : ℕ → ℕ} → Merged x a b s fa fb → Merged x b a s fa fb
merged-exchange (left e q f) = right e q f
merged-exchange (right e q f) = left e q f
merged-exchange (both da db q f g) = both db da q (λ i h e. f i h (⊎_swap e)) (λ i h d e. g i h e d)

module _ (p : Picture) (k x : ℕ) (root : ℕ → ℕ) (e : Edges p k x root) where
  -- what is joined within the places passed is in one class
  pub edges-joined : (j : ℕ) → ((y : ℕ) → At p j y → Upto p k x y) → {y z : ℕ} → Joined p j y z → root y ≡ root z
  edges-joined j f {y} c =
      (conn-closed (λ z. (root y ≡ root z) × At p j z) (refl, conn-source c)
      (λ u z i r q. (i.0 ∙ e.same u z (f u i.1) (f z q) r, q))
      c
      ).0

pub edges-lower : (p : Picture) (k x : ℕ) (root : ℕ → ℕ) → k ≤ 256 → Edges p k x root → (z w : ℕ) → Low p k z → Low p k w → beneath p k z ≡ beneath p k w → root z ≡ root w
edges-lower p zero x root b e z w l m q = absurd (let h = l.less in omega arith)
edges-lower p (suc j) x root b e z w l m q =
    edges-joined p (suc j) x root e j
    (λ y s. record { within = s.within; passed = inl (let h = s.low in omega arith) })
    (beneath-joined p j z w b l m q)

-- a root with a state is a class that holds a lower place
pub member : {p : Picture} {k : ℕ} {root : ℕ → ℕ} {c s : ℕ} → State p k root c s → s ≢ nothing_state → (z : ℕ) × Low p k z × (root z ≡ c)
member (nothing e f) d = absurd (d e)
member (single z l r e f) d = (z, l, r)
member (several z w e l m r q g) d = (z, l, r)

module _ (p : Picture) (ok : Accepted p) (k : ℕ) (low : k ≤ 255) where
  pub number-few : (z : ℕ) → Low p k z → beneath p k z < 1600
  number-few z l =
      let a = beneath-number p k z (omega arith) l in
      let b = nodes-few p in
      let c = places-bound p ok in
      omega arith

  -- a class whose lower places are the same keeps its state
  state-joined :
      {root new : ℕ → ℕ} {c d s : ℕ} → ((z : ℕ) → Low p k z → new z ≡ d → root z ≡ c) → ((z : ℕ) → root z ≡ c → new z ≡ d) →
      State p k root c s → State p k new d s
  state-joined f g (nothing e h) = nothing e (λ z l r. h z l (f z l r))
  state-joined f g (single z l r e h) = single z l (g z r) e (λ w m q. h w m (f w m q))
  state-joined f g (several z w e l m r q h) = several z w e l m (g z r) (g w q) h

  state-empty : {root : ℕ → ℕ} {c s : ℕ} → s ≡ nothing_state → State p k root c s → (z : ℕ) → Low p k z → root z ≡ c → ⊥
  state-empty h (nothing e f) = f
  state-empty h (single z l r e f) = absurd (let b = number-few z l in omega arith)
  state-empty h (several z w e l m r q g) = absurd (omega arith)

  -- a root that says a node holds a place that goes down to it
  state-named : {root : ℕ → ℕ} {c s i : ℕ} → i < 1600 → s ≡ node_state i → State p k root c s → (z : ℕ) × Low p k z × (root z ≡ c) × (beneath p k z ≡ i)
  state-named b h (nothing e f) = absurd (omega arith)
  state-named b h (single z l r e f) = (z, l, r, omega arith)
  state-named b h (several z w e l m r q g) = absurd (omega arith)

  module _ (x lo hi : ℕ) (root st fa : ℕ → ℕ) (v : Level p k root st fa)
      (lower : (z w : ℕ) → Low p k z → Low p k w → beneath p k z ≡ beneath p k w → root z ≡ root w)
      (less : lo < hi) (at-lo : root lo ≡ lo) (at-hi : root hi ≡ hi) (joins : Joined p k lo hi) (near : Joined p k x lo) (value : value_at p x ≡ k) where
    -- a lower place of each class: they go down to different nodes
    apart : (z w : ℕ) → Low p k z → Low p k w → root z ≡ lo → root w ≡ hi → beneath p k z ≢ beneath p k w
    apart z w l m a b e = let h : lo ≡ hi = sym a ∙ (lower z w l m e ∙ b) in omega arith

    own-joined : (z : ℕ) → Low p k z → (root z ≡ lo) ⊎ (root z ≡ hi) → Joined p k x z
    own-joined z l (inl e) = conn-trans near (joined-sym p k (class-joined v (low-at p l) e))
    own-joined z l (inr e) = conn-trans near (conn-trans joins (joined-sym p k (class-joined v (low-at p l) e)))

    state-lo : State p k root lo (st lo)
    state-lo = v.state lo (conn-source joins) at-lo

    state-hi : State p k root hi (st hi)
    state-hi = v.state hi (conn-target joins) at-hi

    -- the father of a node that one of the two classes says
    pub met : (i : ℕ) → i < 1600 → st lo ≢ nothing_state → st hi ≢ nothing_state → (st lo ≡ node_state i) ⊎ (st hi ≡ node_state i) → father_of p (node_at p i) ≡ map_of p x
    met i b da db (inl e) =
        let (z, l, r, q) = state-named b e state-lo in
        let (w, m, t) = member state-hi db in
        ap (λ (j : ℕ). father_of p (node_at p j)) (sym q) ∙
        fork-father p k x z w low value l m (own-joined z l (inl r)) (own-joined w m (inr t)) (apart z w l m r t)
    met i b da db (inr e) =
        let (z, l, r, q) = state-named b e state-hi in
        let (w, m, t) = member state-lo da in
        ap (λ (j : ℕ). father_of p (node_at p j)) (sym q) ∙
        fork-father p k x z w low value l m (own-joined z l (inr r)) (own-joined w m (inl t)) (λ g. apart w z m l t r (sym g))

    pub met-number : (i : ℕ) → i < 1600 → (st lo ≡ node_state i) ⊎ (st hi ≡ node_state i) → i < length (nodes p)
    met-number i b (inl e) =
        let (z, l, r, q) = state-named b e state-lo in let h = beneath-number p k z (omega arith) l in omega arith
    met-number i b (inr e) =
        let (z, l, r, q) = state-named b e state-hi in let h = beneath-number p k z (omega arith) l in omega arith

    module _ (s : ℕ) (fb : ℕ → ℕ) (merged : Merged x (st lo) (st hi) s fa fb) where
      new : ℕ → ℕ
      new = relink root lo hi

      kept : ℕ → ℕ
      kept = put st lo s

      new-lo : (z : ℕ) → root z ≡ lo → new z ≡ lo
      unfolding new
      new-lo z e = relink-kept root lo hi z (λ q. let h : lo ≡ hi = sym e ∙ q in omega arith) ∙ e

      new-hi : (z : ℕ) → root z ≡ hi → new z ≡ lo
      unfolding new
      new-hi z e = relink-moved root lo hi z e

      new-other : (z : ℕ) → root z ≢ hi → new z ≡ root z
      unfolding new
      new-other z d = relink-kept root lo hi z d

      kept-other : (y : ℕ) → y ≢ lo → kept y ≡ st y
      unfolding kept
      kept-other y d = put_other st lo s y d

      kept-lo : (y : ℕ) → y ≡ lo → kept y ≡ s
      unfolding kept
      kept-lo y e = put_same st lo s y e

      -- whose root is lo now
      came : (z : ℕ) → new z ≡ lo → (root z ≡ lo) ⊎ (root z ≡ hi)
      came z e = by_cases (ℕ_discrete (root z) hi) (λ q. inr q) (λ d. inl (sym (new-other z d) ∙ e))

      -- a root now was one before, and not hi
      was-root : (y : ℕ) → new y ≡ y → (root y ≡ y) × (y ≢ hi)
      was-root y e =
          by_cases (ℕ_discrete (root y) hi)
          (λ q. absurd (let h : y ≡ lo = sym e ∙ new-hi y q in let g : lo ≡ hi = sym at-lo ∙ (ap root (sym h) ∙ q) in omega arith))
          (λ d. let r = sym (new-other y d) ∙ e in (r, λ q. d (r ∙ q)))

      state-merged : Merged x (st lo) (st hi) s fa fb → State p k new lo s
      state-merged (left e q f) =
          subst (State p k new lo) (sym q)
          (state-joined (λ z l r. ⊎_elim (λ g. absurd (state-empty e state-lo z l g)) (λ g. g) (came z r)) new-hi state-hi)
      state-merged (right e q f) =
          subst (State p k new lo) (sym q)
          (state-joined (λ z l r. ⊎_elim (λ g. g) (λ g. absurd (state-empty e state-hi z l g)) (came z r)) new-lo state-lo)
      state-merged (both da db q f g) =
          let (z, l, r) = member state-lo da in
          let (w, m, t) = member state-hi db in
          several z w q l m (new-lo z r) (new-hi w t) (apart z w l m r t)

      -- an entry that stays
      stays : (i : ℕ) → i < 1600 → fb i ≡ fa i → (st lo ≡ node_state i → s ≡ node_state i) → (st hi ≡ node_state i → s ≡ node_state i) → Father p k root st (fa i) i → Father p k new kept (fb i) i
      stays i b e f g (known n h) = known (subst (λ (j : ℕ). j < places p) (sym e) n) (h ∙ ap (map_of p) (sym e))
      stays i b e f g (unmet z n l q h) =
          unmet z (e ∙ n) l q
          (by_cases (ℕ_discrete (root z) hi)
          (λ t. kept-lo (new z) (new-hi z t) ∙ g (sym (ap st t) ∙ h))
          (λ d.
          by_cases (ℕ_discrete (root z) lo)
          (λ t. kept-lo (new z) (new-lo z t) ∙ f (sym (ap st t) ∙ h))
          (λ t. ap kept (new-other z d) ∙ (kept-other (root z) t ∙ h))))

      father-merged : Merged x (st lo) (st hi) s fa fb → (i : ℕ) → i < 1600 → Father p k root st (fa i) i → Father p k new kept (fb i) i
      father-merged (left e q f) i b h = stays i b (f i b) (λ g. absurd (omega arith)) (λ g. q ∙ g) h
      father-merged (right e q f) i b h = stays i b (f i b) (λ g. q ∙ g) (λ g. absurd (omega arith)) h
      father-merged (both da db q f g) i b h =
          by_cases (ℕ_discrete (st lo) (node_state i))
          (λ e. hit (inl e))
          (λ d.
          by_cases (ℕ_discrete (st hi) (node_state i))
          (λ e. hit (inr e))
          (λ t. stays i b (g i b d t) (λ w. absurd (d w)) (λ w. absurd (t w)) h))
        where
          hit : (st lo ≡ node_state i) ⊎ (st hi ≡ node_state i) → Father p k new kept (fb i) i
          hit w =
              let e = f i b w in
              known (subst (λ (j : ℕ). j < places p) (sym e) (conn-source near).within) (met i b da db w ∙ ap (map_of p) (sym e))

      linked-new : Level p k new kept fb
      linked-new =
          record {
            own =
                λ y t.
                by_cases (ℕ_discrete (root y) hi)
                (λ e.
                subst (λ (z : ℕ). Joined p k y z) (sym (new-hi y e))
                (conn-trans (class-joined v t e) (joined-sym p k joins)))
                (λ d. subst (λ (z : ℕ). Joined p k y z) (sym (new-other y d)) (v.own y t));
            fixed =
                λ y b.
                by_cases (ℕ_discrete (root y) hi)
                (λ e. ap new (new-hi y e) ∙ (new-lo lo at-lo ∙ sym (new-hi y e)))
                (λ d.
                let r = v.fixed y b in
                ap new (new-other y d) ∙ (new-other (root y) (λ e. d (sym r ∙ e)) ∙ (r ∙ sym (new-other y d))));
            first =
                λ y b.
                let f = v.first y b in
                by_cases (ℕ_discrete (root y) hi)
                (λ e. let g = new-hi y e in omega arith)
                (λ d. let g = new-other y d in omega arith);
            later =
                λ y b h.
                let (r, q) = v.later y b h in
                let dl : y ≢ lo = λ e. let g = (conn-source joins).low in let i = ap (value_at p) e in omega arith in
                let dh : y ≢ hi = λ e. let g = (conn-target joins).low in let i = ap (value_at p) e in omega arith in
                (new-other y (λ e. dh (sym r ∙ e)) ∙ r, kept-other y dl ∙ q);
            state =
                λ y t e.
                let (r, d) = was-root y e in
                by_cases (ℕ_discrete y lo)
                (λ q.
                subst (λ (z : ℕ). State p k new z (kept z)) (sym q)
                (subst (State p k new lo) (sym (kept-lo lo refl)) (state-merged merged)))
                (λ n.
                subst (State p k new y) (sym (kept-other y n))
                (state-joined
                (λ z l g.
                by_cases (ℕ_discrete (root z) hi)
                (λ h. absurd (n (sym g ∙ new-hi z h)))
                (λ h. sym (new-other z h) ∙ g))
                (λ z g. new-other z (λ h. d (sym g ∙ h)) ∙ g)
                (v.state y t r)));
            fathers =
                λ i b.
                let few = so-places p k (omega arith) in
                let n = places-bound p ok in
                father-merged merged i (omega arith) (v.fathers i b);
          }

      -- linking two roots whose classes are joined keeps what the classes say
      pub linked : Level p k (relink root lo hi) (put st lo s) fb
      unfolding new kept
      linked = linked-new
