-- Ancestors of nodes, and the climb from two nodes to their nearest common ancestor, whose height decides at which heights two places are joined.
use mathlib.Core.Path.{◌≡◌, sym, ap, subst, ◌∙◌}
use mathlib.Core.Logic.{◌⊎◌, inl, inr, ⊎_elim, by_cases, ◌↔◌}
use Prim.Native.Nat.{ℕ, zero, suc, ◌+◌, ◌-◌, ◌≤◌, ◌<◌}
use native.Mathlib.Decide.{dec_le, dec_lt}
use native.Mathlib.Omega.{arith}
use lib.ListN.{length}
use Rattle.picture.specs.Pictures.{Picture, places, value_at}
use Rattle.picture.specs.Components.{component_at}
use Rattle.picture.specs.Trees.{Node, is_branch, nodes, node_at, number_of, father_of, map_of}
use Rattle.lists.proofs.Tests.{clash}
use Rattle.topology.proofs.Connected.{conn-source, conn-trans}
use Rattle.topology.proofs.Keeping.{sec-mono}
use Rattle.topology.proofs.Adjacency.{At, Joined, joined-sym, joined-mono, at_next, at_own}
use Rattle.topology.proofs.Reached.{component-same}
use Rattle.topology.proofs.Accepted.{Accepted, value-byte}
use Rattle.topology.proofs.Nodes.{node, node-is, node-equal, number-found, heights-rise}
use Rattle.topology.proofs.Fathers.{NodeFrom, top, fork, father-is, father-found, number_small}
use Rattle.topology.proofs.Descent.{under, map-under, map_found, under_same, under-fork, Under, under-is, under-down, under_up}
use Rattle.topology.proofs.Grid.{picture-joined}

-- c is a or an ancestor of a, by the fathers P of m nodes
pub data Up (P : ℕ → ℕ) (m c : ℕ) : ℕ → Type 0 where
  stay : Up P m c c
  rise : {a : ℕ} → a < m → P a < m → Up P m c (P a) → Up P m c a

module _ {P : ℕ → ℕ} {m : ℕ} where
  pub up-trans : {b c a : ℕ} → Up P m c b → Up P m b a → Up P m c a
  up-trans u stay = u
  up-trans u (rise h f v) = rise h f (up-trans u v)

  -- of two ancestors of one node, one is the other or lies above it
  pub up-chain : {c d a : ℕ} → Up P m c a → Up P m d a → Up P m c d ⊎ Up P m d c
  up-chain stay v = inr v
  up-chain (rise h f u) stay = inl (rise h f u)
  up-chain (rise h f u) (rise g e v) = up-chain u v

  -- what has an ancestor among the nodes is a node
  pub up_from : {a j : ℕ} → a < m → Up P m a j → j < m
  up_from h stay = h
  up_from h (rise g f u) = g

  pub up_same : {Q : ℕ → ℕ} → ((i : ℕ) → i < m → P i ≡ Q i) → {a j : ℕ} → Up P m a j → Up Q m a j
  up_same e stay = stay
  up_same {Q} e {a} (rise {a = j} h f u) =
      let q = e j h in
      rise h (omega arith) (subst (λ (z : ℕ). Up Q m a z) q (up_same e u))

  -- numbers rise on the way up
  pub up-rises : ((i : ℕ) → i < m → P i < m → i < P i) → {a j : ℕ} → Up P m a j → j ≤ a
  up-rises r stay = omega arith
  up-rises r (rise {a = j} h f u) = let q = r j h f in let w = up-rises r u in omega arith

-- the climb: the smaller of two numbers goes to its father until they meet
pub data Meet (P : ℕ → ℕ) : ℕ → ℕ → ℕ → Type 0 where
  same : {a : ℕ} → Meet P a a a
  left : {a b r : ℕ} → a < b → Meet P (P a) b r → Meet P a b r
  right : {a b r : ℕ} → b < a → Meet P a (P b) r → Meet P a b r

-- the same fathers of m nodes, the same climb; it ends at one of the nodes
pub meet-same :
    (m : ℕ) (P Q : ℕ → ℕ) → ((i : ℕ) → i < m → P i ≡ Q i) → ((i : ℕ) → suc i < m → Q i < m) →
    {a b r : ℕ} → a < m → b < m → Meet P a b r → Meet Q a b r × (r < m)
meet-same m P Q e f ha hb same = (same, ha)
meet-same m P Q e f {a} {b} {r} ha hb (left l n) =
    let q = e a ha in
    let c = f a (omega arith) in
    let (u, h) = meet-same m P Q e f (subst (λ (j : ℕ). j < m) (sym q) c) hb n in
    (left l (subst (λ (j : ℕ). Meet Q j b r) q u), h)
meet-same m P Q e f {a} {b} {r} ha hb (right l n) =
    let q = e b hb in
    let c = f b (omega arith) in
    let (u, h) = meet-same m P Q e f ha (subst (λ (j : ℕ). j < m) (sym q) c) n in
    (right l (subst (λ (j : ℕ). Meet Q a j r) q u), h)

-- the father's number
abbrev pub father : Picture → ℕ → ℕ
father p i = father_of p (node_at p i)

module _ (p : Picture) where
  -- a father's height and number are greater
  pub father-higher : (i : ℕ) → i < length (nodes p) → father p i < 65535 → (node_at p i).height < (node_at p (father p i)).height
  father-higher i b = higher (father-is p (node_at p i) (node-is p i b).low)
    where
      higher : {r : ℕ} → NodeFrom p (node_at p i).first (suc (node_at p i).height) r → r < 65535 → (node_at p i).height < (node_at p r).height
      higher (top e f) h = absurd (omega arith)
      higher (fork k u v e f q) h =
          let s = sec-mono (let g : (node_at p i).height ≤ k = omega arith in g) (node_at p i).first (node-is p i b).place in
          let n = (number-found p k (node_at p i).first v s e).1 in
          let w = ap (λ (j : ℕ). (node_at p j).height) q ∙ ap (λ (n : Node). n.height) n in
          omega arith

module _ (p : Picture) (ok : Accepted p) where
  small : (i : ℕ) → i < length (nodes p) → i < 65535
  small i b = number_small p ok i b

  pub father-greater : (i : ℕ) → i < length (nodes p) → father p i < length (nodes p) → i < father p i
  father-greater i b c =
      by_cases (dec_lt i (father p i))
      (λ h. h)
      (λ h.
      absurd
      (let u = father-higher p i b (small (father p i) c) in
      let w = heights-rise p (father p i) i (omega arith) b in
      omega arith))

  -- the node of a number is what its own component goes down to
  pub under-node : (i : ℕ) → i < length (nodes p) → under p (node_at p i).height (node_at p i).first ≡ i
  under-node i b =
      let n = node-is p i b in
      let k = (node_at p i).height in
      let y = (node_at p i).first in
      let (h, e) = number-found p k y n.low n.place n.fork in
      under-fork p k y n.fork ∙
      node-equal p (number_of p k (component_at p k y)) i h b (e ∙ ap (node k) n.first)

  -- from a node whose father is missing nothing changes up to height 255
  under-root : (i l k : ℕ) → l + k ≡ 255 → father p i ≡ 65535 → (x : ℕ) → At p k x → under p k x ≡ i → under p 255 x ≡ i
  under-root i zero k e f x s h = ap (λ (j : ℕ). under p j x) (omega arith) ∙ h
  under-root i (suc l) k e f x s h =
      let s' = at_next p s in
      ⊎_elim
      (λ q. under-root i l (suc k) (omega arith) f x s' (q ∙ h))
      (λ q.
      absurd
      (let u = small (under p (suc k) x) (under-is p (suc k) x (omega arith) s').number in
      let w : under p (suc k) x ≡ 65535 = sym q ∙ (ap (father p) h ∙ f) in
      omega arith))
      (under_up p k x (omega arith) s)

  -- every node without a father is the node of the whole picture
  pub root_is : (i : ℕ) → i < length (nodes p) → father p i ≡ 65535 → i ≡ under p 255 0
  root_is i b e =
      let n = node-is p i b in
      let k = (node_at p i).height in
      let y = (node_at p i).first in
      let l = n.low in
      sym
      (under_same p (picture-joined p ok y n.place.within) ∙
      under-root i (255 - k) k (omega arith) e y n.place (under-node i b))

  -- every node but the last has a father among the nodes, and the last is the one root
  pub last-root : (i : ℕ) → suc i ≡ length (nodes p) → father p i ≡ 65535
  last-root i e =
      ⊎_elim
      (λ h. absurd (let g = father-greater i (omega arith) h in omega arith))
      (λ h. h.0)
      (father-found p (node_at p i) (node-is p i (omega arith)))

  pub father-of : (i : ℕ) → suc i < length (nodes p) → father p i < length (nodes p)
  father-of i b =
      ⊎_elim
      (λ h. h)
      (λ h.
      absurd
      (let l : ℕ = length (nodes p) - 1 in
      let a = root_is i (omega arith) h.0 in
      let c = root_is l (omega arith) (last-root l (omega arith)) in
      omega arith))
      (father-found p (node_at p i) (node-is p i (omega arith)))

  -- as the height rises the node of a place climbs
  pub under-climbs :
      (l k x : ℕ) → l + k ≤ 255 → At p k x → Up (father p) (length (nodes p)) (under p (l + k) x) (under p k x)
  under-climbs zero k x b s =
      subst (λ (j : ℕ). Up (father p) (length (nodes p)) (under p j x) (under p k x)) (omega arith) stay
  under-climbs (suc l) k x b s =
      let s' = at_next p s in
      let up : l + suc k ≡ suc l + k = omega arith in
      let r =
      subst (λ (j : ℕ). Up (father p) (length (nodes p)) (under p j x) (under p (suc k) x)) up
      (under-climbs l (suc k) x (omega arith) s')
      in
      ⊎_elim
      (λ q. subst (Up (father p) (length (nodes p)) (under p (suc l + k) x)) q r)
      (λ q.
      rise
      (under-is p k x (omega arith) s).number
      (subst (λ (j : ℕ). j < length (nodes p)) (sym q) (under-is p (suc k) x (omega arith) s').number)
      (subst (Up (father p) (length (nodes p)) (under p (suc l + k) x)) (sym q) r))
      (under_up p k x (omega arith) s)

  -- an ancestor of a place's node is its node at some height
  pub record Reach (x r : ℕ) : Type 0 where
    pub height : ℕ
    pub low : height ≤ 255
    pub place : At p height x
    pub is : under p height x ≡ r

  -- one step up
  reach-father : (x a : ℕ) → Reach x a → father p a < length (nodes p) → Reach x (father p a)
  reach-father x a r b = climb (father-is p (node_at p a) (node-is p a u.number).low) b
    where
      u : Under p r.height x a
      u = subst (Under p r.height x) r.is (under-is p r.height x r.low r.place)

      climb : {q : ℕ} → NodeFrom p (node_at p a).first (suc (node_at p a).height) q → q < length (nodes p) → Reach x q
      climb {q} (top e f) c = absurd (let g = small q c in omega arith)
      climb {q} (fork h c d e f g) l =
          by_cases (dec_le h r.height)
          (λ w. absurd (clash (u.between h c w) e))
          (λ w.
          let above : r.height ≤ h = omega arith in
          let j = joined-mono p above u.joined in
          let same = component-same p h j in
          record {
            height = h;
            low = d;
            place = conn-source j;
            is = under-fork p h x (ap (is_branch p h) same ∙ e) ∙ (ap (number_of p h) same ∙ sym g);
          })

  pub up-reach : (x : ℕ) {r a : ℕ} → Reach x a → Up (father p) (length (nodes p)) r a → Reach x r
  up-reach x h stay = h
  up-reach x h (rise {a} b c u) = up-reach x (reach-father x a h c) u

  -- a place is joined to an ancestor of its node from the ancestor's height on
  pub reach-joined : (z r : ℕ) → Reach z r → (k : ℕ) → k ≤ 255 → (node_at p r).height ≤ k → At p k z → Joined p k z (node_at p r).first
  reach-joined z r h k b l s =
      by_cases (dec_le h.height k)
      (λ w. joined-mono p w (subst (λ (i : ℕ). Joined p h.height z (node_at p i).first) h.is (under-is p h.height z h.low h.place).joined))
      (λ w.
      let q =
      under-down p h.height k z h.low h.place
      (subst (λ (i : ℕ). (node_at p i).height ≤ k) (sym h.is) l)
      (omega arith)
      s
      in
      subst (λ (i : ℕ). Joined p k z (node_at p i).first) (q ∙ h.is) (under-is p k z b s).joined)

  -- what two places have in common
  module _ (x y : ℕ) (bx : x < places p) (by : y < places p) where
    own : (z : ℕ) → z < places p → Reach z (map_of p z)
    own z b =
        record {
          height = value_at p z;
          low = value-byte p ok z;
          place = at_own p z b;
          is = sym (map-under p z);
        }

    -- the node where the climbs meet is an ancestor of both
    meet-up : {a b r : ℕ} → a < length (nodes p) → b < length (nodes p) → Meet (father p) a b r → Up (father p) (length (nodes p)) r a × Up (father p) (length (nodes p)) r b
    meet-up h g same = (stay, stay)
    meet-up {a} {b} h g (left l n) =
        let f = father-of a (omega arith) in let u = meet-up f g n in (rise h f u.0, u.1)
    meet-up {a} {b} h g (right l n) =
        let f = father-of b (omega arith) in let u = meet-up h f n in (u.0, rise g f u.1)

    -- no common ancestor has a smaller number than the node where the climbs meet
    meet-least : {a b r c : ℕ} → Meet (father p) a b r → Up (father p) (length (nodes p)) c a → Up (father p) (length (nodes p)) c b → r ≤ c
    meet-least same u v = up-rises father-greater u
    meet-least (left l n) stay v = absurd (let w = up-rises father-greater v in omega arith)
    meet-least (left l n) (rise h f u) v = meet-least n u v
    meet-least (right l n) u stay = absurd (let w = up-rises father-greater u in omega arith)
    meet-least (right l n) u (rise h f v) = meet-least n u v

    -- two places are joined at a height exactly if their nodes' nearest common ancestor is no higher
    pub meet-joined : {r : ℕ} → Meet (father p) (map_of p x) (map_of p y) r → (k : ℕ) → k ≤ 255 → At p k x → At p k y → Joined p k x y ↔ ((node_at p r).height ≤ k)
    meet-joined {r} n k b s t = (forward, backward)
      where
        climbs : (z : ℕ) → At p k z → Up (father p) (length (nodes p)) (under p k z) (map_of p z)
        climbs z w =
            let l = w.low in
            let up : (k - value_at p z) + value_at p z ≡ k = omega arith in
            subst (λ (j : ℕ). Up (father p) (length (nodes p)) (under p j z) (map_of p z)) up
            (subst (Up (father p) (length (nodes p)) (under p ((k - value_at p z) + value_at p z) z)) (sym (map-under p z))
            (under-climbs (k - value_at p z) (value_at p z) z (omega arith) (at_own p z w.within)))

        forward : Joined p k x y → (node_at p r).height ≤ k
        forward c =
            let e = under_same p c in
            let u = under-is p k x b s in
            let l =
            meet-least n (climbs x s) (subst (λ (i : ℕ). Up (father p) (length (nodes p)) i (map_of p y)) (sym e) (climbs y t))
            in
            let h = heights-rise p r (under p k x) l u.number in
            let w = u.low in
            omega arith

        backward : (node_at p r).height ≤ k → Joined p k x y
        backward l =
            let (u, v) = meet-up (map_found p ok x bx) (map_found p ok y by) n in
            conn-trans
            (reach-joined x r (up-reach x (own x bx) u) k b l s)
            (joined-sym p k (reach-joined y r (up-reach y (own y by) v) k b l t))
