-- The node that a component goes down to, as its height rises: the same through branches, its father at a fork. The map.
use mathlib.Core.Path.{◌≡◌, refl, sym, ap, subst, ◌∙◌}
use mathlib.Core.Bool.{true, false}
use mathlib.Core.Logic.{◌⊎◌, inl, inr, by_cases}
use Prim.Native.Nat.{ℕ, zero, suc, ◌≤◌, ◌<◌}
use native.Mathlib.Decide.{ℕ_discrete, dec_le}
use native.Mathlib.Omega.{arith}
use lib.ListN.{length}
use Rattle.picture.specs.Pictures.{Picture, places, value_at}
use Rattle.picture.specs.Components.{component_at}
use Rattle.picture.specs.Trees.{Node, is_branch, nodes, node_at, number_of, father_of, down_from, map_of}
use Rattle.lists.proofs.Tests.{on_test, on-elim, clash}
use Rattle.topology.proofs.Connected.{start, conn-trans}
use Rattle.topology.proofs.Keeping.{sec-mono}
use Rattle.topology.proofs.Adjacency.{At, Joined, joined-sym, joined-next, at_next, at_own}
use Rattle.topology.proofs.Reached.{component-same, first-joined}
use Rattle.topology.proofs.Accepted.{Accepted, places-some, value-byte}
use Rattle.topology.proofs.Branches.{Branch, branch-zero, branch-sound, branch-complete, branch-below}
use Rattle.topology.proofs.Nodes.{number-found}
use Rattle.topology.proofs.Fathers.{NodeFrom, top, fork, father-is}

-- the number of the node that the component of height k with x goes down to
unfoldable pub under : Picture → ℕ → ℕ → ℕ
under p k x = down_from k p (component_at p k x)

module _ (p : Picture) where
  pub map-under : (x : ℕ) → map_of p x ≡ under p (value_at p x) x
  unfolding map_of under
  map-under x = refl

  pub under_same : {k x y : ℕ} → Joined p k x y → under p k x ≡ under p k y
  unfolding under
  under_same {k} c = ap (down_from k p) (component-same p k c)

  -- through a branch nothing changes
  pub under-branch : (k x : ℕ) (s : At p (suc k) x) (b : Branch p k x) → under p (suc k) x ≡ under p k b.low
  unfolding under
  under-branch k x s b =
      on-elim (λ (m : ℕ). m ≡ down_from k p (component_at p k b.low)) (is_branch p (suc k) (component_at p (suc k) x))
      (λ e. ap (down_from k p) (branch-below p k x s b))
      (λ e. absurd (clash (branch-complete p k x s b) e))

  -- a component that is no branch is its own node
  pub under-fork : (k x : ℕ) → is_branch p k (component_at p k x) ≡ false → under p k x ≡ number_of p k (component_at p k x)
  unfolding under
  under-fork zero x e = refl
  under-fork (suc k) x e =
      on-elim (λ (m : ℕ). m ≡ number_of p (suc k) (component_at p (suc k) x)) (is_branch p (suc k) (component_at p (suc k) x))
      (λ g. absurd (clash g e))
      (λ g. refl)

  -- the node i that the component of height k with x goes down to: branches lie between
  pub record Under (k x i : ℕ) : Type 0 where
    pub number : i < length (nodes p)
    pub low : (node_at p i).height ≤ k
    pub joined : Joined p k x (node_at p i).first
    pub between : (j : ℕ) → (node_at p i).height < j → j ≤ k → is_branch p j (component_at p j (node_at p i).first) ≡ true

  fork-under : (k x : ℕ) → k ≤ 255 → At p k x → is_branch p k (component_at p k x) ≡ false → Under k x (number_of p k (component_at p k x))
  fork-under k x b s e =
      let (h, g) = number-found p k x b s e in
      record {
        number = h;
        low = let q : (node_at p (number_of p k (component_at p k x))).height ≡ k = ap (λ (n : Node). n.height) g in omega arith;
        joined = subst (λ (z : ℕ). Joined p k x z) (sym (ap (λ (n : Node). n.first) g)) (first-joined p k x s);
        between =
            λ j a c. absurd (let q : (node_at p (number_of p k (component_at p k x))).height ≡ k = ap (λ (n : Node). n.height) g in omega arith);
      }

  pub under-is : (k x : ℕ) → k ≤ 255 → At p k x → Under k x (under p k x)
  under-is zero x b s =
      subst (Under 0 x) (sym (under-fork 0 x (branch-zero p (component_at p 0 x)))) (fork-under 0 x b s (branch-zero p (component_at p 0 x)))
  under-is (suc k) x b s =
      on_test (is_branch p (suc k) (component_at p (suc k) x))
      (λ e.
      let i = branch-sound p k x s e in
      let u = under-is k i.low (omega arith) i.place in
      let c = conn-trans i.inside (joined-next p u.joined) in
      let l = u.low in
      subst (Under (suc k) x) (sym (under-branch k x s i))
      (record {
        number = u.number;
        low = omega arith;
        joined = c;
        between =
            λ j a d.
            by_cases (ℕ_discrete j (suc k))
            (λ q.
            subst (λ (m : ℕ). is_branch p m (component_at p m (node_at p (under p k i.low)).first) ≡ true) (sym q)
            (ap (is_branch p (suc k)) (sym (component-same p (suc k) c)) ∙ e))
            (λ q. u.between j a (omega arith));
      }))
      (λ e. subst (Under (suc k) x) (sym (under-fork (suc k) x e)) (fork-under (suc k) x b s e))

  -- the map of a pixel is the node that its component goes down to: only branches lie between
  pub map_is : Accepted p → (x : ℕ) → x < places p → Under (value_at p x) x (map_of p x)
  map_is ok x b = subst (Under (value_at p x) x) (sym (map-under x)) (under-is (value_at p x) x (value-byte p ok x) (at_own p x b))

  pub map_found : Accepted p → (x : ℕ) → x < places p → map_of p x < length (nodes p)
  map_found ok x b = (map_is ok x b).number

  pub nodes-some : Accepted p → 1 ≤ length (nodes p)
  nodes-some ok = let m = map_found ok 0 (places-some p ok) in omega arith

  -- the same node, the same component
  pub under-joined : (k x y : ℕ) → k ≤ 255 → At p k x → At p k y → under p k x ≡ under p k y → Joined p k x y
  under-joined k x y b s t e =
      let u = under-is k x b s in
      let w = under-is k y b t in
      conn-trans u.joined
      (joined-sym p k (subst (λ (i : ℕ). Joined p k y (node_at p i).first) (sym e) w.joined))

  -- down to a lower height above the node
  pub under-down : (k j x : ℕ) → k ≤ 255 → At p k x → (node_at p (under p k x)).height ≤ j → j ≤ k → At p j x → under p j x ≡ under p k x
  under-down zero j x b s h l t = ap (λ (m : ℕ). under p m x) (omega arith)
  under-down (suc k) j x b s h l t =
      by_cases (ℕ_discrete j (suc k))
      (λ q. ap (λ (m : ℕ). under p m x) q)
      (λ q.
      let u = under-is (suc k) x b s in
      let sk = sec-mono (let g : j ≤ k = omega arith in g) x t in
      let e : is_branch p (suc k) (component_at p (suc k) x) ≡ true =
      ap (is_branch p (suc k)) (component-same p (suc k) u.joined) ∙ u.between (suc k) (omega arith) (omega arith)
      in
      let i = branch-sound p k x s e in
      let same = under-branch k x s i ∙ under_same (i.only x sk (start s)) in
      under-down k j x (omega arith) sk (subst (λ (m : ℕ). (node_at p m).height ≤ j) same h) (omega arith) t ∙ sym same)

  -- one height up, in a component that is no branch: its father
  pub under-father :
      (k x : ℕ) → suc k ≤ 255 → At p k x → is_branch p (suc k) (component_at p (suc k) x) ≡ false →
      father_of p (node_at p (under p k x)) ≡ under p (suc k) x
  under-father k x b s e =
      let u = under-is k x (omega arith) s in
      let same = component-same p (suc k) (joined-next p u.joined) in
      up u.low u.between (ap (is_branch p (suc k)) (sym same) ∙ e)
      (father-is p (node_at p (under p k x)) (let l = u.low in omega arith)) ∙
      (ap (number_of p (suc k)) (sym same) ∙ sym (under-fork (suc k) x e))
    where
      up :
          {y h r : ℕ} → h ≤ k → ((j : ℕ) → h < j → j ≤ k → is_branch p j (component_at p j y) ≡ true) →
          is_branch p (suc k) (component_at p (suc k) y) ≡ false → NodeFrom p y (suc h) r → r ≡ number_of p (suc k) (component_at p (suc k) y)
      up a f e (top q g) = absurd (clash (g (suc k) (omega arith) b) e)
      up {y} a f e (fork i c d n g q) =
          by_cases (ℕ_discrete i (suc k))
          (λ w. q ∙ ap (λ (m : ℕ). number_of p m (component_at p m y)) w)
          (λ w.
          by_cases (dec_le i k)
          (λ v. absurd (clash (f i c v) n))
          (λ v. absurd (clash (g (suc k) (omega arith) (omega arith)) e)))

  -- in any component: the same node or its father
  pub under_up :
      (k x : ℕ) → suc k ≤ 255 → At p k x →
      (under p (suc k) x ≡ under p k x) ⊎ (father_of p (node_at p (under p k x)) ≡ under p (suc k) x)
  under_up k x b s =
      let s' = at_next p s in
      on_test (is_branch p (suc k) (component_at p (suc k) x))
      (λ e. let i = branch-sound p k x s' e in inl (under-branch k x s' i ∙ under_same (i.only x s (start s'))))
      (λ e. inr (under-father k x b s e))
