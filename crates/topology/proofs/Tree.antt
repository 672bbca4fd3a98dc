-- The component tree as a reader looks for it: heights rise along fathers, one root, no node with one son.
use mathlib.Core.Path.{◌≡◌, sym, ap, ◌∙◌}
use mathlib.Core.Bool.{Bool, false, ◌&&◌, not}
use mathlib.Core.Logic.{by_cases, ◌≢◌}
use Prim.Native.Nat.{ℕ, suc, ◌≤◌, ◌<◌}
use native.Mathlib.Decide.{dec_lt}
use native.Mathlib.Omega.{arith}
use lib.ListN.{length}
use Rattle.picture.specs.Pictures.{Picture, places}
use Rattle.lists.specs.Lists.{any, range, is_in}
use Rattle.picture.specs.Components.{in_section, component_at}
use Rattle.picture.specs.Trees.{is_branch, nodes, node_at}
use Rattle.topology.proofs.Accepted.{Accepted}
use Rattle.lists.proofs.Tests.{and_left, and_right, and_both, not_of_false, on_test, clash, not-both}
use Rattle.lists.proofs.Lists.{any-mem, mem-any, range-mem, mem-range}
use Rattle.topology.proofs.Connected.{conn-source}
use Rattle.topology.proofs.Reached.{component-same, in-joined, joined_in}
use Rattle.topology.proofs.Branches.{Branch, branch-complete}
use Rattle.topology.proofs.Nodes.{node-is}
use Rattle.topology.proofs.Adjacency.{At, Joined, section-at, at-section}
use Rattle.topology.proofs.Fathers.{number_small}
use Rattle.topology.proofs.Descent.{under, under-is, under_same, under-joined, under-father}
use Rattle.topology.proofs.Climb.{father, father-higher, father-greater, under-node, father-of, last-root}

module _ (p : Picture) (ok : Accepted p) where
  -- a father is higher than its son, and has a greater number
  pub heights-rise-along : (i : ℕ) → suc i < length (nodes p) → ((node_at p i).height < (node_at p (father p i)).height) × (i < father p i)
  heights-rise-along i b =
      let f = father-of p ok i b in
      (father-higher p i (omega arith) (number_small p ok (father p i) f), father-greater p ok i (omega arith) f)

  -- the last node is the one root
  pub one-root : (i : ℕ) → i < length (nodes p) → (father p i ≡ 65535 → suc i ≡ length (nodes p)) × (suc i ≡ length (nodes p) → father p i ≡ 65535)
  one-root i b = (
    λ e.
        by_cases (dec_lt (suc i) (length (nodes p)))
        (λ h. absurd (let f = number_small p ok (father p i) (father-of p ok i h) in omega arith))
        (λ h. omega arith),
    λ e. last-root p ok i e,
  )

-- two sons of a node
pub record TwoSons (p : Picture) (i : ℕ) : Type 0 where
  pub one : ℕ
  pub two : ℕ
  pub differ : one ≢ two
  pub in_one : one < length (nodes p)
  pub in_two : two < length (nodes p)
  pub son-one : father p one ≡ i
  pub son-two : father p two ≡ i

module _ (p : Picture) (ok : Accepted p) where
  -- a node is no branch at its height
  node-fork : (i j : ℕ) → i < length (nodes p) → (node_at p i).height ≡ suc j → is_branch p (suc j) (component_at p (suc j) (node_at p i).first) ≡ false
  node-fork i j b h = ap (λ (k : ℕ). is_branch p k (component_at p k (node_at p i).first)) (sym h) ∙ (node-is p i b).fork

  -- a place of the height below a node's, in its component, goes down to a son of the node
  pub son-of : (i j z : ℕ) → i < length (nodes p) → (node_at p i).height ≡ suc j → At p j z → Joined p (suc j) (node_at p i).first z → father p (under p j z) ≡ i
  son-of i j z b h s c =
      under-father p j z (let l = (node-is p i b).low in omega arith) s
      (ap (is_branch p (suc j)) (sym (component-same p (suc j) c)) ∙ node-fork i j b h) ∙
      (sym (under_same p c) ∙ (ap (λ (k : ℕ). under p k (node_at p i).first) (sym h) ∙ under-node p ok i b))

  -- a node with a place below its own height has two sons; one without is a leaf
  pub two-sons : (i j z : ℕ) → i < length (nodes p) → (node_at p i).height ≡ suc j → At p j z → Joined p (suc j) (node_at p i).first z → TwoSons p i
  two-sons i j z b h s c =
      on_test (any other (range 0 (places p)))
      (λ e.
      let (w, m, t) = any-mem other (range 0 (places p)) e in
      let r = range-mem 0 (places p) m in
      let sw = section-at p j w (omega arith) (and_left (in_section p j w) (is_in w (component_at p (suc j) y) && not (is_in w (component_at p j z))) t) in
      let u = and_right (in_section p j w) (is_in w (component_at p (suc j) y) && not (is_in w (component_at p j z))) t in
      let cw = in-joined p (suc j) y w (conn-source c) (and_left (is_in w (component_at p (suc j) y)) (not (is_in w (component_at p j z))) u) in
      let away = and_right (is_in w (component_at p (suc j) y)) (not (is_in w (component_at p j z))) u in
      record {
        one = under p j z;
        two = under p j w;
        differ = λ q. not-both (is_in w (component_at p j z)) (joined_in p j (under-joined p j z w (omega (arith, low)) s sw q)) away;
        in_one = (under-is p j z (omega (arith, low)) s).number;
        in_two = (under-is p j w (omega (arith, low)) sw).number;
        son-one = son-of i j z b h s c;
        son-two = son-of i j w b h sw cw;
      })
      (λ e. absurd (clash (branch-complete p j y (conn-source c) (only e)) (node-fork i j b h)))
    where
      y : ℕ
      y = (node_at p i).first

      low : suc j ≤ 255
      low = let a = (node-is p i b).low in omega arith

      other : ℕ → Bool
      other w = in_section p j w && (is_in w (component_at p (suc j) (node_at p i).first) && not (is_in w (component_at p j z)))

      only : any other (range 0 (places p)) ≡ false → Branch p j (node_at p i).first
      only e =
          record {
            low = z;
            place = s;
            inside = c;
            only =
                λ w t d.
                on_test (is_in w (component_at p j z))
                (λ q. in-joined p j z w s q)
                (λ q.
                absurd
                (clash
                (mem-any other (mem-range 0 (places p) (omega arith) (omega (arith, t.within)))
                (and_both (at-section p j w t)
                (and_both (joined_in p (suc j) d)
                (not_of_false (is_in w (component_at p j z)) q))))
                e));
          }
