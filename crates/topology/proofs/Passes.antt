-- The pass between two places: where they are joined first, by the nearest common ancestor of their nodes, and kept with the parts.
use mathlib.Core.Path.{◌≡◌, refl, sym, ap₂, subst}
use mathlib.Core.Bool.{Bool, true, false, ◌&&◌}
use mathlib.Core.Logic.{by_cases}
use mathlib.Core.List.{List}
use Prim.Native.Nat.{ℕ, zero, suc, ◌+◌, ◌≤◌, ◌<◌, max}
use native.Mathlib.Decide.{ℕ_discrete}
use native.Mathlib.Omega.{arith}
use Rattle.lists.specs.Lists.{is_in}
use Rattle.picture.specs.Pictures.{Picture, places, value_at, with_pixels}
use Rattle.picture.specs.Components.{in_section, component_at}
use Rattle.picture.specs.Passes.{pass_from, pass}
use Rattle.picture.specs.Trees.{node_at, map_of}
use Rattle.picture.specs.Patches.{patch_at}
use Rattle.lists.proofs.Tests.{and_left, and_right, and_both, on-elim, same_test, clash}
use Rattle.topology.proofs.Connected.{conn-source, conn-target, conn-trans}
use Rattle.topology.proofs.Keeping.{Keeps}
use Rattle.topology.proofs.Adjacency.{Adj, At, Joined, joined-sym, section-at, at-section}
use Rattle.topology.proofs.Accepted.{Accepted}
use Rattle.topology.proofs.Reached.{in-joined, joined_in}
use Rattle.topology.proofs.Branches.{joined-kept}
use Rattle.topology.proofs.Minima.{patch-minimum, minimum-kept}
use Rattle.topology.proofs.Grid.{picture-joined}
use Rattle.topology.proofs.Climb.{Meet, father, meet-joined}

-- the definition's test: x and y are in one component of height k
abbrev together : Picture → ℕ → ℕ → ℕ → Bool
together p x y k = in_section p k x && is_in y (component_at p k x)

test-joined : (p : Picture) (x y k : ℕ) → x < places p → together p x y k ≡ true → Joined p k x y
test-joined p x y k b h =
    in-joined p k x y
    (section-at p k x b (and_left (in_section p k x) (is_in y (component_at p k x)) h))
    (and_right (in_section p k x) (is_in y (component_at p k x)) h)

joined-test : (p : Picture) (x y k : ℕ) → Joined p k x y → together p x y k ≡ true
joined-test p x y k c = and_both (at-section p k x (conn-source c)) (joined_in p k c)

-- the pass is at most a height at which both places are joined
pass_below : (p : Picture) (x y h l k : ℕ) → together p x y h ≡ true → k ≤ h → h < k + l → pass_from l k p x y ≤ h
pass_below p x y h zero k t a b = absurd (omega arith)
pass_below p x y h (suc l) k t a b =
    on-elim (λ (m : ℕ). m ≤ h) (together p x y k)
    (λ e. a)
    (λ e.
    pass_below p x y h l (suc k) t
    (by_cases (ℕ_discrete k h)
    (λ q. absurd (clash (subst (λ (m : ℕ). together p x y m ≡ true) (sym q) t) e))
    (λ d. omega arith))
    (omega arith))

pub pass-most : (p : Picture) (x y h : ℕ) → h ≤ 255 → Joined p h x y → pass p x y ≤ h
unfolding pass
pass-most p x y h b c = pass_below p x y h 256 0 (joined-test p x y h c) (omega arith) (omega arith)

-- the pass between two places of a picture is at most 255
pub pass-byte : (p : Picture) → Accepted p → (x y : ℕ) → x < places p → y < places p → pass p x y ≤ 255
pass-byte p a x y bx by =
    pass-most p x y 255 (omega arith) (conn-trans (joined-sym p 255 (picture-joined p a x bx)) (picture-joined p a y by))

-- at the pass both places are joined
pass-from-joined : (p : Picture) (x y : ℕ) → x < places p → (l k : ℕ) → pass_from l k p x y < k + l → Joined p (pass_from l k p x y) x y
pass-from-joined p x y b zero k h = absurd (omega arith)
pass-from-joined p x y b (suc l) k h =
    on-elim (λ (m : ℕ). m < k + suc l → Joined p m x y) (together p x y k)
    (λ e g. test-joined p x y k b e)
    (λ e g. pass-from-joined p x y b l (suc k) (omega arith))
    h

pub pass-joined : (p : Picture) → Accepted p → (x y : ℕ) → x < places p → y < places p → Joined p (pass p x y) x y
unfolding pass
pass-joined p a x y bx by =
    let b = pass-byte p a x y bx by in
    pass-from-joined p x y bx 256 0 (omega arith)

-- the pass is the largest of both values and the height of the nearest common ancestor
pub pass-meet :
    (p : Picture) → Accepted p → (x y : ℕ) → x < places p → y < places p → {r : ℕ} → Meet (father p) (map_of p x) (map_of p y) r →
    pass p x y ≡ max (max (value_at p x) (value_at p y)) (node_at p r).height
pass-meet p ok x y bx by {r} n =
    let c = pass-joined p ok x y bx by in
    let a = conn-source c in
    let b = conn-target c in
    let la = a.low in
    let lb = b.low in
    let pb = pass-byte p ok x y bx by in
    let up = (meet-joined p ok x y bx by n (pass p x y) pb a b).0 c in
    let h : ℕ = max (max (value_at p x) (value_at p y)) (node_at p r).height in
    let hb : h ≤ 255 = omega arith in
    let d =
    (meet-joined p ok x y bx by n h hb (record { within = bx; low = omega arith }) (record { within = by; low = omega arith })).1 (omega arith)
    in
    let low = pass-most p x y h hb d in
    omega arith

-- passes in two pictures whose components hold both places at the same heights
pass_same : (f a : Picture) (x y : ℕ) → ((k : ℕ) → together f x y k ≡ together a x y k) → (l k : ℕ) → pass_from l k f x y ≡ pass_from l k a x y
pass_same f a x y h zero k = refl
pass_same f a x y h (suc l) k =
    ap₂ (λ (t : Bool) (r : ℕ). elim t [ true ↦ k | false ↦ r ]) (h k) (pass_same f a x y h l (suc k))

-- the pass between two pixels of minima is kept with the parts
pub passes_kept :
    (f : Picture) (xs : List ℕ) → ((k : ℕ) → Keeps (places f) (Adj f) (value_at f) (value_at (with_pixels f xs)) k) →
    (x y : ℕ) → x < places f → y < places f → 1 ≤ patch_at f x → 1 ≤ patch_at f y → pass f x y ≡ pass (with_pixels f xs) x y
unfolding pass
passes_kept f xs keeps x y bx by px py = pass_same f a x y test 256 0
  where
    a : Picture
    a = with_pixels f xs

    kept : (z : ℕ) → 1 ≤ patch_at f z → value_at a z ≡ value_at f z
    kept z h = let (k, m) = patch-minimum f z h in minimum-kept f xs keeps k z m

    test : (k : ℕ) → together f x y k ≡ together a x y k
    test k =
        same_test (together f x y k) (together a x y k)
        (λ h. joined-test a x y k (joined-kept f xs keeps (test-joined f x y k bx h)))
        (λ h.
        let c = test-joined a x y k bx h in
        let sx : At f k x = record { within = bx; low = let e = kept x px in let l = (conn-source c).low in omega arith } in
        let sy : At f k y = record { within = by; low = let e = kept y py in let l = (conn-target c).low in omega arith } in
        joined-test f x y k ((keeps k).separates x y sx sy c))
