-- Branches: components that contain exactly one component of the height below. Keeping parts keeps them.
use mathlib.Core.Path.{◌≡◌, refl, sym, ap, ◌∙◌}
use mathlib.Core.Bool.{Bool, true, false}
use mathlib.Core.List.{List, []}
use Prim.Native.Nat.{ℕ, zero, suc}
use native.Mathlib.Omega.{arith}
use lib.Dec.{eqb}
use lib.ListN.{length, get_or}
use borrow.Author.Tests.{eqb-true, eq-eqb}
use Rattle.lists.specs.Lists.{any, tally, is_in, head_of}
use Rattle.picture.specs.Pictures.{Picture, places, value_at, with_pixels}
use Rattle.picture.specs.Components.{component_at, components}
use Rattle.picture.specs.Trees.{below, is_branch}
use Rattle.lists.proofs.Tests.{on_test, same_test, clash}
use Rattle.lists.proofs.Lists.{any-mem, mem-any, mem-select, length-select}
use Rattle.lists.proofs.Members.{only-member}
use Rattle.topology.proofs.Connected.{start, step, conn-source, conn-target, conn-trans, conn-mono, conn-closed}
use Rattle.topology.proofs.Keeping.{Keeps}
use Rattle.topology.proofs.Adjacency.{Adj, At, Joined, joined-sym, at_next, joined-next}
use Rattle.topology.proofs.Reached.{first_at, component-same, mem-joined, in-joined, joined_in, joined-mem, first-joined}
use Rattle.topology.proofs.Parts.{mem-components, tally-part, part-tally}

-- the component of height j + 1 that holds x contains exactly one of height j
pub record Branch (p : Picture) (j x : ℕ) : Type 0 where
  pub low : ℕ
  pub place : At p j low
  pub inside : Joined p (suc j) x low
  pub only : (y : ℕ) → At p j y → Joined p (suc j) x y → Joined p j low y

module _ (p : Picture) (j x : ℕ) (s : At p (suc j) x) where
  within : List ℕ → Bool
  within d = is_in (head_of d) (component_at p (suc j) x)

  pub below-joined : (y : ℕ) → At p j y → is_in (head_of (component_at p j y)) (component_at p (suc j) x) ≡ true → Joined p (suc j) x y
  unfolding first_at
  below-joined y t h =
      conn-trans (in-joined p (suc j) x (first_at p j y) s h)
      (joined-next p (joined-sym p j (first-joined p j y t)))

  pub joined-below : (y : ℕ) → At p j y → Joined p (suc j) x y → is_in (head_of (component_at p j y)) (component_at p (suc j) x) ≡ true
  unfolding first_at
  joined-below y t c = joined_in p (suc j) (conn-trans c (joined-next p (first-joined p j y t)))

  below_length : length (below p (suc j) (component_at p (suc j) x)) ≡ tally within (components p j)
  unfolding within
  below_length = length-select within (components p j)

  pub branch-sound : is_branch p (suc j) (component_at p (suc j) x) ≡ true → Branch p j x
  unfolding is_branch within
  branch-sound h =
      let o =
      tally-part p j within
      (sym below_length ∙ eqb-true (length (below p (suc j) (component_at p (suc j) x))) 1 h)
      in
      record {
        low = o.at;
        place = o.place;
        inside = below-joined o.at o.place o.passes;
        only = λ y t c. o.only y t (joined-below y t c);
      }

  pub branch-complete : Branch p j x → is_branch p (suc j) (component_at p (suc j) x) ≡ true
  unfolding is_branch within
  branch-complete b =
      eq-eqb (length (below p (suc j) (component_at p (suc j) x))) 1
      (below_length ∙
      part-tally p j within
      (record {
        at = b.low;
        place = b.place;
        passes = joined-below b.low b.place b.inside;
        only = λ y t h. b.only y t (below-joined y t h);
      }))

  -- the only component below a branch
  pub branch-below : (b : Branch p j x) → get_or (below p (suc j) (component_at p (suc j) x)) 0 [] ≡ component_at p j b.low
  unfolding is_branch within
  branch-below b =
      only-member [] (below p (suc j) (component_at p (suc j) x))
      (eqb-true (length (below p (suc j) (component_at p (suc j) x))) 1 (branch-complete b))
      (mem-select within (components p j) (mem-components p j b.low b.place) (joined-below b.low b.place b.inside))

-- at height 0 there is no branch
pub branch-zero : (p : Picture) (c : List ℕ) → is_branch p 0 c ≡ false
unfolding is_branch
branch-zero p c = refl

-- a component that is no branch has a pixel of its own height
pub own-pixel : (p : Picture) (k x : ℕ) → At p k x → is_branch p k (component_at p k x) ≡ false → (z : ℕ) × Joined p k x z × (value_at p z ≡ k)
own-pixel p zero x s h = (x, start s, omega (arith, s.low))
own-pixel p (suc j) x s h =
    on_test (any (λ z. eqb (value_at p z) (suc j)) (component_at p (suc j) x))
    (λ e.
    let (z, m, q) = any-mem (λ z. eqb (value_at p z) (suc j)) (component_at p (suc j) x) e in
    (z, mem-joined p (suc j) x z s m, eqb-true (value_at p z) (suc j) q))
    (λ e. absurd (clash (branch-complete p j x s (all-low e)) h))
  where
    lower : any (λ z. eqb (value_at p z) (suc j)) (component_at p (suc j) x) ≡ false → (z : ℕ) → Joined p (suc j) x z → At p j z
    lower e z c =
        let d : ¬ (value_at p z ≡ suc j) =
        λ q. clash (mem-any (λ u. eqb (value_at p u) (suc j)) (joined-mem p (suc j) c) (eq-eqb (value_at p z) (suc j) q)) e
        in
        record { within = (conn-target c).within; low = omega (arith, (conn-target c).low) }

    all-low : any (λ z. eqb (value_at p z) (suc j)) (component_at p (suc j) x) ≡ false → Branch p j x
    all-low e =
        record {
          low = x;
          place = lower e x (start s);
          inside = start s;
          only = λ y t c. descend y c;
        }
      where
        descend : (y : ℕ) → Joined p (suc j) x y → Joined p j x y
        descend y c =
            (conn-closed (λ z. Joined p (suc j) x z × Joined p j x z) (start s, start (lower e x (start s)))
            (λ u z i r q. (step i.0 r q, step i.1 r (lower e z (step i.0 r q))))
            c
            ).1

-- keeping the parts at two heights keeps the branches between them, both ways
module _ (f : Picture) (xs : List ℕ) (keeps : (k : ℕ) → Keeps (places f) (Adj f) (value_at f) (value_at (with_pixels f xs)) k) where
  abbrev a : Picture
  a = with_pixels f xs

  pub joined-kept : {k x y : ℕ} → Joined f k x y → Joined a k x y
  joined-kept {k} c = conn-mono (keeps k).subset c

  branch_kept : (j x : ℕ) → At f (suc j) x → Branch f j x → Branch a j x
  branch_kept j x s b =
      record {
        low = b.low;
        place = (keeps j).subset b.low b.place;
        inside = joined-kept b.inside;
        only =
            λ y t c.
            let (z, sz, cz) = (keeps j).reaches y t in
            let back = (keeps (suc j)).separates x z s (at_next f sz) (conn-trans c (joined-next a cz)) in
            conn-trans (joined-kept (b.only z sz back)) (joined-sym a j cz);
      }

  branch_back : (j x : ℕ) → At f (suc j) x → Branch a j x → Branch f j x
  branch_back j x s b =
      let (z, sz, cz) = (keeps j).reaches b.low b.place in
      record {
        low = z;
        place = sz;
        inside = (keeps (suc j)).separates x z s (at_next f sz) (conn-trans b.inside (joined-next a cz));
        only =
            λ y t c.
            (keeps j).separates z y sz t
            (conn-trans (joined-sym a j cz) (b.only y ((keeps j).subset y t) (joined-kept c)));
      }

  -- the component of f that holds x is a branch exactly if a's that holds x is
  pub branch_same : (k : ℕ) {x y : ℕ} → At f k x → Joined a k x y → is_branch f k (component_at f k x) ≡ is_branch a k (component_at a k y)
  branch_same zero {x} {y} s c = branch-zero f (component_at f 0 x) ∙ sym (branch-zero a (component_at a 0 y))
  branch_same (suc j) {x} {y} s c =
      same_test (is_branch f (suc j) (component_at f (suc j) x)) (is_branch a (suc j) (component_at a (suc j) x))
      (λ h. branch-complete a j x (conn-source c) (branch_kept j x s (branch-sound f j x s h)))
      (λ h. branch-complete f j x s (branch_back j x s (branch-sound a j x (conn-source c) h))) ∙
      ap (is_branch a (suc j)) (component-same a (suc j) c)
