-- A centre is the nearest tenth, at a half the even one, and the only such number.
use Rattle.std.proofs.Common.{◌≡◌, ap, subst, inl, inr, ℕ, suc, ◌+◌, ◌*◌, ◌/◌, ◌%◌, ◌≤◌, ◌<◌, div-le_self, mod-lt, div-add-mod', suc-mul, le_of_mul-le-mul_right, le_antisymm, eq-or-lt_of_le, arith, eqb, ltb, ltb-true, ltb-false, eqb-true}
use borrow.Author.Tests.{eqb-false}
use Rattle.lists.proofs.Tests.{on-pick, on_test}
use Rattle.lists.proofs.Indices.{mem_index}
use Rattle.picture.specs.Patches.{Patch}
use Rattle.picture.proofs.Neighbours.{distance_is}
use Rattle.topology.proofs.Accepted.{accepted-is}
use Rattle.topology.proofs.PatchBounds.{size-some}
use Rattle.centres.specs.Centres.{centre, CentreNear, Centres-near, Centres-only, Patches-near}

-- the lower of the two tenths beside the exact quotient, and twice what is over it
abbrev lower : ℕ → ℕ → ℕ
lower sum size = 10 * sum / size

abbrev twice : ℕ → ℕ → ℕ
twice sum size = 2 * (10 * sum % size)

module _ (sum size : ℕ) (some : 1 ≤ size) where
  -- the lower tenth is near with at most a half over, the upper with at least a half
  lower-near :
      twice sum size ≤ size → (twice sum size ≡ size → lower sum size % 2 ≡ 0) → CentreNear sum size (lower sum size)
  lower-near most even =
      let d = distance_is (lower sum size * size) (10 * sum) in
      let e = div-add-mod' (10 * sum) size in
      record { near = omega arith; half = λ h. even (omega arith) }

  upper-near :
      size ≤ twice sum size → (twice sum size ≡ size → suc (lower sum size) % 2 ≡ 0) →
      CentreNear sum size (suc (lower sum size))
  upper-near least even =
      let d = distance_is (suc (lower sum size) * size) (10 * sum) in
      let e = div-add-mod' (10 * sum) size in
      let s = suc-mul (lower sum size) size in
      let l = mod-lt (10 * sum) some in
      record { near = omega arith; half = λ h. even (omega arith) }

  -- the three cases: less than a half over, more than a half, a half
  pub near-below : twice sum size < size → CentreNear sum size (lower sum size)
  near-below less = lower-near (omega arith) (λ h. omega arith)

  pub near-above : size < twice sum size → CentreNear sum size (suc (lower sum size))
  near-above more = upper-near (omega arith) (λ h. omega arith)

  pub near_even : twice sum size ≡ size → CentreNear sum size (lower sum size + lower sum size % 2)
  near_even half =
      on_test (eqb (lower sum size % 2) 0)
      (λ e.
      let even = eqb-true (lower sum size % 2) 0 e in
      subst (CentreNear sum size) (omega arith) (lower-near (omega arith) (λ h. even)))
      (λ e.
      let odd = eqb-false (lower sum size % 2) 0 e in
      subst (CentreNear sum size) (omega arith) (upper-near (omega arith) (λ h. omega arith)))

pub centres-near : Centres-near
unfolding centre
centres-near sum size some =
    on-pick (CentreNear sum size) (ltb t size)
    (λ e. near-below sum size some (ltb-true t size e))
    (λ e.
    on-pick (CentreNear sum size) (ltb size t)
    (λ g. near-above sum size some (ltb-true size t g))
    (λ g. subst (CentreNear sum size) (omega arith) (near_even sum size some (le_antisymm (ltb-false size t g) (ltb-false t size e)))))
  where
    t : ℕ
    t = twice sum size

-- of two numbers that are near none is less: they would be one tenth apart, each a half from the quotient, and both even
none-less : (sum size q k : ℕ) → 1 ≤ size → CentreNear sum size q → CentreNear sum size k → k ≤ q
none-less sum size q k some m n =
    let d = distance_is (q * size) (10 * sum) in
    let e = distance_is (k * size) (10 * sum) in
    let s = suc-mul q size in
    let most : k * size ≤ suc q * size = omega (arith, m.near, n.near) in
    elim (eq-or-lt_of_le (le_of_mul-le-mul_right most some)) [
      | inl g ↦
          let apart = ap (λ (z : ℕ). z * size) g in
          let even = m.half (omega (arith, m.near, n.near)) in
          let also = n.half (omega (arith, m.near, n.near)) in
          omega arith
      | inr l ↦ omega arith
    ]

pub centres-only : Centres-only
centres-only sum size q some n =
    let c = centres-near sum size some in
    le_antisymm (none-less sum size (centre sum size) q some c n) (none-less sum size q (centre sum size) some n c)

pub patches-near : Patches-near
patches-near p ok q m =
    let (i, b, e) = mem_index q m in
    let some = subst (λ (r : Patch). 1 ≤ r.size) e (size-some p (accepted-is p ok) i q b) in
    (centres-near q.columns q.size some, centres-near q.rows q.size some)

-- no centre is more than one above ten times the sum
pub centre-most : (sum size : ℕ) → centre sum size ≤ suc (10 * sum)
unfolding centre
centre-most sum size =
    let d = div-le_self (10 * sum) size in
    on-pick small (ltb (twice sum size) size)
    (λ e. omega arith)
    (λ e. on-pick small (ltb size (twice sum size)) (λ g. omega arith) (λ g. omega arith))
  where
    small : ℕ → Type 0
    small c = c ≤ suc (10 * sum)
