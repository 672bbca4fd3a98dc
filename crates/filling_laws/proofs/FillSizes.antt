-- How many places a class has.
use mathlib.Core.Path.{◌≡◌, refl, sym, ap, ◌∙◌}
use mathlib.Core.Logic.{by_cases, ◌≢◌}
use mathlib.Core.List.{List, [], ◌∷◌}
use Prim.Native.Nat.{ℕ, ◌+◌, ◌<◌}
use native.Mathlib.Decide.{ℕ_discrete}
use native.Mathlib.Omega.{arith}
use lib.Dec.{eqb}
use borrow.Author.Tests.{eqb-true, eq-eqb, ne_eqb}
use Rattle.lists.specs.Lists.{tally, range}
use Rattle.lists.proofs.Lists.{tally-in, tally-out, tally-same}
use Rattle.lists.proofs.Rising.{one-tally}
use Rattle.tree_laws.proofs.Levels.{relink, relink-moved, relink-kept}

-- how many of n places have the root r
unfoldable pub class_size : ℕ → (ℕ → ℕ) → ℕ → ℕ
class_size n root r = tally (λ z. eqb (root z) r) (range 0 n)

-- a class of one place
pub size-alone : (n : ℕ) (root : ℕ → ℕ) (y : ℕ) → y < n → root y ≡ y → ((z : ℕ) → z < n → root z ≡ y → z ≡ y) → class_size n root y ≡ 1
unfolding class_size
size-alone n root y b e f =
    one-tally 0 n (λ z. eqb (root z) y)
    (record {
      at = y;
      from = omega arith;
      to = omega arith;
      passes = eq-eqb (root y) y e;
      only = λ z a c h. f z (omega arith) (eqb-true (root z) y h);
    })

-- two classes linked: the places of both, and the other classes as they were
module _ (n : ℕ) (root : ℕ → ℕ) (lo hi : ℕ) (less : lo < hi) where
  pub size-linked : class_size n (relink root lo hi) lo ≡ class_size n root lo + class_size n root hi
  unfolding class_size
  size-linked = over (range 0 n)
    where
      over : (l : List ℕ) → tally (λ z. eqb (relink root lo hi z) lo) l ≡ tally (λ z. eqb (root z) lo) l + tally (λ z. eqb (root z) hi) l
      over [] = refl
      over (z ∷ l) =
          let r = over l in
          by_cases (ℕ_discrete (root z) hi)
          (λ e.
          let a = tally-in (λ z. eqb (relink root lo hi z) lo) z l (eq-eqb (relink root lo hi z) lo (relink-moved root lo hi z e)) in
          let b = tally-out (λ z. eqb (root z) lo) z l (ne_eqb (root z) lo (λ q. omega arith)) in
          let c = tally-in (λ z. eqb (root z) hi) z l (eq-eqb (root z) hi e) in
          omega arith)
          (λ d.
          let k = relink-kept root lo hi z d in
          let c = tally-out (λ z. eqb (root z) hi) z l (ne_eqb (root z) hi d) in
          by_cases (ℕ_discrete (root z) lo)
          (λ e.
          let a = tally-in (λ z. eqb (relink root lo hi z) lo) z l (eq-eqb (relink root lo hi z) lo (k ∙ e)) in
          let b = tally-in (λ z. eqb (root z) lo) z l (eq-eqb (root z) lo e) in
          omega arith)
          (λ e.
          let a = tally-out (λ z. eqb (relink root lo hi z) lo) z l (ne_eqb (relink root lo hi z) lo (λ q. e (sym k ∙ q))) in
          let b = tally-out (λ z. eqb (root z) lo) z l (ne_eqb (root z) lo e) in
          omega arith))

  pub size-other : (r : ℕ) → r ≢ lo → r ≢ hi → class_size n (relink root lo hi) r ≡ class_size n root r
  unfolding class_size
  size-other r dl dh =
      tally-same (λ z. eqb (relink root lo hi z) r) (λ z. eqb (root z) r) (range 0 n)
      (λ z m.
      by_cases (ℕ_discrete (root z) hi)
      (λ e.
      ne_eqb (relink root lo hi z) r (λ q. dl (sym q ∙ relink-moved root lo hi z e)) ∙
      sym (ne_eqb (root z) r (λ q. dh (sym q ∙ e))))
      (λ d. ap (λ (u : ℕ). eqb u r) (relink-kept root lo hi z d)))
