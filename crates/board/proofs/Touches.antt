-- The touch under the two handbooks: what they have in common, and what it belongs to under handbook 5.
use mathlib.Core.Path.{◌≡◌, refl, sym, ap, subst, ◌∙◌}
use mathlib.Core.Bool.{true, false, ◌||◌}
use mathlib.Core.Logic.{◌↔◌}
use mathlib.Core.List.{List}
use Prim.Native.Nat.{ℕ, ◌≤◌}
use native.Mathlib.Omega.{arith}
use lib.Dec.{eqb}
use lib.ListN.{length}
use borrow.Author.Tests.{eqb-false, ne_eqb}
use Rattle.picture.specs.Pictures.{Picture}
use Rattle.picture.specs.Patches.{patch_at, nearest_patch, touched_patch}
use Rattle.lists.proofs.Tests.{or-fails, or-neither, test-false, pick-in, pick_out}
use Rattle.topology.proofs.Accepted.{byte_at}
use Rattle.topology.proofs.Nearest.{nearest-patch, touched-five, touched-else}
use Rattle.faults.proofs.Faults.{place-most, handbook-unknown, handbook-known, touch-enough, admitted}
use Rattle.board.specs.Calls.{QueryAnswer}
use Rattle.board.specs.Calls.{place_fault_of, touch_fault_of, ground_of, QueriedSays}
use Rattle.board.specs.Touches.{Touch-unknown, Touch-four, Touch-inside, Touch-five}
use Rattle.board.proofs.Queries.{ground-patch}

-- the fault of a touch is that of the place query where the handbook is known, and else 14
module _ (handbook : ℕ) (p : Picture) (q : List ℕ) (x : ℕ) where
  fault-known : (eqb handbook 4 || eqb handbook 5) ≡ true → touch_fault_of handbook p q x ≡ place_fault_of p q x
  fault-known = handbook-known p.adjacency p.width p.height (length p.pixels) (length q) x handbook

  fault-unknown : (eqb handbook 4 || eqb handbook 5) ≡ false → touch_fault_of handbook p q x ≡ 14
  fault-unknown = handbook-unknown p.adjacency p.width p.height (length p.pixels) (length q) x handbook

  -- no other cause has 14
  fault-14 : touch_fault_of handbook p q x ≡ 14 → (eqb handbook 4 || eqb handbook 5) ≡ false
  fault-14 e =
      test-false (eqb handbook 4 || eqb handbook 5)
      (λ t.
      let k = fault-known t in
      let m = place-most p.adjacency p.width p.height (length p.pixels) (length q) x in
      omega arith)

pub touch-unknown : Touch-unknown
touch-unknown handbook p x q q' r says = (
  λ e.
      let (a, b) = or-fails (eqb handbook 4) (eqb handbook 5) (fault-14 handbook p q x (sym number ∙ e)) in
      (eqb-false handbook 4 a, eqb-false handbook 5 b),
  λ d. number ∙ fault-unknown handbook p q x (or-neither _ _ (ne_eqb handbook 4 d.0) (ne_eqb handbook 5 d.1)),
)
  where
    number : r.number ≡ touch_fault_of handbook p q x
    number = ap (λ (a : QueryAnswer). a.number) says.answer

-- under handbook 4 a touch belongs to the patch of its place, and inside a patch under handbook 5 too
touched-four : (p : Picture) (x : ℕ) → touched_patch 4 p x ≡ patch_at p x
touched-four p x = touched-else 4 p x (λ e. absurd (omega arith))

touched-inside : (p : Picture) (x : ℕ) → 1 ≤ patch_at p x → touched_patch 5 p x ≡ patch_at p x
unfolding touched_patch
touched-inside p x h = pick_out (patch_at p x) 0 (nearest_patch p x) (patch_at p x) (λ e. absurd (omega arith))

-- the same fault and the same patch number, the same promise
same-says :
    {f g m n v : ℕ} {p : Picture} {q q' : List ℕ} {r : QueryAnswer} → f ≡ g → m ≡ n → QueriedSays f v m p q q' r ↔ QueriedSays g v n p q q' r
same-says {f} {g} {m} {n} {v} {p} {q} {q'} {r} e d = (
  λ s. subst (λ (k : ℕ). QueriedSays k v n p q q' r) e (subst (λ (k : ℕ). QueriedSays f v k p q q' r) d s),
  λ s. subst (λ (k : ℕ). QueriedSays k v m p q q' r) (sym e) (subst (λ (k : ℕ). QueriedSays g v k p q q' r) (sym d) s),
)

pub touch-four : Touch-four
touch-four p x q q' r = same-says (fault-known 4 p q x refl) (touched-four p x)

pub touch-inside : Touch-inside
touch-inside p x h q q' r =
    same-says (fault-known 4 p q x refl ∙ sym (fault-known 5 p q x refl)) (touched-four p x ∙ sym (touched-inside p x h))

pub touch-five : Touch-five
touch-five p x q q' r bytes says z =
    let f = touch_fault_of 5 p q x in
    let none : f ≡ 0 = sym (ap (λ (a : QueryAnswer). a.number) says.answer) ∙ z in
    let (e, b) = touch-enough p.adjacency p.width p.height (length p.pixels) (length q) x 5 none in
    let ok = (admitted p (length q) e (byte_at p.pixels bytes)).picture in
    let (n, nearest, is, some) = nearest-patch p ok x b in
    let number : touched_patch 5 p x ≡ patch_at p n.first = touched-five p ok x b ∙ is in (
      n,
      nearest,
      ap (λ (a : QueryAnswer). a.ground) says.answer ∙
          (ap ground_of (pick-in f 0 (touched_patch 5 p x) 0 none ∙ number) ∙
          sym (ground-patch (patch_at p n.first) (λ y. absurd (omega arith)))),
    )
