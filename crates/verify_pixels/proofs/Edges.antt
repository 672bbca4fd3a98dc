-- The joins at a place.
use Rattle.std.proofs.Common.{◌≡◌, ℕ, ◌<◌, ◌+◌, Bool, true, false, ◌≢◌, ◌≤◌, ◌-◌, List, length, get_or, eqb, refl, arith, Option, Some, None, eqb-true}
use borrow.Author.Tests.{eqb-false}
use Rattle.picture.specs.Pictures.{Picture}
use Rattle.tree_laws.proofs.Forests.{Linked, ordered-most, Found}
use Rattle.tree_laws.proofs.Levels.{Earlier}
use Rattle.tree_laws.proofs.Joins.{Edge}
use Rattle.tree_laws.proofs.PixelChecks.{PixelChecking, checked-turn, checked-differs}
use Rattle.verify_pixels.specs.Edges.{JoinAnswer, EdgeAnswer}
use Rattle.tree_laws.proofs.States.{first_node, several_state}
use Rattle.tree_laws.proofs.Checks.{Differs, Agrees, agrees-same, agrees-not, EdgeCheckReady, checked-joined}

-- the entries of a state's node and of a pixel are compared
pub agrees-test :
    (s x t : ℕ) (fs m : List ℕ) → t ≡ s - first_node → first_node ≤ s → s < several_state → Agrees s x fs m (eqb (get_or fs t 0) (get_or m x 0))
agrees-test s x t fs m e low high = by (eqb (get_or fs t 0) (get_or m x 0)) refl
  where
    by : (b : Bool) → eqb (get_or fs t 0) (get_or m x 0) ≡ b → Agrees s x fs m b
    by true q = agrees-same s x t fs m e low (eqb-true (get_or fs t 0) (get_or m x 0) q)
    by false q = agrees-not s x t fs m e high (eqb-false (get_or fs t 0) (get_or m x 0) q)

-- a root that is left is one of the cells
pub left-in : (q r s z : ℕ) (l o : List ℕ) → Linked q r s l o z → r < length l → z < length l
left-in q r s z l o h b = let most = ordered-most h.order in omega arith

pub root-in : (pixels : List ℕ) (k x r y : ℕ) (l fs m : List ℕ) → EdgeCheckReady pixels k x r y l fs m → r < length l
root-in pixels k x r y l fs m e =
    let n = e.near.near in
    let f = n.classes.level.first x n.within in
    let is = n.is in
    let b = n.within in
    let size = n.classes.size in
    omega arith

-- the edge to y is joined, if its root is not that of x
pub edge-joined :
    (pixels : List ℕ) (k x r y : ℕ) (l fs m : List ℕ) → Earlier k x y (get_or pixels y 0) → (q : ℕ) (o : List ℕ) → Found l y q o → q ≢ r →
    (answer : Option ℕ) (u : List ℕ) → JoinAnswer x q r o fs m u answer → EdgeAnswer pixels k x r y l fs m answer u
edge-joined pixels k x r y l fs m c q o f d None u j =
    rw (← f.walked.size) (checked-joined pixels k x r y l fs m c o q f u (length o) d j)
edge-joined pixels k x r y l fs m c q o f d (Some z) u j =
    (rw (← f.walked.size) j.0, checked-joined pixels k x r y l fs m c o q f u z d j.1)

-- the loop over the neighbours goes on, or ends at a difference
module _ (p : Picture) (k x i r y : ℕ) (l fs m : List ℕ) (a : PixelChecking p k x i r l fs m) (e : Edge p x i y) where
  pub joined-turn : (q : ℕ) (o : List ℕ) → EdgeAnswer p.pixels k x r y l fs m (Some q) o → PixelChecking p k x (i + 1) q o fs m
  joined-turn q o s = let size = s.1.size in checked-turn p k x i r y l fs m a e q o s.1 (omega (arith, s.0))

  pub joined-differs : (o : List ℕ) → EdgeAnswer p.pixels k x r y l fs m None o → Differs p fs m
  joined-differs o s = let size = s.size in checked-differs p k x i r y l fs m a e (length l) o s (omega arith)
