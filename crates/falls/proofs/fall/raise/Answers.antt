-- `falls::fall::raise` meets its contract: each return is a case of Raised.
use Rattle.std.proofs.Common.{◌≡◌, ℕ, ◌<◌, ◌≤◌, max, List, get_or, arith, inl, inr, ⊎_elim}
use Rattle.std.proofs.lemmas.Bool.{cases_lt}
use Rattle.watershed_laws.proofs.Stopping.{Meets, Raised, above, early, late}
use Rattle.falls.proofs.fall.raise.Goals as goal

-- a meeting above the neighbour's own value raises the height to the greater of the two
raised-to :
    (n : ℕ) (g tree : List ℕ) (low k y s h : ℕ) → get_or g y 0 < k → Meets n tree y low h → get_or g y 0 < h → Raised n g tree low k y s (max s h)
raised-to n g tree low k y s h b m c =
    ⊎_elim
    (λ (d : s < h). let e : max s h ≡ h = omega arith in rw e (late b m c d))
    (λ (d : h ≤ s). let e : max s h ≡ s = omega arith in rw e (early h m (inr d)))
    (cases_lt s h)

pub returns-then-k-own : goal.returns-then-k-own
returns-then-k-own c = above (omega arith)

pub returns-then-height-own : goal.returns-then-height-own
returns-then-height-own c = early _ c.meeting_height-height.ensures (inl (omega arith))

pub returns-else-height-own : goal.returns-else-height-own
returns-else-height-own c =
    rw c.max.ensures (raised-to _ _ _ _ _ _ _ _ (omega arith) c.meeting_height-height.ensures (omega arith))
