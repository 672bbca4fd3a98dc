-- What the joins at a place leave: a root, or none if a lent father differs.
-- l the cells before, o the cells after, fs m the lent fathers and map.
use Rattle.std.specs.Prelude.{List, ℕ, ◌<◌, length, Option, MatchOption}
use Rattle.tree_laws.proofs.Checks.{Joint, EdgeChecked}

-- the root that is left of q and r, or none, which the laws write as the number of cells
abbrev pub JoinAnswer : ℕ → ℕ → ℕ → List ℕ → List ℕ → List ℕ → List ℕ → Option ℕ → Type 0
JoinAnswer x q r l fs m o answer =
    MatchOption answer (Joint x q r l fs m o (length l)) (λ z. (z < length l) × Joint x q r l fs m o z)

-- the root of x, joined to y, or none, which the laws write as the number of cells
abbrev pub EdgeAnswer : List ℕ → ℕ → ℕ → ℕ → ℕ → List ℕ → List ℕ → List ℕ → Option ℕ → List ℕ → Type 0
EdgeAnswer pixels k x r y l fs m answer o =
    MatchOption answer (EdgeChecked pixels k x r y l fs m (length l) o) (λ q. (q < length l) × EdgeChecked pixels k x r y l fs m q o)
