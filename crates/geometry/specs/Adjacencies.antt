-- Adjacencies by their numbers.
use Rattle.std.specs.Prelude.{◌≡◌, ◌≢◌, ℕ, Result, MatchResult}
use Rattle.refusals.specs.declared.Refusal.{Refusal}
use Rattle.refusals.specs.declared.Refusal.TheVariants.{AdjacencyUnknown}
use Rattle.geometry.specs.declared.adjacency.Adjacency.{Adjacency}
use Rattle.geometry.specs.declared.adjacency.Adjacency.TheVariants.{Four, Eight}

-- the number of an adjacency
abbrev pub adjacency_number : Adjacency → ℕ
adjacency_number Four = 4
adjacency_number Eight = 8

-- the adjacency that a number names, or a refusal if it names none
abbrev pub IsNamed : ℕ → Result Adjacency Refusal → Type 0
IsNamed n r =
    MatchResult r (λ a. adjacency_number a ≡ n) (λ e. (e ≡ AdjacencyUnknown) × (n ≢ 4) × (n ≢ 8))
