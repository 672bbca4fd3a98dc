-- Handbooks by their numbers.
use Rattle.std.specs.Prelude.{◌≡◌, ◌≢◌, ℕ, Result, MatchResult}
use Rattle.refusals.specs.declared.Refusal.{Refusal}
use Rattle.refusals.specs.declared.Refusal.TheVariants.{HandbookUnknown}
use Rattle.patches.specs.declared.handbook.Handbook.{Handbook}
use Rattle.patches.specs.declared.handbook.Handbook.TheVariants.{Fourth, Fifth}

-- the number of a handbook
abbrev pub handbook_number : Handbook → ℕ
handbook_number Fourth = 4
handbook_number Fifth = 5

-- the handbook that a number names, or a refusal if it names none
abbrev pub IsNamed : ℕ → Result Handbook Refusal → Type 0
IsNamed n r =
    MatchResult r (λ a. handbook_number a ≡ n) (λ e. (e ≡ HandbookUnknown) × (n ≢ 4) × (n ≢ 5))
