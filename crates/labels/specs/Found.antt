-- The label common to some places, as a number.
use Rattle.std.specs.Prelude.{◌≢◌, ℕ}
use Rattle.labels.specs.declared.lowerable.Found.{Found}
use Rattle.labels.specs.declared.lowerable.Found.TheVariants.{None, One, Different}

-- 0 for no label and 65,535 for labels that differ
abbrev pub found_number : Found → ℕ
found_number None = 0
found_number (One label) = label
found_number Different = 65535

-- a label is neither of these two numbers
abbrev pub IsProper : Found → Type 0
IsProper None = Unit {0}
IsProper (One label) = (label ≢ 0) × (label ≢ 65535)
IsProper Different = Unit {0}
