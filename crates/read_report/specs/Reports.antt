-- The line that is printed for a file.
use Rattle.std.specs.Prelude.{List, [], ◌∷◌, ℕ, Result}
use Rattle.refusals.specs.declared.Refusal.{Refusal}
use Rattle.p5.specs.declared.header.Header.{Header}
use Rattle.p5.specs.Files.{read_file, outcome_number, place_of, header_of}

-- the six numbers of an answer: number, place, width, height, largest sample, offset
abbrev pub line_in : Result Header Refusal → List ℕ
line_in o =
    let h = header_of o in
    outcome_number o ∷ place_of o ∷ h.width ∷ h.height ∷ h.largest ∷ h.offset ∷ []

-- those of what reading the file answers
unfoldable pub report : List ℕ → List ℕ
report f = line_in (read_file f)
