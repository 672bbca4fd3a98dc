-- What a program prints for the file that it is handed.
use Rattle.std.specs.Prelude.{List, ℕ, eqb, ltb, length}
use Rattle.lists.specs.Lists.{pick}
use Rattle.faults.specs.PictureFault.{first_of, when}
use Rattle.p5.specs.Files.{read_file, outcome_number}
use Rattle.hold_lines.specs.Lines.{refused_line}

-- the most bytes of input that a program takes
abbrev pub input_most : ℕ
input_most = 4096

-- the fault of a file that a program is handed: 12 for more than that, then that of reading
unfoldable pub file_fault : List ℕ → ℕ
file_fault f = first_of (when (ltb input_most (length f)) 12) (outcome_number (read_file f))

-- the text for a file: the line of its refusal, else what is printed of it
unfoldable pub file_text : (List ℕ → List ℕ) → List ℕ → List ℕ
file_text print f = pick (eqb (file_fault f) 0) (print f) (refused_line (file_fault f))
