-- What reading a file that a program is handed promises.
use Rattle.std.specs.Prelude.{◌≡◌, List, ℕ, ◌≤◌, ◌<◌, ltb, length, Result, Err}
use Rattle.lists.specs.Lists.{pick}
use Rattle.refusals.specs.declared.Refusal.{Refusal}
use Rattle.refusals.specs.declared.Refusal.TheVariants.{InputTooLong}
use Rattle.p5.specs.declared.header.Header.{Header}
use Rattle.p5.specs.Files.{read_file}
use Rattle.file_text.specs.FileText.{input_most}

-- the answer for a file that a program is handed: the refusal 12 if it is too long, else that of reading
abbrev pub handed : List ℕ → Result Header Refusal
handed f = pick (ltb input_most (length f)) (Err InputTooLong) (read_file f)

-- the same by cases: a file that is too long has the refusal 12, any other the answer of reading
pub record HandedSays (f : List ℕ) (r : Result Header Refusal) : Type 0 where
  pub long : input_most < length f → r ≡ Err InputTooLong
  pub short : length f ≤ input_most → r ≡ read_file f
