-- What reading a file and saving its picture again promises.
use Rattle.std.specs.Prelude.{◌≡◌, ◌≢◌, List, ℕ, Result, Ok, Err}
use Rattle.lists.specs.Writing.{Written}
use Rattle.refusals.specs.declared.Refusal.{Refusal}
use Rattle.refusals.specs.Refusals.{number_of}
use Rattle.file_text.specs.FileText.{file_fault}
use Rattle.saving.specs.ShortFiles.{saved_again}

-- a file without a fault: n bytes are written, its picture saved again
pub record SavedAs (f o o' : List ℕ) (n : ℕ) : Type 0 where
  pub none : file_fault f ≡ 0
  pub written : Written 0 (saved_again f) o n o'

-- a file with a fault: its refusal, and nothing is written
pub record RefusedAs (f o o' : List ℕ) (e : Refusal) : Type 0 where
  pub some : file_fault f ≢ 0
  pub number : number_of e ≡ file_fault f
  pub kept : o' ≡ o

-- either of them
abbrev pub SavesAgain : List ℕ → List ℕ → List ℕ → Result ℕ Refusal → Type 0
SavesAgain f o o' (Ok n) = SavedAs f o o' n
SavesAgain f o o' (Err e) = RefusedAs f o o' e
