-- Lines of patches from blocks of their figures.
use Rattle.std.specs.Prelude.{List, ℕ, ◌≤◌, ◌<◌, get_or}
use Rattle.patch_records.specs.declared.Patch.{Patch}
use Rattle.patch_records.specs.Records.{Entries, record_at}
use Rattle.hold_lines.specs.Lines.{line_of}

-- the line of a record
abbrev pub record_line : Patch → List ℕ
record_line q = line_of q.number q.size q.height q.depth q.columns q.rows

-- the line of the patch i + 1, from blocks of n sizes, column sums, row sums, depths and heights
abbrev pub line_at : ℕ → List ℕ → ℕ → List ℕ
line_at n figures i = record_line (record_at n figures i)

-- blocks of n figures of count patches, each of one pixel at least
pub record Figured (n : ℕ) (figures : List ℕ) (count : ℕ) : Type 0 where
  pub few : count ≤ 1600
  pub entries : Entries n figures count
  pub some : (i : ℕ) → i < count → 1 ≤ get_or figures i 0
