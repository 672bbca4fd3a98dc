-- Records of patches from blocks of figures.
use Rattle.std.specs.Prelude.{List, map, ℕ, ◌+◌, ◌*◌, ◌≤◌, ◌<◌, length, get_or}
use Rattle.lists.specs.Lists.{range}
use Rattle.patch_records.specs.declared.Patch.{Patch}

-- the five blocks of n figures have an entry i, whose depth and height are bytes
pub record Entry (n : ℕ) (figures : List ℕ) (i : ℕ) : Type 0 where
  pub few : i < 65535
  pub last : 4 * n + i < length figures
  pub depth : get_or figures (3 * n + i) 0 ≤ 255
  pub height : get_or figures (4 * n + i) 0 ≤ 255

-- the same of every entry below count
pub record Entries (n : ℕ) (figures : List ℕ) (count : ℕ) : Type 0 where
  pub entry : (i : ℕ) → i < count → Entry n figures i

-- the record of the patch i + 1: size in the first block, column sum in the second, row sum in the third, depth in the fourth, height in the fifth
unfoldable pub record_at : ℕ → List ℕ → ℕ → Patch
record_at n figures i =
    record {
      number = i + 1;
      size = get_or figures i 0;
      height = get_or figures (4 * n + i) 0;
      depth = get_or figures (3 * n + i) 0;
      columns = get_or figures (n + i) 0;
      rows = get_or figures (2 * n + i) 0;
    }

-- the records of the first count patches
abbrev pub records : ℕ → List ℕ → ℕ → List Patch
records n figures count = map (record_at n figures) (range 0 count)
