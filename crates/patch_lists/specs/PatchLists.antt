-- The fault of a list of patches, and the record of a patch in it.
use Rattle.std.specs.Prelude.{ℕ, ltb, length}
use Rattle.picture.specs.Pictures.{Picture}
use Rattle.faults.specs.PictureFault.{first_of, when}
use Rattle.faults.specs.Faults.{work_fault_of}
use Rattle.picture.specs.Patches.{Patch, patches}
use Rattle.patch_records.specs.declared.Patch.{Patch as PatchRecord}

-- the fault of a call that lends a list of so many records and work of so many entries: that of the picture and work, then 9 for fewer records than patches
unfoldable pub list_fault : Picture → ℕ → ℕ → ℕ
list_fault p room work = first_of (work_fault_of p work) (when (ltb room (length (patches p))) 9)

-- the record of a patch in a list
abbrev pub record_of : Patch → PatchRecord
record_of x =
    record {
      number = x.number;
      size = x.size;
      height = x.height;
      depth = x.depth;
      columns = x.columns;
      rows = x.rows;
    }
