-- What the functions behind the list of patches leave in work.
use Rattle.std.specs.Prelude.{◌≡◌, List, map, ℕ, ◌*◌, length, drop}
use Rattle.picture.specs.Pictures.{Picture}
use Rattle.picture.specs.Patches.{patches}
use Rattle.patch_records.specs.Records.{Entries, records}
use Rattle.patch_lists.specs.PatchLists.{record_of}

-- the figures of the r patches are in the first 5 n entries of work
pub record Figured (p : Picture) (q q' : List ℕ) (r : ℕ) : Type 0 where
  pub count : r ≡ length (patches p)
  pub entries : Entries (length p.pixels) q' r
  pub records : records (length p.pixels) q' r ≡ map record_of (patches p)
  pub rest : drop (5 * length p.pixels) q' ≡ drop (5 * length p.pixels) q
