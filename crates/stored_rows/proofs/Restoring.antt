-- The theorems of stored rows that speak of no call; `order-keeps-rows` is in `Orders`.
use mathlib.Core.Path.{sym, ap, ◌∙◌}
use mathlib.Core.Bool.{true, false}
use borrow.Author.Tests.{eq-eqb}
use Rattle.picture.specs.Pictures.{side_fits, is_picture}
use Rattle.lists.proofs.Tests.{and_left, and_right, and_both}
use Rattle.topology.proofs.Accepted.{accepted-is}
use Rattle.stored_rows.specs.Rows.{restored_rows}
use Rattle.stored_rows.specs.Restoring.{AcceptedBytes, BytesAccepted, StoredBytes, Restored, PictureRestored, StoredOnce}
use Rattle.stored_rows.proofs.Conversions.{rows-bytes, conversion-undone}

pub accepted-bytes : AcceptedBytes
accepted-bytes p e = let a = accepted-is p e in record { count = a.size; each = a.bytes }

pub bytes-accepted : BytesAccepted
unfolding is_picture
bytes-accepted a w h xs d e b =
    and_both d
    (and_both (and_left (side_fits w) _ e) (and_both (and_right (side_fits w) _ e) (and_both (eq-eqb _ _ b.count) b.each)))

pub stored_bytes : StoredBytes
stored_bytes = rows-bytes false

pub restored : Restored
restored = conversion-undone false

pub picture-restored : PictureRestored
picture-restored p e = restored _ _ _ (accepted-bytes p e)

pub stored-once : StoredOnce
stored-once w h s b =
    record {
      bytes = rows-bytes true w h s b;
      form = conversion-undone true w h s b;
      only = λ others k e. sym (restored w h others k) ∙ ap (restored_rows w h) e;
    }
