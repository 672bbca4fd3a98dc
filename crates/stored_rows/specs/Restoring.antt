-- What is shown of stored rows: the order loses and repeats no row, the way back restores every accepted picture, and every n bytes are the
-- stored form of exactly one.
-- w h the sides, pixels those of a picture, stored a stored form, bytes either, out the output, result the answer; of two calls first and
-- second are the answers, the second one's output is again; a prime: after the call.
use Rattle.std.specs.Prelude.{◌≡◌, true, ◌&&◌, ◌||◌, ◌⊎◌, List, ℕ, ◌*◌, ◌≤◌, eqb, ltb, length, take, drop}
use Rattle.lists.specs.Lists.{pick, tally}
use Rattle.picture.specs.Pictures.{Picture, places, picture_of, side_fits, all_bytes, is_picture}
use Rattle.answers.specs.Answers.{Answer}
use Rattle.stored_rows.specs.Rows.{row_order, stored_rows, restored_rows}
use Rattle.stored_rows.specs.Calls.{rows_fault, StoreSays, RestoreSays}

-- each row below h stands in the order of the rows exactly once, and no other number does
abbrev pub OrderKeepsRows : Type 0
OrderKeepsRows = (h r : ℕ) → tally (eqb r) (row_order h) ≡ pick (ltb r h) 1 0

-- bytes, as many as the places of a picture with sides w and h
pub record Bytes (w h : ℕ) (bytes : List ℕ) : Type 0 where
  pub count : length bytes ≡ w * h
  pub each : all_bytes bytes ≡ true

-- the pixels of an accepted picture are such bytes
abbrev pub AcceptedBytes : Type 0
AcceptedBytes = (p : Picture) → is_picture p ≡ true → Bytes p.width p.height p.pixels

-- and such bytes are the pixels of an accepted picture where adjacency and sides fit
abbrev pub BytesAccepted : Type 0
BytesAccepted =
    (a w h : ℕ) (pixels : List ℕ) → (eqb a 4 || eqb a 8) ≡ true → side_fits w && side_fits h ≡ true → Bytes w h pixels →
    is_picture (picture_of a w h pixels) ≡ true

-- the stored form is such bytes too
abbrev pub StoredBytes : Type 0
StoredBytes = (w h : ℕ) (pixels : List ℕ) → Bytes w h pixels → Bytes w h (stored_rows w h pixels)

-- the way back restores the pixels
abbrev pub Restored : Type 0
Restored = (w h : ℕ) (pixels : List ℕ) → Bytes w h pixels → restored_rows w h (stored_rows w h pixels) ≡ pixels

-- so it restores every accepted picture
abbrev pub PictureRestored : Type 0
PictureRestored =
    (p : Picture) → is_picture p ≡ true →
    restored_rows p.width p.height (stored_rows p.width p.height p.pixels) ≡ p.pixels

-- the bytes stored are the stored form of the pixels with sides w and h and of no others
pub record StoresOnly (w h : ℕ) (stored pixels : List ℕ) : Type 0 where
  pub bytes : Bytes w h pixels
  pub form : stored_rows w h pixels ≡ stored
  pub only : (others : List ℕ) → Bytes w h others → stored_rows w h others ≡ stored → others ≡ pixels

-- every n bytes are the stored form of exactly one picture with those sides, which the way back makes of them
abbrev pub StoredOnce : Type 0
StoredOnce = (w h : ℕ) (stored : List ℕ) → Bytes w h stored → StoresOnly w h stored (restored_rows w h stored)

-- a call with room for it does not refuse an accepted picture; nor its stored form, which has that length too
abbrev pub AcceptedUnrefused : Type 0
AcceptedUnrefused =
    (p : Picture) (room : ℕ) → is_picture p ≡ true → places p ≤ room → rows_fault p.width p.height (length p.pixels) room ≡ 0

-- either call leaves what lies in the output behind the n bytes, refused or not
abbrev pub BehindKept : Type 0
BehindKept =
    (w h : ℕ) (bytes out out' : List ℕ) (result : Answer) →
    StoreSays w h bytes out out' result ⊎ RestoreSays w h bytes out out' result → drop (w * h) out' ≡ drop (w * h) out

-- two calls: the second, with room, is not refused, and restores what the first has stored
abbrev pub CallRestores : Type 0
CallRestores =
    (w h : ℕ) (pixels out out' again again' : List ℕ) (first second : Answer) → all_bytes pixels ≡ true →
    StoreSays w h pixels out out' first → first.number ≡ 0 →
    RestoreSays w h (take (w * h) out') again again' second → w * h ≤ length again →
    (second.number ≡ 0) × (take (w * h) again' ≡ pixels)

-- the other way round: the second stores what the first has restored, as it was
abbrev pub CallStores : Type 0
CallStores =
    (w h : ℕ) (stored out out' again again' : List ℕ) (first second : Answer) → all_bytes stored ≡ true →
    RestoreSays w h stored out out' first → first.number ≡ 0 →
    StoreSays w h (take (w * h) out') again again' second → w * h ≤ length again →
    (second.number ≡ 0) × (take (w * h) again' ≡ stored)
