-- `saving::write_file` meets its contract: a refusal leaves the output as it was.
use Rattle.std.proofs.Common.{◌≡◌, ◌≢◌, refl, sym, ap, ◌∙◌, Bool, true, false, List, ◌++◌, ℕ, ◌+◌, length, take, Ok, Err, arith}
use Rattle.std.proofs.lemmas.Result.{err_from_is_err_and}
use lib.Dec.{ltb}
use Rattle.refusals.specs.declared.Refusal.{Refusal}
use Rattle.refusals.specs.declared.Refusal.TheVariants.{NotP5, Malformed, SideOutside, LargestOutside, CountDiffers, PixelAbove, AdjacencyUnknown, LengthDiffers, MemoryShort, PlaceOutside, NotTheTree, InputTooLong, SizeOutside, HandbookUnknown}
use Rattle.refusals.specs.Refusals.{number_of}
use Rattle.refusals.proofs.Numbers.{number-some}
use Rattle.faults.specs.PictureFault.{when}
use Rattle.lists.specs.Lists.{over}
use Rattle.lists.specs.Writing.{Written}
use Rattle.lists.proofs.Writings.{text-front}
use Rattle.saving.specs.ShortFiles.{short_header, file_of}
use Rattle.saving.specs.Calls.{content_fault, saving_fault, Saved, saved_of, SaveSays}
use Rattle.saving.specs.Steps.{ContentSays}
use Rattle.saving.proofs.Contents.{savable, save-refused, save-short, save-done, room-fault}
use Rattle.saving.proofs.Headers.{few-digits, few-pixels, file-parts, file-length}
use Rattle.saving.proofs.write_file.Goals as goal

some : (e : Refusal) → number_of e ≢ 0
some e z = omega (arith, number-some e)

-- a refusal of what is to be saved
refused : (w h m : ℕ) (xs o : List ℕ) (e : Refusal) → ContentSays w h m xs (saved_of (Err e)) → SaveSays w h m xs o o (saved_of (Err e))
refused w h m xs o e s = save-refused s (some e)

-- past the first refusals: what is to be saved has no fault
content : (w h m : ℕ) (xs : List ℕ) → ContentSays w h m xs (saved_of (Ok 0)) → content_fault w h m xs ≡ 0
content w h m xs e = sym (ap (λ (r : Saved). r.number) e)

-- a refusal for want of room has the number 9 and names no place
room-place : (e : Refusal) (t : Bool) → number_of e ≡ when t 9 → saved_of (Err e) ≡ record { number = number_of e; place = 0; count = 0 }
room-place NotP5 t z = refl
room-place (Malformed x) true z = absurd (omega arith)
room-place (Malformed x) false z = absurd (omega arith)
room-place SideOutside t z = refl
room-place LargestOutside t z = refl
room-place CountDiffers t z = refl
room-place (PixelAbove x) true z = absurd (omega arith)
room-place (PixelAbove x) false z = absurd (omega arith)
room-place AdjacencyUnknown t z = refl
room-place LengthDiffers t z = refl
room-place MemoryShort t z = refl
room-place PlaceOutside t z = refl
room-place NotTheTree t z = refl
room-place InputTooLong t z = refl
room-place SizeOutside t z = refl
room-place HandbookUnknown t z = refl

-- past the header: the count is that of the file, the fault that of the whole call, and the header stands before the pixels
module _ (w h m : ℕ) (xs : List ℕ) {end : ℕ} {a header : List ℕ} (put : Written 0 (short_header w h m) a end header) where
  counted : end + length xs ≡ length (file_of w h m xs)
  counted = omega (arith, file-length w h m xs, put.end)

  fault : (out : ℕ) {n : ℕ} → content_fault w h m xs ≡ 0 → n ≡ when (ltb out (end + length xs)) 9 → n ≡ saving_fault w h m xs out
  fault out c e = e ∙ ap (λ (l : ℕ). when (ltb out l) 9) counted ∙ sym (room-fault w h m xs out c)

  file : take end header ++ xs ≡ file_of w h m xs
  file = ap (λ (l : List ℕ). l ++ xs) (text-front put) ∙ file-parts w h m xs

pub returns-in_err-content_refusal : goal.returns-in_err-content_refusal
returns-in_err-content_refusal c =
    let p = err_from_is_err_and c.from_residual.result c.from_residual.ensures.1 in
    rw (p.1, p.2) (refused _ _ _ _ _ _ c.in_err-content_refusal.ensures)

pub put_header-end-requires : goal.put_header-end-requires
put_header-end-requires c =
    let d = few-digits (savable (content _ _ _ _ c.in_ok-content_refusal.ensures)) in
    (d.0, d.1, d.2, omega arith)

pub returns-in_err-room : goal.returns-in_err-room
returns-in_err-room c =
    let none = content _ _ _ _ c.in_ok-content_refusal.ensures in
    let p = err_from_is_err_and c.from_residual-in_err-room.result c.from_residual-in_err-room.ensures.1 in
    rw (p.1, p.2)
    (save-short none (fault _ _ _ _ c.put_header-end.ensures.0 _ none c.in_err-room.ensures) (some _)
    (room-place _ _ c.in_err-room.ensures))

-- a header of 13 bytes and 1,600 pixels: the count fits 16 bits
pub overflow_cast-result : goal.overflow_cast-result
overflow_cast-result c =
    let few = few-pixels (savable (content _ _ _ _ c.in_ok-content_refusal.ensures)) in
    record { fits = omega arith }

pub returns : goal.returns
returns c =
    let none = content _ _ _ _ c.in_ok-content_refusal.ensures in
    let header = c.put_header-end.ensures.0 in
    save-done (sym (fault _ _ _ _ header _ none c.in_ok-room.ensures)) (counted _ _ _ _ header) refl
    (c.put_file.ensures ∙ ap (λ (l : List ℕ). over l c.args.out.now) (file _ _ _ _ header))
