-- The text for a file that is saved again, by the file's fault, and what the calls behind it leave.
use mathlib.Core.Path.{◌≡◌, refl, sym, ap, ◌∙◌}
use mathlib.Core.Logic.{◌≢◌}
use mathlib.Core.List.{List}
use Prim.Native.Nat.{ℕ, ◌≤◌, ◌<◌}
use native.Mathlib.Omega.{arith}
use lib.ListN.{length, take}
use Rattle.std.specs.Prelude.{Result, Ok, Err}
use Rattle.lists.specs.Writing.{Written}
use Rattle.lists.proofs.Cuts.{from, take_rest}
use Rattle.lists.proofs.Writings.{front-written}
use Rattle.refusals.specs.declared.Refusal.{Refusal}
use Rattle.refusals.proofs.Numbers.{number-some}
use Rattle.p5.specs.declared.header.Header.{Header}
use Rattle.p5.specs.Files.{read_file, outcome_number}
use Rattle.hold_lines.specs.Lines.{refused_line}
use Rattle.file_text.specs.FileText.{input_most, file_fault}
use Rattle.file_text.proofs.FileTexts.{fault-none, fault-read, text-refused, text-print, text-counted}
use Rattle.saving.specs.ShortFiles.{file_most, saved_again}
use Rattle.saving.specs.Calls.{Saved, saved_of, SaveSays}
use Rattle.saving.specs.Reading.{ReadsAs}
use Rattle.saving.proofs.Contents.{savable, room-given, save-left}
use Rattle.saving.proofs.Headers.{file-most}
use Rattle.saving.proofs.Reading.{saved-file, saved-once, saved-shortest, accepted-saves, equal-bytes}
use Rattle.resaving.specs.Steps.{SavesAgain}
use Rattle.resaving.specs.Resaved.{resaved_text, ResavedOnce, EqualTexts}

module _ (f : List ℕ) where
  pub resaved-refused : file_fault f ≢ 0 → resaved_text f ≡ refused_line (file_fault f)
  unfolding resaved_text
  resaved-refused d = text-refused _ f d

  pub resaved-file : file_fault f ≡ 0 → resaved_text f ≡ saved_again f
  unfolding resaved_text
  resaved-file e = text-print saved_again f e

pub resaved-counted :
    (count : ℕ) (input : List ℕ) → input_most < count → input_most < length input → resaved_text (take count input) ≡ refused_line 12
unfolding resaved_text
resaved-counted count input h g = text-counted _ count input h g

-- what reading answers for an accepted file is its picture
pub answer-reads : (f : List ℕ) (h : Header) → read_file f ≡ Ok h → ReadsAs f h.width h.height h.largest (from h.offset f)
answer-reads f h e =
    record {
      header = h;
      read = e;
      width = refl;
      height = refl;
      largest = refl;
      pixels = sym (take_rest h.offset f);
    }

-- the picture of an accepted file is saved without a refusal where there is room for every file, and its file is written
module _ (f : List ℕ) (w h m : ℕ) (xs : List ℕ) (a : ReadsAs f w h m xs) where
  pub saved-written :
      (o o' : List ℕ) (r : Saved) → file_most ≤ length o → SaveSays w h m xs o o' r → Written 0 (saved_again f) o r.count o'
  saved-written o o' r room s =
      let c = accepted-saves f w h m xs a in
      let none = room-given w h m xs (length o) c (omega (arith, file-most (savable c))) in
      let left = save-left s (s.number ∙ none) in
      rw (saved-file f w h m xs a) (front-written left.0 left.1)

  pub saved-again :
      (o o' : List ℕ) (r : Result ℕ Refusal) → file_fault f ≡ 0 → file_most ≤ length o → SaveSays w h m xs o o' (saved_of r) → SavesAgain f o o' r
  saved-again o o' (Ok n) z room s = record { none = z; written = saved-written o o' (saved_of (Ok n)) room s }
  saved-again o o' (Err e) z room s =
      let c = accepted-saves f w h m xs a in
      let none = room-given w h m xs (length o) c (omega (arith, room, file-most (savable c))) in
      absurd (omega (arith, number-some e, s.number, none))

pub resaved-once : ResavedOnce
resaved-once f w h m xs e a =
    let same = resaved-file f e in
    let again = saved-once f w h m xs a in
    let long : length (saved_again f) ≤ length f = rw (saved-file f w h m xs a) (saved-shortest f w h m xs a) in
    let read : ReadsAs (resaved_text f) w h m xs = rw same again.0 in
    let none : file_fault (saved_again f) ≡ 0 =
    fault-read (saved_again f) (omega (arith, long, (fault-none f e).0)) ∙ ap outcome_number again.0.read in
    (read, rw same long, ap resaved_text same ∙ (resaved-file (saved_again f) none ∙ (again.1 ∙ sym same)))

pub equal-texts : EqualTexts
equal-texts f g w h m xs d e a b =
    resaved-file f d ∙ (equal-bytes f g w h m xs a b ∙ sym (resaved-file g e))
