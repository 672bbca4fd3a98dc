-- What is saved is read again, and in no more bytes than any file of the picture has; the place of 6.
use mathlib.Core.Path.{◌≡◌, refl, sym, ap, ◌∙◌}
use mathlib.Core.List.{List, [], ◌∷◌, ◌++◌, append_assoc}
use Prim.Native.Nat.{ℕ, ◌<◌}
use native.Mathlib.Omega.{arith}
use borrow.Author.Tests.{leb-true, leb-false, le-leb}
use lib.ListN.{length, take, length-append}
use lib.Seq.{take_at}
use Rattle.picture.specs.Pictures.{side_fits}
use Rattle.text.specs.Decimal.{decimal}
use Rattle.p5.specs.declared.header.Header.{Header}
use Rattle.p5.specs.Files.{at_most, header_of}
use Rattle.p5.specs.Shapes.{Headed, Accepts}
use Rattle.p5.proofs.Accepted.{accepted, inside, fits-inside}
use Rattle.p5.proofs.Gap.{gap-one, gap-some}
use Rattle.p5.proofs.Leading.{leading_le, leading-next, leading-below, leading-full}
use Rattle.p5.proofs.Shape.{headed-rest}
use Rattle.lists.proofs.Tests.{and_left, and_right, and_both}
use Rattle.saving.specs.ShortFiles.{short_header, file_of, saved_again}
use Rattle.saving.specs.Calls.{first_above, Saved, SaveSays}
use Rattle.saving.specs.Reading.{ReadsAs, SavedReads, CallReads, AcceptedSaves, EqualBytes, SavedOnce, Shortest, CallSaves, CallPlace}
use Rattle.saving.proofs.Numerals.{numeral, numeral-shortest}
use Rattle.saving.proofs.Contents.{Savable, savable, faultless, saving-none, save-left, save-above}
use Rattle.saving.proofs.Headers.{file-length, few-digits}

-- the header that reading answers for a short header
abbrev header_for : ℕ → ℕ → ℕ → Header
header_for w h m = record { width = w; height = h; largest = m; offset = length (short_header w h m) }

module _ (w h m : ℕ) (xs : List ℕ) where
  file-bytes : short_header w h m ++ xs ≡ 80 ∷ 53 ∷ 10 ∷ decimal w ++ (32 ∷ decimal h ++ (10 ∷ decimal m ++ 10 ∷ xs))
  unfolding short_header
  file-bytes = simp append_assoc

  -- the file has a header of the grammar
  saved-headed : w < 100000 → h < 100000 → m < 100000 → Headed (file_of w h m xs) (header_for w h m) xs
  unfolding file_of
  saved-headed a b c =
      record {
        gap₁ = 10 ∷ [];
        width = decimal w;
        gap₂ = 32 ∷ [];
        height = decimal h;
        gap₃ = 10 ∷ [];
        largest = decimal m;
        last = 10;
        bytes = file-bytes;
        is-gap₁ = gap-one refl;
        is-width = numeral w a;
        is-gap₂ = gap-one refl;
        is-height = numeral h b;
        is-gap₃ = gap-one refl;
        is-largest = numeral m c;
        is_last = refl;
        offset = sym (length-append (short_header w h m) xs);
      }

  saved-accepts : Savable w h m xs → Accepts (file_of w h m xs) (header_for w h m)
  saved-accepts s =
      let d = few-digits s in
      record {
        pixels = xs;
        headed = saved-headed (omega (arith, d.0)) (omega (arith, d.1)) (omega (arith, d.2));
        width = inside 1 40 w (and_left (side_fits w) _ s.sides);
        height = inside 1 40 h (and_right (side_fits w) _ s.sides);
        largest = inside 1 255 m s.largest;
        count = s.count;
        most = λ i k. leb-true _ _ (leading-below (at_most m) xs i (rw s.pixels k));
      }

pub saved-reads : SavedReads
unfolding saved-accepts
saved-reads w h m xs z =
    let a = saved-accepts w h m xs (savable z) in
    record {
      header = header_for w h m;
      read = (accepted (file_of w h m xs) (header_for w h m)).1 a;
      width = refl;
      height = refl;
      largest = refl;
      pixels = headed-rest (file_of w h m xs) (header_for w h m) xs a.headed;
    }

-- the bytes that an unrefused call leaves are the file
module _ {w h m : ℕ} {xs o o' : List ℕ} {r : Saved} (s : SaveSays w h m xs o o' r) (z : r.number ≡ 0) where
  call-file : take r.count o' ≡ file_of w h m xs
  call-file = let left = save-left s z in rw (left.0, left.1) (take_at (file_of w h m xs) _ _ refl)

pub call-reads : CallReads
call-reads w h m xs o o' r s z = rw (call-file s z) (saved-reads w h m xs (saving-none w h m xs (length o) (sym s.number ∙ z)).0)

-- a place where `leading` stopped within the pixels is the first one above the largest sample
pub call-place : CallPlace
call-place w h m xs o o' r s z =
    let above = save-above s z in
    let within : first_above m xs < length xs = omega (arith, above.1, leading_le (at_most m) xs) in
    rw above.0
    (record {
      within = within;
      above = leb-false _ _ (leading-next (at_most m) xs within);
      none = λ i l. leb-true _ _ (leading-below (at_most m) xs i l);
    })

-- an accepted file is one of the shape, with those pixels
module _ (f : List ℕ) (w h m : ℕ) (xs : List ℕ) (r : ReadsAs f w h m xs) where
  read-accepts : Accepts f r.header
  read-accepts = (accepted f r.header).0 r.read

  read-pixels : read-accepts.pixels ≡ xs
  read-pixels = sym (headed-rest f r.header _ read-accepts.headed) ∙ r.pixels

  -- saved again it is the file of that picture
  pub saved-file : saved_again f ≡ file_of w h m xs
  unfolding saved_again
  saved-file = rw (ap header_of r.read) (rw (r.width, r.height, r.largest, r.pixels))

pub accepted-saves : AcceptedSaves
accepted-saves f w h m xs r =
    let a = read-accepts f w h m xs r in
    let e = read-pixels f w h m xs r in
    faultless
    (record {
      sides = and_both (rw r.width at (fits-inside a.width)) (rw r.height at (fits-inside a.height));
      largest = rw r.largest at (fits-inside a.largest);
      count = ap length (sym e) ∙ a.count ∙ rw (r.width, r.height);
      pixels = leading-full (at_most m) xs (λ i l. le-leb _ _ (rw (e, r.largest) at (a.most i (rw e l))));
    })

pub equal-bytes : EqualBytes
equal-bytes f g w h m xs a b = saved-file f w h m xs a ∙ sym (saved-file g w h m xs b)

pub saved-once : SavedOnce
saved-once f w h m xs r =
    let again : ReadsAs (saved_again f) w h m xs = rw (saved-file f w h m xs r) (saved-reads w h m xs (accepted-saves f w h m xs r)) in
    (again, equal-bytes (saved_again f) f w h m xs again r)

pub saved-shortest : Shortest
saved-shortest f w h m xs r =
    let k = (read-accepts f w h m xs r).headed in
    let mine = simp length-append at (ap length (file-bytes w h m xs)) in
    let whole = simp length-append at (ap length k.bytes) in
    let long : ℕ → ℕ = λ x. length (decimal x) in
    omega (
      arith,
      numeral-shortest k.is-width,
      ap long r.width,
      numeral-shortest k.is-height,
      ap long r.height,
      numeral-shortest k.is-largest,
      ap long r.largest,
      mine,
      whole,
      file-length w h m xs,
      gap-some k.is-gap₁,
      gap-some k.is-gap₂,
      gap-some k.is-gap₃,
      ap length (read-pixels f w h m xs r),
    )

pub call-saves : CallSaves
call-saves f w h m xs o o' r a s z =
    (call-file s z ∙ sym (saved-file f w h m xs a), rw (save-left s z).0 (saved-shortest f w h m xs a))
