-- The text for a file by the cases of reading and of the words; the picture of an accepted file.
use Rattle.std.proofs.Common.{◌≡◌, refl, sym, ap, ◌∙◌, Bool, true, false, ◌&&◌, inl, List, ℕ, ◌+◌, ◌≤◌, ◌<◌, ltb, length, get_or, take, drop, length-drop, get_or-drop, lt-ltb, le-ltb, Ok, Err, arith}
use Rattle.lists.specs.Lists.{pick}
use Rattle.picture.specs.Pictures.{Picture, with_pixels, side_fits, is_picture, picture_of}
use Rattle.picture.specs.Watersheds.{watershed}
use Rattle.lists.proofs.Cuts.{from, take_rest}
use Rattle.lists.proofs.Tests.{and_both}
use Rattle.topology.proofs.Accepted.{accepted-is, is-accepted, at_byte}
use Rattle.topology.proofs.Water.{watershed-shape}
use Rattle.topology.proofs.Demand.{demand-3}
use Rattle.p5.specs.declared.header.Header.{Header}
use Rattle.p5.specs.Files.{read_file}
use Rattle.p5.specs.Shapes.{Accepts}
use Rattle.p5.proofs.Accepted.{accepted, fits-inside}
use Rattle.refusals.specs.declared.Refusal.{Refusal}
use Rattle.refusals.specs.Refusals.{number_of}
use Rattle.hold_lines.specs.Lines.{refused_line}
use Rattle.file_text.specs.FileText.{input_most}
use Rattle.file_text.specs.Handed.{handed}
use Rattle.file_text.proofs.FileTexts.{handed-refused, handed-accepted, text-refused, text-print, text-counted}
use Rattle.hold_list.specs.HoldText.{patch_list, hold_list, picture_in, picture_text, filled_list, asked_size, program_text}
use Rattle.hold_list.specs.Steps.{asked_list}

-- a test may come before reading or after it
test-later :
    (b : Bool) (g h : Picture → List ℕ) (f : List ℕ) →
    pick b (picture_text g f) (picture_text h f) ≡ picture_text (λ p. pick b (g p) (h p)) f
test-later true g h f = refl
test-later false g h f = refl

-- what the program prints for a file
module _ (words : ℕ) (a : List ℕ) where
  asked : (f : List ℕ) → program_text words a f ≡ picture_text (asked_list words a) f
  unfolding program_text asked_list
  asked f = test-later (ltb words 2) hold_list (filled_list (asked_size words a)) f

  -- by what is read of it
  pub words-refused : (f : List ℕ) (e : Refusal) (n : ℕ) → handed f ≡ Err e → n ≡ number_of e → refused_line n ≡ program_text words a f
  words-refused f e n h same =
      let (number, some) = handed-refused f h in
      ap refused_line (same ∙ number) ∙ sym (asked f ∙ text-refused _ f some)

  pub words-list : (f : List ℕ) (h : Header) → handed f ≡ Ok h → asked_list words a (picture_in f) ≡ program_text words a f
  words-list f h e = sym (asked f ∙ text-print _ f (handed-accepted f e).0)

  -- an input that is too long: refusal 12
  pub words-counted :
      (count : ℕ) (input : List ℕ) → input_most < count → input_most < length input → program_text words a (take count input) ≡ refused_line 12
  words-counted count input h g = asked (take count input) ∙ text-counted _ count input h g

-- what is printed of a picture by the number of words
module _ (words : ℕ) (a : List ℕ) (p : Picture) where
  pub asked-holds : words < 2 → asked_list words a p ≡ hold_list p
  unfolding asked_list
  asked-holds h = rw (lt-ltb words 2 h)

  pub asked-filled : 2 ≤ words → asked_list words a p ≡ filled_list (asked_size words a) p
  unfolding asked_list
  asked-filled h = rw (le-ltb words 2 h)

-- an accepted file
module _ (f : List ℕ) (h : Header) (e : read_file f ≡ Ok h) where
  shape : Accepts f h
  shape = (accepted f h).0 e

  pub file-offset : h.offset ≤ length f
  file-offset = omega (arith, shape.headed.offset)

  pub file-sides : side_fits h.width && side_fits h.height ≡ true
  file-sides = and_both (fits-inside shape.width) (fits-inside shape.height)

  -- its picture is accepted
  pub file-picture : ((i : ℕ) → get_or f i 0 ≤ 255) → is_picture (picture_of 4 h.width h.height (from h.offset f)) ≡ true
  file-picture b =
      rw (take_rest h.offset f)
      (is-accepted (picture_of 4 h.width h.height (drop h.offset f))
      (record {
        adjacency = inl refl;
        some = shape.width.0;
        wide = shape.width.1;
        tall = shape.height.0;
        high = shape.height.1;
        size = omega (arith, length-drop h.offset f, shape.headed.offset, shape.count);
        bytes = at_byte (drop h.offset f) (λ i. omega (arith, get_or-drop h.offset f i 0, b (h.offset + i)));
      }))

-- bytes that are the pixels of the watershed of an accepted picture
module _ (p : Picture) (h : is_picture p ≡ true) (xs : List ℕ) (e : xs ≡ (watershed p).pixels) where
  water-is : with_pixels p xs ≡ watershed p
  water-is = ap (with_pixels p) e ∙ sym (watershed-shape p (accepted-is p h).size)

  pub water-picture : is_picture (with_pixels p xs) ≡ true
  water-picture = ap is_picture water-is ∙ (demand-3 p h).accepted

  pub holds-are : patch_list (with_pixels p xs) ≡ hold_list p
  unfolding hold_list
  holds-are = ap patch_list water-is
