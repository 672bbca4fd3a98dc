-- What the call that answers the pixels of a file promises.
use Rattle.std.specs.Prelude.{◌≡◌, List, [], ℕ, ◌+◌, eqb, drop}
use Rattle.std.specs.Borrow.{Bor}
use Rattle.lists.specs.Lists.{pick}
use Rattle.p5.specs.Files.{read_file, outcome_number, header_of}

-- the pixels of a file: what follows its header; none on a refusal
unfoldable pub pixels_of : List ℕ → List ℕ
pixels_of f = pick (eqb (outcome_number (read_file f)) 0) (drop (header_of (read_file f)).offset f) []

-- the pixels as a part of the file: the same bytes in the same memory, from the header's offset on
pub record PixelsSay (file pixels : Bor (List ℕ)) : Type 0 where
  pub bytes : pixels.now ≡ pixels_of file.now
  pub memory : pixels.ref_ptr.0 ≡ file.ref_ptr.0
  pub start : pixels.ref_ptr.1 ≡ file.ref_ptr.1 + (header_of (read_file file.now)).offset
