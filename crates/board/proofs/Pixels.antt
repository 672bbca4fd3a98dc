-- The pixels of a file that is read, and of one that is refused.
use mathlib.Core.Path.{◌≡◌}
use mathlib.Core.List.{List, []}
use Prim.Native.Nat.{ℕ}
use borrow.Author.Tests.{eq-eqb, ne_eqb}
use lib.ListN.{drop}
use Rattle.p5.specs.Files.{read_file, outcome_number, header_of}
use Rattle.board.specs.Pixels.{pixels_of}

module _ (f : List ℕ) where
  pub pixels-read : outcome_number (read_file f) ≡ 0 → drop (header_of (read_file f)).offset f ≡ pixels_of f
  unfolding pixels_of
  pixels-read e = rw (eq-eqb _ _ e)

  pub pixels-none : (outcome_number (read_file f) ≡ 0 → ⊥) → [] ≡ pixels_of f
  unfolding pixels_of
  pixels-none e = rw (ne_eqb _ _ e)
