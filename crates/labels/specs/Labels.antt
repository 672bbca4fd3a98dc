-- What the labelling of a section says.
use Rattle.std.specs.Prelude.{◌≡◌, List, ℕ, ◌≤◌, length}
use Rattle.picture.specs.Pictures.{Picture, places}
use Rattle.picture.specs.Components.{components}
use Rattle.picture.specs.Labels.{labels}

-- a label for each place, and a stack of as many cells at least
pub record LabelReady (p : Picture) (l stack : List ℕ) : Type 0 where
  pub label : length l ≡ places p
  pub cells : places p ≤ length stack

-- the labels of the section and the number of its components
pub record LabelsHold (p : Picture) (k r : ℕ) (m : List ℕ) : Type 0 where
  pub labels : m ≡ labels p k
  pub count : r ≡ length (components p k)
