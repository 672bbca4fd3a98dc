-- The cells in front of the count are all around a place.
use Rattle.std.proofs.Common.{List, ℕ, ◌≤◌, length, take, arith}
use Rattle.picture.specs.Pictures.{Picture}
use Rattle.picture.specs.Geometry.{neighbours_in}
use Rattle.picture.proofs.Neighbours.{Listed, neighbour-at, neighbour-index}
use Rattle.geometry.proofs.Listed.{listed-front}
use Rattle.watershed_laws.proofs.Stopping.{Around}

pub around-front :
    (f : Picture) (x : ℕ) (cells : List ℕ) (m : ℕ) (ys : List ℕ) → 1 ≤ f.width → Listed (neighbours_in f x) cells m ys →
    Around f x (take m ys) (length (take m ys))
around-front f x cells m ys some h =
    rw (listed-front _ _ _ _ h)
    (record { few = omega (arith, h.count, h.few); near = neighbour-at f x; every = λ y b a. neighbour-index f x y some b a })
