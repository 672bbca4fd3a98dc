-- `minima::count_minima` meets its contract. The invariant is Counting.
use Rattle.geometry.specs.Rasters.{picture}
use Rattle.minima.specs.Minima.{Counting}
use Rattle.minima.proofs.count_minima.Given as goal

abbrev pub invariant-loop-x : goal.invariant-loop-x
invariant-loop-x l = Counting (picture l.raster) l.x l.r l.cells
