-- `filling::heights::fill_heights` meets its contract. The invariant is FillBetween.
use Rattle.geometry.specs.Rasters.{picture}
use Rattle.filling_laws.proofs.FillSettling.{FillBetween}
use Rattle.filling.proofs.heights.fill_heights.Given as goal

abbrev pub invariant-loop-k : goal.invariant-loop-k
invariant-loop-k l = FillBetween (picture l.raster) l.s l.k l.cells
