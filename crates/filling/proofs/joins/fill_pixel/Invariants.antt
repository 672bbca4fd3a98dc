-- `filling::joins::fill_pixel` meets its contract. The invariant is FillJoining.
use Rattle.geometry.specs.Rasters.{picture}
use Rattle.filling_laws.proofs.FillWalks.{FillJoining}
use Rattle.filling.proofs.joins.fill_pixel.Given as goal

abbrev pub invariant-loop-y : goal.invariant-loop-y
invariant-loop-y l = FillJoining (picture l.raster) l.s l.k l.x l.y-index l.root l.cells
