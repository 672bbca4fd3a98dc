-- `filling::joins::fill_pixels` meets its contract. The invariant is FillWalk; the places from x on fall, since a chain rises.
use Rattle.std.proofs.Common.{◌-◌}
use Rattle.picture.specs.Pictures.{places}
use Rattle.geometry.specs.Rasters.{picture}
use Rattle.filling_laws.proofs.FillWalks.{FillWalk}
use Rattle.filling.proofs.joins.fill_pixels.Given as goal

abbrev pub invariant-loop-x : goal.invariant-loop-x
invariant-loop-x l = FillWalk (picture l.raster) l.s l.k l.x l.cells

abbrev pub decreases-loop-x : goal.decreases-loop-x
decreases-loop-x l = places (picture l.raster) - l.x
