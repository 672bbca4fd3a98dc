-- `verify_pixels::check_pixels` meets its contract.
use Rattle.geometry.specs.Rasters.{picture}
use Rattle.tree_laws.proofs.Checks.{Checking}
use Rattle.verify_pixels.proofs.check_pixels.Given as goal

abbrev pub invariant-loop-x : goal.invariant-loop-x
invariant-loop-x l = Checking (picture l.raster) l.k l.x l.cells l.fathers l.map
