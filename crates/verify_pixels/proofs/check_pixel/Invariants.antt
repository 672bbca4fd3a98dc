-- `verify_pixels::check_pixel` meets its contract.
use Rattle.geometry.specs.Rasters.{picture}
use Rattle.tree_laws.proofs.PixelChecks.{PixelChecking}
use Rattle.verify_pixels.proofs.check_pixel.Given as goal

abbrev pub invariant-loop-y : goal.invariant-loop-y
invariant-loop-y l = PixelChecking (picture l.raster) l.k l.x l.y-index l.root l.cells l.fathers l.map
