-- `verify::check_levels` meets its contract.
use Rattle.geometry.specs.Rasters.{picture}
use Rattle.verify.specs.Heights.{Verified}
use Rattle.verify.proofs.check_levels.Given as goal

abbrev pub invariant-loop-k : goal.invariant-loop-k
invariant-loop-k l = Verified (picture l.raster) l.k l.c l.tree.count l.cells l.tree.heights.now l.tree.fathers.now l.tree.firsts.now l.tree.map.now
