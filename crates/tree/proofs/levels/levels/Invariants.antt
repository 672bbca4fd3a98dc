-- `tree::levels::levels` meets its contract.
use Rattle.geometry.specs.Rasters.{picture}
use Rattle.tree_laws.proofs.Mapped.{Between}
use Rattle.tree.proofs.levels.levels.Given as goal

abbrev pub invariant-loop-k : goal.invariant-loop-k
invariant-loop-k l = Between (picture l.raster) l.k l.c l.cells l.work
