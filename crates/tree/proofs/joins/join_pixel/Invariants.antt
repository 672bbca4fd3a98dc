-- `tree::joins::join_pixel` meets its contract.
use Rattle.geometry.specs.Rasters.{picture}
use Rattle.tree_laws.proofs.Walks.{Joining}
use Rattle.tree.proofs.joins.join_pixel.Given as goal

abbrev pub invariant-loop-y : goal.invariant-loop-y
invariant-loop-y l = Joining (picture l.raster) l.k l.x l.y-index l.root l.cells l.initial.work l.work
