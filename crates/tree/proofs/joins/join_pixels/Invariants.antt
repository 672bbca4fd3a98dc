-- `tree::joins::join_pixels` meets its contract.
use Rattle.std.proofs.Common.{◌-◌}
use Rattle.picture.specs.Pictures.{places}
use Rattle.geometry.specs.Rasters.{picture}
use Rattle.tree_laws.proofs.Walks.{WalkReady}
use Rattle.lists.specs.Blocks.{UntouchedOutside}
use Rattle.tree.proofs.joins.join_pixels.Given as goal

abbrev pub invariant-loop-x : goal.invariant-loop-x
invariant-loop-x l =
    let n = places (picture l.raster) in
    WalkReady (picture l.raster) l.k l.x l.cells l.work × UntouchedOutside n n l.initial.work l.work

abbrev pub decreases-loop-x : goal.decreases-loop-x
decreases-loop-x l = places (picture l.raster) - l.x
