-- `Stack::spread` meets its contract. The invariant: the edges to the neighbours from the index on are left to follow.
use Rattle.std.proofs.Common.{drop}
use Rattle.picture.specs.Geometry.{neighbours_in}
use Rattle.geometry.specs.Rasters.{picture}
use Rattle.minima.specs.Minima.{ZoneSpread}
use Rattle.minima.proofs.Stack.spread.Given as goal

abbrev pub invariant-loop-y : goal.invariant-loop-y
invariant-loop-y l =
    let p = picture l.raster in
    ZoneSpread p l.k l.x (neighbours_in p l.x) (drop l.y-index (neighbours_in p l.x)) l.initial.cells l.initial.stack l.cells l.stack
