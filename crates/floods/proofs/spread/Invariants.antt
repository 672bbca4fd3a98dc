-- `floods::spread` meets its contract. The invariant: the edges to the neighbours from index i on are left to follow.
use Rattle.std.proofs.Common.{drop}
use Rattle.picture.specs.Geometry.{neighbours_in}
use Rattle.geometry.specs.Rasters.{picture}
use Rattle.floods.specs.Floods.{Spread}
use Rattle.floods.proofs.spread.Given as goal

abbrev pub invariant-loop-i : goal.invariant-loop-i
invariant-loop-i l =
    let p = picture l.raster in
    Spread p l.k l.c l.x (neighbours_in p l.x) (drop l.i (neighbours_in p l.x)) l.initial.labels l.initial.stack l.top l.labels l.stack l.t
