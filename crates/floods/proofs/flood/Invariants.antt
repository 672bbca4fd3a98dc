-- `floods::flood` meets its contract. The invariant is FloodRun; twice the unmarked places with the stack's height fall.
use Prim.Native.Nat.{◌+◌, ◌*◌}
use lib.ListN.{set}
use Rattle.geometry.specs.Rasters.{picture}
use Rattle.labelling_laws.proofs.Flood.{unmarked}
use Rattle.floods.proofs.Floods.{FloodRun}
use Rattle.floods.proofs.flood.Given as goal

abbrev pub invariant-loop-t : goal.invariant-loop-t
invariant-loop-t l = FloodRun (picture l.raster) l.k l.x l.c (set l.initial.labels l.x 0) l.initial.stack l.labels l.stack l.t

abbrev pub decreases-loop-t : goal.decreases-loop-t
decreases-loop-t l = 2 * unmarked l.labels + l.t
