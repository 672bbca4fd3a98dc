-- `minima::flood` meets its contract. The invariant is ZoneRunning; twice the unvisited places with the stack's height fall.
use Rattle.std.proofs.Common.{◌+◌, ◌*◌, set}
use Rattle.labelling_laws.proofs.ZoneScan.{unvisited}
use Rattle.geometry.specs.Rasters.{picture}
use Rattle.minima.proofs.Floods.{ZoneRunning}
use Rattle.minima.proofs.flood.Given as goal

abbrev pub invariant-loop-stack : goal.invariant-loop-stack
invariant-loop-stack l = ZoneRunning (picture l.raster) l.k l.x (set l.initial.cells l.x 65535) l.cells l.stack

abbrev pub decreases-loop-stack : goal.decreases-loop-stack
decreases-loop-stack l = 2 * unvisited l.cells + l.stack.height
