-- `geometry::Grid::neighbours` meets its contract. The invariant is Front: what stands in front of the cells.
use Rattle.std.proofs.Common.{◌-◌}
use Rattle.geometry.specs.Adjacencies.{adjacency_number}
use Rattle.geometry.proofs.Front.{Front}
use Rattle.geometry.proofs.grid.Grid.neighbours.Given as goal

abbrev pub invariant-loop-i : goal.invariant-loop-i
invariant-loop-i l = Front (adjacency_number l.self.adjacency) l.self.width l.self.height l.x l.initial.cells l.cells l.m l.i

abbrev pub decreases-loop-i : goal.decreases-loop-i
decreases-loop-i l = 8 - l.i
