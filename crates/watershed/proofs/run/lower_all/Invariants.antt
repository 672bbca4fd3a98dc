-- `watershed::run::lower_all` meets its contract. The invariant is Running with the watershed unchanged, the measure that of TurnDone.
use Rattle.std.proofs.Common.{◌≡◌, [], get_or}
use Rattle.picture.specs.Pictures.{places}
use Rattle.picture.specs.Watersheds.{watershed}
use Rattle.geometry.specs.Rasters.{on}
use Rattle.watershed_laws.proofs.Running.{Running, NoPlace, measure}
use Rattle.watershed.proofs.run.lower_all.Given as goal

abbrev pub invariant-loop-winner : goal.invariant-loop-winner
invariant-loop-winner l =
    Running (on l.grid []) l.out l.tree l.cells NoPlace ×
    (l.winner ≡ get_or l.cells 1 0) ×
    (watershed (on l.grid l.out) ≡ watershed (on l.grid l.fn.out))

abbrev pub decreases-loop-winner : goal.decreases-loop-winner
decreases-loop-winner l = measure (places (on l.grid [])) l.out l.cells
