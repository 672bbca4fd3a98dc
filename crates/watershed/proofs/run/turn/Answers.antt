-- `watershed::run::turn` meets its contract: the winner's leaf is unset, and the winner lowered.
use Rattle.std.proofs.Common.{[], refl}
use Rattle.geometry.specs.Rasters.{on}
use Rattle.watershed_laws.proofs.Turns.{winner-taken, turn-done}
use Rattle.watershed.proofs.run.turn.Goals as goal

pub lower_place-requires : goal.lower_place-requires
lower_place-requires c =
    winner-taken (on c.args.grid []) _ _ _ _ c.requires _ (rw c.requires.running.accepted.size at c.assign.ensures)

pub returns : goal.returns
returns c =
    turn-done (on c.args.grid []) _ _ _ _ c.requires _ (rw c.requires.running.accepted.size at c.assign.ensures)
    _ _ _ c.lower_place.ensures _ refl
