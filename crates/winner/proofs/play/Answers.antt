-- `winner::play` meets its contract: the cell is set to the better of the two below.
use Rattle.std.proofs.Common.{refl}
use Rattle.watershed_laws.proofs.WinnerTree.{moved}
use Rattle.winner.proofs.play.Goals as goal

pub returns-else-cells-i : goal.returns-else-cells-i
returns-else-cells-i c = moved _ c.better-best.ensures refl refl
