-- `falls::fall::lower` meets its contract: each return is a case of Lower.
use Rattle.watershed_laws.proofs.Stopping.{stays, moves}
use Rattle.falls.proofs.fall.lower.Goals as goal

pub returns-then-pixels-y : goal.returns-then-pixels-y
returns-then-pixels-y c = moves c.if-pixels-y.true

pub returns-else-pixels-y : goal.returns-else-pixels-y
returns-else-pixels-y c = stays c.if-pixels-y.false
