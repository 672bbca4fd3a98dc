-- `verify_pixels::agrees` meets its contract.
use Rattle.std.proofs.Common.{le-leb}
use Rattle.tree_laws.proofs.Checks.{agrees-none}
use Rattle.verify_pixels.proofs.Edges.{agrees-test}
use Rattle.verify_pixels.proofs.agrees.Goals as goal

pub returns-then-state-ge-SEVERAL : goal.returns-then-state-ge-SEVERAL
returns-then-state-ge-SEVERAL c =
    rw (le-leb _ _ c.if-state-ge-SEVERAL.true) (agrees-none _ _ _ _ c.if-state-ge-SEVERAL.true)

pub returns-else-state-ge-SEVERAL : goal.returns-else-state-ge-SEVERAL
returns-else-state-ge-SEVERAL c = agrees-test _ _ _ _ _ c.from.ensures c.requires.0.root c.if-state-ge-SEVERAL.false
