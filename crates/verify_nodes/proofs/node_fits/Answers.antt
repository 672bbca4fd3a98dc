-- `verify_nodes::node_fits` meets its contract.
use Rattle.std.proofs.Common.{arith, le-leb}
use Rattle.verify_nodes.proofs.NodeChecks.{unfit-beyond, unfit-high, unfit-taken, fit-yes, fit-tested}
use Rattle.verify_nodes.proofs.node_fits.Goals as goal
use Rattle.verify_nodes.proofs.node_fits.Goals.{then-cells-first-via-then-cells-first, then-cells-first-via-else-cells-first+then-k-from, then-cells-first-via-else-cells-first+else-k-from+then-cells-first-lt-SEVERAL}

pub returns-then-cells-first : goal.returns-then-cells-first
returns-then-cells-first c =
    elim c.then-cells-first.branch [
      | then-cells-first-via-then-cells-first w ↦ unfit-beyond _ _ _ _ _ _ _ c.from-first.ensures w.if-cells-first.true
      | then-cells-first-via-else-cells-first+then-k-from w ↦
          unfit-high _ _ _ _ _ _ _ c.from-first.ensures _ w.from.ensures w.if-k-from.true
      | then-cells-first-via-else-cells-first+else-k-from+then-cells-first-lt-SEVERAL w ↦
          unfit-taken _ _ _ _ _ _ _ c.from-first.ensures w.if-cells-first-lt-SEVERAL.true
    ]

pub returns-then-i-c : goal.returns-then-i-c
returns-then-i-c c =
    rw (le-leb _ _ c.if-i-c.true)
    (fit-yes _ _ _ _ _ _ _ c.from-first.ensures _ c.if-cells-first.false c.from.ensures c.if-k-from.false c.if-cells-first-lt-SEVERAL.false
    (λ h. absurd (omega (arith, c.if-i-c.true))))

pub returns-else-i-c : goal.returns-else-i-c
returns-else-i-c c =
    fit-tested _ _ _ _ _ _ _ c.from-first.ensures _ c.if-cells-first.false c.from.ensures c.if-k-from.false c.if-cells-first-lt-SEVERAL.false
    c.if-i-c.false
