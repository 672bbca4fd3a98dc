-- `Stack::visit` meets its contract: each return is one law of a visit.
use Rattle.std.proofs.Common.{arith}
use Rattle.minima.proofs.Floods.{visit-lower, visit-higher, visit-visited, visit-new}
use Rattle.minima.proofs.Stack.visit.Goals as goal
use Rattle.minima.proofs.Stack.visit.Goals.{then-k-value-via-then-k-value, then-k-value-via-else-k-value+then-cells-y}

pub returns-then-value-k : goal.returns-then-value-k
returns-then-value-k c = visit-lower _ _ _ _ _ c.requires.0 c.if-value-k.true

pub returns-then-k-value : goal.returns-then-k-value
returns-then-k-value c =
    elim c.then-k-value.branch [
      | then-k-value-via-then-k-value w ↦ visit-higher _ _ _ _ _ c.requires.0 w.if-k-value.true
      | then-k-value-via-else-k-value+then-cells-y w ↦ visit-visited _ _ _ _ _ c.requires.0 (omega arith) w.if-cells-y.true
    ]

pub returns : goal.returns
returns c = visit-new _ _ _ _ _ c.requires.0 c.requires.1 (omega arith) c.if-cells-y.false
