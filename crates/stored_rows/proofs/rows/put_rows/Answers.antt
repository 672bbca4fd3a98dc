-- `stored_rows::rows::put_rows` meets its contract. The invariant is RowsBegun: the first i rows are written.
use Rattle.std.proofs.Common.{ap, ◌∙◌, List, ℕ, arith}
use Rattle.lists.specs.Lists.{over}
use Rattle.stored_rows.proofs.Conversions.{converted-rows}
use Rattle.stored_rows.proofs.RowWrites.{rows_start, rows-turn, rows_end}
use Rattle.stored_rows.proofs.rows.put_rows.Goals as goal

pub loop-i-init : goal.loop-i-init
loop-i-init g c = rows_start

pub loop-i-preserved : goal.loop-i-preserved
loop-i-preserved g c = rows-turn c.loop-i.invariant c.loop-i-test.true c.put_row.ensures

pub returns : goal.returns
returns g c =
    let a = c.args in
    rows_end c.loop-i.invariant (omega arith)
    ∙ ap (λ (l : List ℕ). over l a.out.now) (converted-rows g.D.Direction.back a.w a.h a.bytes.now)
