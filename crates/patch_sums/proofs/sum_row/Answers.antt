-- `patch_sums::sum_row` meets its contract. The invariant is RowSummed.
use Rattle.std.proofs.Common.{rules, arith}
use Rattle.patch_sums.proofs.Summing.{row-few, running-room, running_more}
use Rattle.patch_sums.proofs.sum_row.Goals as goal

pub next_run-run-requires : goal.next_run-run-requires
next_run-run-requires c = (
  running-room _ _ _ c.requires.0 _ c.requires.1 _ _ _ _ c.loop-column.invariant (omega arith),
  search rules,
  search rules,
  search rules,
  row-few _ _ _ c.requires.0 _ c.requires.1,
)

pub loop-column-preserved : goal.loop-column-preserved
loop-column-preserved c =
    running_more _ _ _ c.requires.0 _ c.requires.1 _ _ _ _ c.loop-column.invariant c.loop-column-test.true _ c.from-number.ensures _ _
    c.next_run-run.ensures

pub add_run-requires : goal.add_run-requires
add_run-requires c = running-room _ _ _ c.requires.0 _ c.requires.1 _ _ _ _ c.loop-column.invariant (omega arith)
