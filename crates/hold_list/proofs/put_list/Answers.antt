-- `hold_list::put_list` meets its contract: the head, then the lines of the five blocks.
use Rattle.std.proofs.Common.{arith}
use Rattle.lists.proofs.Writings.{written_then, written-length}
use Rattle.hold_list.proofs.Figured.{figured, head-small, list-is}
use Rattle.hold_list.proofs.put_list.Goals as goal

pub overflow_cast-count : goal.overflow_cast-count
overflow_cast-count c =
    let small = head-small c.args.raster.now c.requires.0 c.requires.1 (c.count_line-line.ensures _ c.requires.1.map) in
    omega arith

pub overflow_cast-line : goal.overflow_cast-line
overflow_cast-line c =
    let small = head-small c.args.raster.now c.requires.0 c.requires.1 (c.count_line-line.ensures _ c.requires.1.map) in
    omega arith

pub put_head-next-requires : goal.put_head-next-requires
put_head-next-requires c =
    let small = head-small c.args.raster.now c.requires.0 c.requires.1 (c.count_line-line.ensures _ c.requires.1.map) in
    (small.0, small.1, omega arith, omega arith, omega arith)

pub invariant_of-figures : goal.invariant_of-figures
invariant_of-figures c = record { figured = figured c.args.raster.now c.requires.0 c.requires.1 }

pub put_lines-requires : goal.put_lines-requires
put_lines-requires c =
    let lines = figured c.args.raster.now c.requires.0 c.requires.1 in
    let head = c.put_head-next.ensures in
    let kept = written-length (omega (arith, c.requires.2, head.1)) head.0 in
    omega (arith, lines.few, c.requires.2, head.1, kept)

pub returns : goal.returns
returns c =
    rw (← list-is c.args.raster.now c.requires.0 c.requires.1 (c.count_line-line.ensures _ c.requires.1.map))
    (written_then (omega arith) c.put_head-next.ensures.0 c.put_lines.ensures)
