-- `hold_lines::put_lines` meets its contract. The loop's invariant: the lines before i are written, 37 bytes each at most.
use Rattle.std.proofs.Common.{ap, arith}
use Rattle.lists.proofs.Writings.{lines_none, lines_next}
use Rattle.hold_lines.specs.Figures.{line_at}
use Rattle.patch_records.specs.declared.Patch.{Patch}
use Rattle.patch_records.specs.Records.{record_at}
use Rattle.hold_lines.proofs.put_lines.Goals as goal

pub loop-i-init : goal.loop-i-init
loop-i-init c = (omega arith, lines_none _ c.args.out.now c.args.at)

pub put_line-to-requires : goal.put_line-to-requires
unfolding record_at
put_line-to-requires c =
    let number = ap (λ (q : Patch). q.number) c.record_at.ensures in
    let size = ap (λ (q : Patch). q.size) c.record_at.ensures in
    let figured = c.args.figures.now.figured in
    (omega (arith, figured.few), omega (arith, figured.some c.loop-i.i c.loop-i-test.true), omega arith)

pub record_at-requires : goal.record_at-requires
record_at-requires c = c.args.figures.now.figured.entries.entry c.loop-i.i c.loop-i-test.true

pub loop-i-preserved : goal.loop-i-preserved
loop-i-preserved c =
    let a = c.args in
    let before = c.loop-i.invariant in
    let line = c.put_line-to.ensures in (
      omega arith,
      lines_next (line_at a.figures.now.n a.figures.now.entries.now) _ _ _ _ _ _ _ (omega arith) before.1 (rw c.record_at.ensures at line.0),
    )
