-- `patch_records::write_records` meets its contract: with the first i records written, storing the record i writes the first i + 1.
use Rattle.std.proofs.Common.{add-one, arith}
use Rattle.lists.proofs.Filling.{written_next}
use Rattle.patch_records.specs.Records.{record_at}
use Rattle.patch_records.proofs.write_records.Goals as goal

pub loop-i-preserved : goal.loop-i-preserved
loop-i-preserved c =
    let i = c.loop-i.i in
    let e = written_next (record_at c.args.n c.args.figures.now) i c.args.out.now (omega arith) in
    let s = add-one i in
    cc
