-- `hold_list::put_asked` meets its contract.
use Rattle.std.proofs.Common.{arith}
use Rattle.geometry.specs.Rasters.{picture}
use Rattle.hold_list.proofs.Texts.{asked-holds, asked-filled}
use Rattle.hold_list.proofs.put_asked.Goals as goal

pub returns-then-words-lt2 : goal.returns-then-words-lt2
returns-then-words-lt2 c =
    rw (asked-holds c.args.words c.args.argument.now (picture c.args.raster.now) (omega (arith, c.if-words-lt2.true))) c.put_holds.ensures

pub returns-else-words-lt2 : goal.returns-else-words-lt2
returns-else-words-lt2 c =
    rw (asked-filled c.args.words c.args.argument.now (picture c.args.raster.now) (omega (arith, c.if-words-lt2.false)), ← c.asked_size.ensures) c.put_filled.ensures
