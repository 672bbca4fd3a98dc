-- `patch_report::print_file` is safe: an accepted file has at most 1,600 pixels, and bytes in front of them.
use Rattle.std.proofs.Common.{sym, ap, ◌∙◌, ◌-◌, arith, length}
use Rattle.lists.proofs.Cuts.{from-length}
use Rattle.patch_report.proofs.FilePixels.{pixels-few, pixels-fewer}
use Rattle.patch_report.proofs.print_file.Goals as goal

pub overflow_sub-front : goal.overflow_sub-front
overflow_sub-front c =
    omega (arith, ap length c.file_pixels-pixels.ensures.bytes, pixels-fewer c.args.file.now (sym c.read_file.ensures ∙ c.in-Ok.is))

pub overflow_sub-front-2 : goal.overflow_sub-front-2
overflow_sub-front-2 c =
    omega (arith, ap length c.file_pixels-pixels.ensures.bytes, pixels-fewer c.args.file.now (sym c.read_file.ensures ∙ c.in-Ok.is))

pub print_picture-requires : goal.print_picture-requires
print_picture-requires c =
    let file = c.args.file.now in
    let accepted = sym c.read_file.ensures ∙ c.in-Ok.is in
    let count = ap length c.file_pixels-pixels.ensures.bytes in
    let few = pixels-few file accepted in
    let rest = from-length (length file - length c.file_pixels-pixels.result.now - 1) file in
    (omega (arith, few, count), omega (arith, few, count, pixels-fewer file accepted, rest))
