-- `watershed::whole::watershed_core` meets its contract: the tree is that of the pixels, and so is the copy that is lowered.
use Rattle.std.proofs.Common.{sym, ◌∙◌}
use Rattle.geometry.proofs.Listed.{raster-size}
use Rattle.watershed.proofs.whole.watershed_core.Goals as goal

pub copy-requires : goal.copy-requires
copy-requires c = c.requires.0 ∙ sym (raster-size c.args.raster.now)
