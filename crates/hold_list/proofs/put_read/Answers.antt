-- `hold_list::put_read` meets its contract: an accepted file holds an accepted picture.
use Rattle.std.proofs.Common.{arith}
use Rattle.hold_list.proofs.Texts.{file-offset, file-sides, file-picture}
use Rattle.hold_list.proofs.put_read.Goals as goal

pub slice_bounds-raster-count : goal.slice_bounds-raster-count
slice_bounds-raster-count c = file-offset _ _ c.requires.0

pub slice_bounds-raster-start : goal.slice_bounds-raster-start
slice_bounds-raster-start c = file-offset _ _ c.requires.0

pub invariant_of-grid : goal.invariant_of-grid
invariant_of-grid c = record { sides = file-sides _ _ c.requires.0 }

pub invariant_of-raster : goal.invariant_of-raster
invariant_of-raster c =
    record { accepted = file-picture _ _ c.requires.0 (λ i. let q = c.type_inv.file i in omega arith) }
