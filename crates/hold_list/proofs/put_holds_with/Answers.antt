-- `hold_list::put_holds_with` meets its contract: the patches of the bytes that the core leaves.
use Rattle.geometry.specs.Rasters.{picture}
use Rattle.hold_list.proofs.Texts.{water-picture, holds-are}
use Rattle.hold_list.proofs.put_holds_with.Goals as goal

pub invariant_of-watershed : goal.invariant_of-watershed
invariant_of-watershed c =
    let raster = c.args.raster.now in
    record { accepted = water-picture (picture raster) raster.accepted _ c.watershed_core.ensures }

pub returns : goal.returns
returns c =
    let raster = c.args.raster.now in
    rw (← holds-are (picture raster) raster.accepted _ c.watershed_core.ensures) c.put_patches.ensures
