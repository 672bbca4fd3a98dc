-- `labels::scan::label` meets its contract. The invariant: the scan has come to the place x.
use Rattle.std.proofs.Common.{arith}
use Rattle.geometry.specs.Rasters.{picture}
use Rattle.geometry.proofs.Listed.{raster-size}
use Rattle.labels.proofs.Scans.{scan-ready, scan-end}
use Rattle.labels.proofs.scan.label.Goals as goal

pub label_place-c-requires : goal.label_place-c-requires
label_place-c-requires c =
    let raster = c.args.raster.now in
    let i = c.loop-x.invariant in
    (scan-ready (picture raster) _ _ _ _ _ _ _ c.requires i.0 i.1, i.1, omega (arith, raster-size raster))

pub returns : goal.returns
returns c =
    let raster = c.args.raster.now in
    scan-end (picture raster) _ _ _ _ (omega (arith, raster-size raster)) c.loop-x.invariant.1
