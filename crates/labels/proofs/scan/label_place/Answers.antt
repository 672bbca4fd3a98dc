-- `labels::scan::label_place` meets its contract: each return is one law of the scan.
use Rattle.std.proofs.Common.{arith, sym, ◌∙◌}
use Rattle.geometry.specs.Rasters.{picture}
use Rattle.geometry.proofs.Listed.{raster-size}
use Rattle.topology.proofs.Accepted.{accepted-is, placed}
use Rattle.labels.proofs.Scans.{ready-room, scan-outside, scan-labelled, scan-count, scan-seed, scan-flood}
use Rattle.labels.proofs.scan.label_place.Goals as goal
use Rattle.labels.proofs.scan.label_place.Goals.{then-not-in_section-via-then-not-in_section, then-not-in_section-via-else-not-in_section+then-labels-x-ne0}

pub bounds-raster-x : goal.bounds-raster-x
bounds-raster-x c =
    let raster = c.args.raster.now in
    omega (arith, raster-size raster)

pub returns-then-not-in_section : goal.returns-then-not-in_section
returns-then-not-in_section c =
    let raster = c.args.raster.now in
    let p = c.requires in
    elim c.then-not-in_section.branch [
      | then-not-in_section-via-then-not-in_section w ↦
          scan-outside (picture raster) raster.accepted _ _ p.0 _ _ _ p.2 p.1 (sym c.in_section.ensures ∙ w.if-not-in_section.true)
      | then-not-in_section-via-else-not-in_section+then-labels-x-ne0 w ↦
          scan-labelled (picture raster) raster.accepted _ _ p.0 _ _ _ p.2 p.1 w.if-labels-x-ne0.true
    ]

pub overflow_add-c : goal.overflow_add-c
overflow_add-c c =
    let raster = c.args.raster.now in
    let p = c.requires in
    omega (arith, scan-count (picture raster) raster.accepted _ _ p.0 _ _ _ p.2 p.1)

pub flood-requires : goal.flood-requires
flood-requires c =
    let raster = c.args.raster.now in
    let p = c.requires in (
      placed (picture raster) (accepted-is (picture raster) raster.accepted) _ p.2,
      ready-room (picture raster) raster.accepted _ _ p.0,
      scan-seed (picture raster) raster.accepted _ _ p.0 _ _ _ p.2 p.1 (sym c.in_section.ensures ∙ c.if-not-in_section.false) c.if-labels-x-ne0.false,
    )

pub overflow_add-result : goal.overflow_add-result
overflow_add-result c =
    let raster = c.args.raster.now in
    let p = c.requires in
    omega (arith, scan-count (picture raster) raster.accepted _ _ p.0 _ _ _ p.2 p.1)

pub returns : goal.returns
returns c =
    let raster = c.args.raster.now in
    let p = c.requires in
    scan-flood (picture raster) raster.accepted _ _ p.0 _ _ _ p.2 p.1 (sym c.in_section.ensures ∙ c.if-not-in_section.false) c.if-labels-x-ne0.false
    _ c.flood.auto.labels c.flood.ensures
