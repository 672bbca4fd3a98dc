-- `labels::scan::label` meets its contract. The invariant: the scan has come to the place x.
use Rattle.std.proofs.Common.{◌≡◌, length}
use Rattle.geometry.specs.Rasters.{picture}
use Rattle.labelling_laws.proofs.Labelled.{Labelled}
use Rattle.labels.proofs.scan.label.Given as goal

abbrev pub invariant-loop-x : goal.invariant-loop-x
invariant-loop-x l = (length l.stack ≡ length l.initial.stack) × Labelled (picture l.raster) l.k l.x l.c l.labels
