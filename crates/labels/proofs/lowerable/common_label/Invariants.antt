-- `labels::lowerable::common_label` meets its contract. The invariant: the label common to the neighbours before the index.
use Rattle.picture.specs.Geometry.{neighbours_in}
use Rattle.geometry.specs.Rasters.{picture}
use Rattle.labelling_laws.proofs.Agreeing.{Common}
use Rattle.labels.specs.Found.{found_number, IsProper}
use Rattle.labels.proofs.lowerable.common_label.Given as goal

abbrev pub invariant-loop-y : goal.invariant-loop-y
invariant-loop-y l = IsProper l.common × Common l.labels (neighbours_in (picture l.raster) l.x) l.y-index (found_number l.common)
