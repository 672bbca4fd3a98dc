-- `minima::count_zone` meets its contract: each return is one law of the count.
use Rattle.std.proofs.Common.{rules, arith, ◌∙◌, sym}
use Rattle.geometry.specs.Rasters.{picture}
use Rattle.minima.proofs.Floods.{counting-few, counting-placed, counting-sizes, counting-seed, counting-seen, counting-lower, counting-minimum}
use Rattle.minima.proofs.count_zone.Goals as goal
use Rattle.minima.proofs.count_zone.Goals.{then-cells-x, else-cells-x}

pub flood-requires : goal.flood-requires
flood-requires c =
    let raster = c.args.raster.now in
    let p = c.requires in (
      counting-placed (picture raster) raster.accepted _ _ _ p.0 p.1,
      counting-sizes (picture raster) raster.accepted _ _ _ p.0 p.1,
      counting-seed (picture raster) raster.accepted _ _ _ p.0 p.1 c.if-cells-x.false,
    )

pub overflow_add-result : goal.overflow_add-result
overflow_add-result c =
    let raster = c.args.raster.now in
    omega (arith, counting-few (picture raster) raster.accepted _ _ _ c.requires.0 c.requires.1)

pub returns-then-flood : goal.returns-then-flood
returns-then-flood c =
    let raster = c.args.raster.now in
    let p = c.requires in
    elim c.if-cells-x.branch [
      | then-cells-x w ↦ rw w.cells-is (counting-seen (picture raster) raster.accepted _ _ _ p.0 p.1 w.if-cells-x.true)
      | else-cells-x w ↦
          rw w.cells-is
          (counting-lower (picture raster) raster.accepted _ _ _ p.0 p.1 w.if-cells-x.false _ _ w.flood.ensures (search rules)
          (sym w.value-is ∙ c.if-flood.true))
    ]

pub returns-else-flood : goal.returns-else-flood
returns-else-flood c =
    let raster = c.args.raster.now in
    let p = c.requires in
    elim c.if-cells-x.branch [
      | then-cells-x w ↦ search rules
      | else-cells-x w ↦
          rw w.cells-is
          (counting-minimum (picture raster) raster.accepted _ _ _ p.0 p.1 w.if-cells-x.false _ _ w.flood.ensures (search rules)
          (sym w.value-is ∙ c.if-flood.false))
    ]
