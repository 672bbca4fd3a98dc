-- `verify::is_tree` meets its contract: the first n cells are checked with.
use Rattle.std.proofs.Common.{arith, rules, refl, sym, ◌∙◌, length, length-take-le}
use Rattle.geometry.specs.Rasters.{picture}
use Rattle.geometry.proofs.Listed.{raster-size}
use Rattle.verify.proofs.Heights.{verified-start, lists-long-of, answer-none, answer-many, answer-other, answer-same, answer-father}
use Rattle.verify.proofs.is_tree.Goals as goal
use Rattle.verify.proofs.is_tree.Goals.{then-tree-eq0-via-then-tree-eq0, then-tree-eq0-via-else-tree-eq0+then-n-tree}

pub returns-then-tree-eq0 : goal.returns-then-tree-eq0
returns-then-tree-eq0 c =
    let raster = c.args.raster.now in
    let size = raster-size raster in
    elim c.then-tree-eq0.branch [
      | then-tree-eq0-via-then-tree-eq0 w ↦ answer-none (picture raster) _ _ _ _ _ raster.accepted w.if-tree-eq0.true
      | then-tree-eq0-via-else-tree-eq0+then-n-tree w ↦ answer-many (picture raster) _ _ _ _ _ (omega (arith, w.if-n-tree.true))
    ]

pub slice_bounds-part-end : goal.slice_bounds-part-end
slice_bounds-part-end c =
    let raster = c.args.raster.now in
    omega (arith, raster-size raster, c.requires.0)

pub slice_bounds-part-end-2 : goal.slice_bounds-part-end-2
slice_bounds-part-end-2 c =
    let raster = c.args.raster.now in
    sym (length-take-le (length raster.pixels.now) c.args.cells.now (omega (arith, raster-size raster, c.requires.0)))

pub check_levels-requires-clause-verified : goal.check_levels-requires-clause-verified
check_levels-requires-clause-verified c =
    let raster = c.args.raster.now in
    let size = raster-size raster in
    let e = length-take-le (length raster.pixels.now) c.args.cells.now (omega (arith, size, c.requires.0)) in
    let f = c.fill.ensures in
    verified-start (picture raster) _ _ _ _ _ _ raster.accepted (omega arith) (search rules)

pub check_levels-requires-clause-lists_long : goal.check_levels-requires-clause-lists_long
check_levels-requires-clause-lists_long c =
    let raster = c.args.raster.now in
    let size = raster-size raster in
    let e = length-take-le (length raster.pixels.now) c.args.cells.now (omega (arith, size, c.requires.0)) in
    let p = c.requires in
    lists-long-of (picture raster) _ _ _ _ _ _ raster.accepted (omega arith) (omega arith) p.1 p.2 p.3 p.4

pub returns-then-eq : goal.returns-then-eq
returns-then-eq c =
    answer-father _ _ _ _ _ _ _ (answer-same _ _ _ _ _ _ _ _ c.check_levels.ensures (sym c.eq.ensures ∙ c.if-eq.true)) _ refl

pub returns-else-eq : goal.returns-else-eq
returns-else-eq c =
    rw c.if-eq.false (answer-other _ _ _ _ _ _ _ _ c.check_levels.ensures (sym c.eq.ensures ∙ c.if-eq.false))
