-- `patches::places::touched_by` meets its contract: the leaves are numbered; under the fifth handbook the least number at or below the node of the place is that of the nearest patch, else the place has the number of its node, and 0 for none.
use Rattle.std.proofs.Common.{◌≡◌, ◌≢◌, ℕ, sym, ap, ◌∙◌, arith, eqb}
use Rattle.lists.specs.Lists.{pick}
use Rattle.geometry.specs.Rasters.{picture}
use Rattle.geometry.proofs.Listed.{raster-size}
use Rattle.topology.proofs.Nearest.{touched-five, touched-else}
use Rattle.picture.specs.Patches.{touched_patch}
use Rattle.patches.specs.Handbooks.{handbook_number}
use Rattle.patches.specs.declared.handbook.Handbook.{Handbook}
use Rattle.patches.specs.declared.handbook.Handbook.TheVariants.{Fourth}
use Rattle.patches.proofs.FigureLaws.{tree-mapped, tree-few, numbered-mapped, numbered-sizes, numbered-or-0}
use Rattle.patches.proofs.Touches.{numbered-nearest}
use Rattle.patches.proofs.places.touched_by.Goals as goal

fourth-other : (handbook : Handbook) → handbook ≡ Fourth → handbook_number handbook ≢ 5
fourth-other handbook four five = let number = ap handbook_number four in absurd (omega arith)

pub number-requires : goal.number-requires
number-requires c =
    let p = picture c.args.raster.now in
    rw (raster-size c.args.raster.now) (c.requires.1, tree-mapped p _ _ c.requires.0, tree-few p _ _ c.requires.0)

pub patch_at-requires : goal.patch_at-requires
patch_at-requires c =
    let p = picture c.args.raster.now in
    let leaves = rw (raster-size c.args.raster.now) at c.number.ensures in
    rw (raster-size c.args.raster.now)
    (numbered-sizes p _ _ c.requires.0 _ _ _ leaves _ c.requires.1, numbered-mapped p _ _ c.requires.0 _ _ _ leaves, c.requires.2)

pub overflow_add-n : goal.overflow_add-n
overflow_add-n c = omega (arith, raster-size c.args.raster.now, c.requires.1.few, c.requires.2)

pub offset_bounds-work-n : goal.offset_bounds-work-n
offset_bounds-work-n c = omega (arith, raster-size c.args.raster.now, c.requires.1.few, c.requires.2)

pub bounds-work-n : goal.bounds-work-n
bounds-work-n c = omega (arith, raster-size c.args.raster.now, c.requires.1.blocks, c.requires.2)

pub least_label-requires : goal.least_label-requires
least_label-requires c =
    let p = picture c.args.raster.now in
    let size = raster-size c.args.raster.now in
    let leaves = rw size at c.number.ensures in
    let m = (numbered-mapped p _ _ c.requires.0 _ _ _ leaves).map c.args.x c.requires.2 in
    let e = rw size at c.from.ensures in
    rw size
    (c.requires.1.few, (numbered-sizes p _ _ c.requires.0 _ _ _ leaves _ c.requires.1).blocks, omega (arith, e, m))

pub returns-in-Fourth : goal.returns-in-Fourth
returns-in-Fourth c =
    let p = picture c.args.raster.now in
    let size = raster-size c.args.raster.now in
    let leaves = rw size at c.number.ensures in
    c.patch_or_0.ensures ∙
    (ap (λ (k : ℕ). pick (eqb k 65535) 0 k) (rw size at c.patch_at.ensures) ∙
    (numbered-or-0 p _ _ c.requires.0 _ _ _ leaves (omega (arith, c.requires.1.few)) _ c.requires.2 ∙
    sym (touched-else _ p c.args.x (fourth-other c.args.handbook c.in-Fourth.is))))

pub returns-in-Fifth : goal.returns-in-Fifth
returns-in-Fifth c =
    let p = picture c.args.raster.now in
    let size = raster-size c.args.raster.now in
    let leaves = rw size at c.number.ensures in
    numbered-nearest p _ _ c.requires.0 _ _ _ leaves (omega (arith, c.requires.1.few)) c.args.x c.requires.2 _ _
    (rw size at c.from.ensures)
    (rw size at c.least_label.ensures) ∙
    (sym (touched-five p c.requires.0.accepted c.args.x c.requires.2) ∙
    ap (λ (handbook : Handbook). touched_patch (handbook_number handbook) p c.args.x) (sym c.in-Fifth.is))
