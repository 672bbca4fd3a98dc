-- `tree_lists::build_lists` meets its contract: the tree is built, and each block copied.
use Rattle.std.proofs.Common.{arith, sym}
use Rattle.picture.proofs.Sides.{sides-area}
use Rattle.geometry.proofs.Listed.{raster-size}
use Rattle.tree_lists.proofs.CopiedLists.{built-few, built-taken, built-bytes, heights-handed, fathers-handed, firsts-handed, map-handed, handed-over}
use Rattle.tree_lists.proofs.build_lists.Goals as goal

pub slice_bounds-copy_bytes-end : goal.slice_bounds-copy_bytes-end
slice_bounds-copy_bytes-end c =
    let b = c.build-count.ensures in
    omega (arith, built-few _ _ _ _ _ _ b, c.requires.work, b.room)

pub slice_bounds-copy_bytes-end-2 : goal.slice_bounds-copy_bytes-end-2
slice_bounds-copy_bytes-end-2 c = sym (built-taken _ _ _ _ _ _ c.build-count.ensures c.requires.work)

pub overflow_mul-n : goal.overflow_mul-n
overflow_mul-n c = let r = c.args.raster.now in omega (arith, raster-size r, sides-area r.grid.width r.grid.height r.grid.sides)

pub copy_bytes-requires : goal.copy_bytes-requires
copy_bytes-requires c =
    let b = c.build-count.ensures in
    rw (built-taken _ _ _ _ _ _ b c.requires.work)
    (omega (arith, built-few _ _ _ _ _ _ b, c.requires.heights), built-bytes _ _ _ _ _ _ b)

pub copy-requires : goal.copy-requires
copy-requires c =
    let b = c.build-count.ensures in
    let few = built-few _ _ _ _ _ _ b in
    rw (raster-size c.args.raster.now) (omega (arith, few, c.requires.work, b.room), omega (arith, few, c.requires.fathers))

pub copy-requires-2 : goal.copy-requires-2
copy-requires-2 c =
    let b = c.build-count.ensures in
    let few = built-few _ _ _ _ _ _ b in
    rw (raster-size c.args.raster.now) (omega (arith, few, c.requires.work, b.room), omega (arith, few, c.requires.firsts))

pub copy-requires-3 : goal.copy-requires-3
copy-requires-3 c =
    rw (raster-size c.args.raster.now) (omega (arith, c.requires.work, c.build-count.ensures.room), omega (arith, c.requires.map, c.build-count.ensures.size))

pub returns : goal.returns
returns c =
    let b = c.build-count.ensures in
    let s = c.requires in
    let size = raster-size c.args.raster.now in
    record {
      tree_handed = handed-over _ _ _ _ _ _ b;
      heights_after =
          heights-handed _ _ _ _ _ _ b _ _ s.heights (rw (built-taken _ _ _ _ _ _ b s.work) at c.copy_bytes.ensures);
      fathers_after = fathers-handed _ _ _ _ _ _ b _ _ s.fathers _ size c.copy.ensures;
      firsts_after = firsts-handed _ _ _ _ _ _ b _ _ s.firsts _ size c.copy-2.ensures;
      map_after = map-handed _ _ _ _ _ _ b _ _ size s.map c.copy-3.ensures;
    }
