-- `figure_lists::hand_out` meets its contract: each list is copied from the block of its figure.
use Prim.Native.Nat.{◌*◌}
use Rattle.figure_lists.proofs.Handed.{handed, size-stands, columns-stand, rows-stand, depth-stands, height-stands}
use Rattle.figure_lists.proofs.hand_out.Goals as goal

pub returns : goal.returns
returns c =
    let room = c.requires in
    let n = c.args.n in
    let figures = c.args.figures.now in
    record {
      sizes_after = handed (λ x. x.size) n 0 figures (size-stands n figures) room.sizes c.copy.ensures;
      heights_after = handed (λ x. x.height) n (4 * n) figures (height-stands n figures) room.heights c.copy-5.ensures;
      depths_after = handed (λ x. x.depth) n (3 * n) figures (depth-stands n figures) room.depths c.copy-4.ensures;
      columns_after = handed (λ x. x.columns) n n figures (columns-stand n figures) room.columns c.copy-2.ensures;
      rows_after = handed (λ x. x.rows) n (2 * n) figures (rows-stand n figures) room.rows c.copy-3.ensures;
    }
