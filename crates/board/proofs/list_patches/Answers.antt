-- `board::list_patches` meets its contract: the records of the patches, and work cleared.
use Rattle.std.proofs.Common.{sym}
use Rattle.picture.specs.Pictures.{picture_of}
use Rattle.board.proofs.PatchLists.{listed}
use Rattle.board.proofs.list_patches.Goals as goal

pub returns : goal.returns
returns c =
    let lends = c.in_ok-count.ensures in
    listed (picture_of c.args.adjacency c.args.width c.args.height c.args.pixels.now) _ _ _ _ _ _ (sym lends.fault) lends.figured c.write_records.ensures
    c.clear_work.ensures
