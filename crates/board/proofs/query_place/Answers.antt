-- `board::query_place` meets its contract: under handbook 4 the promise of a touch is that of the place query.
use Rattle.picture.specs.Pictures.{picture_of}
use Rattle.board.proofs.Touches.{touch-four}
use Rattle.board.proofs.query_place.Goals as goal

pub returns : goal.returns
returns c =
    (touch-four (picture_of c.args.adjacency c.args.width c.args.height c.args.pixels.now) _ _ _ _).0
    c.touch_place.ensures
