-- `filling::heights::fill_height` meets its contract: the pixels have joined, then the large classes are settled.
use Rattle.std.proofs.Common.{arith}
use Rattle.filling_laws.proofs.FillSettling.{between-walk, between_next, settling-start}
use Rattle.filling.proofs.heights.fill_height.Goals as goal

pub fill_pixels-requires : goal.fill_pixels-requires
fill_pixels-requires c = (between-walk c.requires.0 c.requires.2, c.requires.1)

-- the walk that settles begins
pub settle-requires : goal.settle-requires
settle-requires c = record {
  p = _;
  settling = settling-start (omega (arith, c.requires.3)) c.fill_pixels.ensures;
  links = c.requires.1;
  first = c.requires.2;
}

pub returns : goal.returns
returns c =
    let joined = settling-start (omega (arith, c.requires.3)) c.fill_pixels.ensures in
    between_next (c.settle.ensures.settled _ joined c.requires.1 c.requires.2)
