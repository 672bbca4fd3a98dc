-- `board_c::put_pair` meets its contract.
use native.Mathlib.Omega.{arith}
use Rattle.text.specs.Little.{little_endian}
use Rattle.lists.proofs.Writings.{written_then}
use Rattle.board_c.proofs.put_pair.Goals as goal

pub returns : goal.returns
returns c =
    written_then {xs = little_endian 8 c.args.x} {ys = little_endian 8 c.args.y} (omega (arith, c.requires))
    c.put_little-next.ensures c.put_little.ensures
