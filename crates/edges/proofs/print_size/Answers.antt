-- `edges::print_size` is safe: a size has at most five digits.
use Rattle.std.proofs.Common.{arith}
use Rattle.text.proofs.Decimals.{decimal-length}
use Rattle.edges.proofs.print_size.Goals as goal

pub put_number-end-requires : goal.put_number-end-requires
put_number-end-requires c = omega (arith, decimal-length 4 c.args.size c.requires.0)
