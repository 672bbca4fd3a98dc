-- `edges::print_numbered` is safe: the number has at most five digits.
use Rattle.std.proofs.Common.{arith}
use Rattle.text.proofs.Decimals.{one-length}
use Rattle.edges.proofs.print_numbered.Goals as goal

pub print_name-requires : goal.print_name-requires
print_name-requires c = (omega arith, omega (arith, one-length 4 c.args.number c.requires.1, c.requires.0))
