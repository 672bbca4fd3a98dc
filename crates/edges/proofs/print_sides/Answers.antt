-- `edges::print_sides` is safe: its name has two short numbers.
use Rattle.std.proofs.Common.{arith}
use Rattle.text.proofs.Decimals.{two-length}
use Rattle.edges.proofs.print_sides.Goals as goal

pub print_name-requires : goal.print_name-requires
print_name-requires c =
    (omega arith, omega (arith, two-length 4 c.args.w c.args.h (omega (arith, c.requires.0)) (omega (arith, c.requires.1))))
