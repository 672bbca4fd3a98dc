-- `edges::print_touched` is safe: a patch number has at most five digits.
use Rattle.std.proofs.Common.{arith}
use Rattle.text.proofs.Decimals.{decimal-length}
use Rattle.edges.proofs.print_touched.Goals as goal

pub put_number-end-requires : goal.put_number-end-requires
put_number-end-requires c =
    omega (arith, decimal-length 4 c.from-number.result (omega (arith, c.from-number.ensures, c.patch_number.type_inv)))
