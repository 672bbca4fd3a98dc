-- `patch_report::print_number` is safe: a number of 32 bits has at most ten digits.
use Rattle.std.proofs.Common.{arith}
use Rattle.text.proofs.Decimals.{decimal-length}
use Rattle.patch_report.proofs.print_number.Goals as goal

pub put_number-digits-requires : goal.put_number-digits-requires
put_number-digits-requires c = omega (arith, decimal-length 9 c.args.number (omega arith))

pub put-end-requires : goal.put-end-requires
put-end-requires c = omega (arith, c.put_number-digits.ensures.end, decimal-length 9 c.args.number (omega arith))
