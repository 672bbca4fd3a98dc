-- `p5::field::decimal_value` meets its contract.
use Rattle.std.proofs.Common.{arith}
use Rattle.p5.proofs.Digits.{decimal-small, digit-range}
use Rattle.p5.proofs.field.decimal_value.Goals as goal

pub overflow_mul-value : goal.overflow_mul-value
overflow_mul-value c = omega (arith, c.loop-digit.invariant, decimal-small _ _ c.loop-digit-test.true c.requires.0 c.requires.1)

pub overflow_add-value : goal.overflow_add-value
overflow_add-value c =
    omega (
      arith,
      c.loop-digit.invariant,
      c.from.ensures,
      decimal-small _ _ c.loop-digit-test.true c.requires.0 c.requires.1,
      digit-range _ _ c.loop-digit-test.true c.requires.1,
    )
