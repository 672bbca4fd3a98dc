-- `p5::field::decimal_value` meets its contract.
use Rattle.std.proofs.Common.{◌≡◌, take}
use Rattle.p5.specs.Headers.{decimal_value}
use Rattle.p5.proofs.field.decimal_value.Given as goal

abbrev pub invariant-loop-digit : goal.invariant-loop-digit
invariant-loop-digit l = l.value ≡ decimal_value (take l.digit-index l.digits)
