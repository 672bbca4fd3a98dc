-- `hold_list::argument::named_size` meets its contract: a number alone, bytes behind it, no number.
use Rattle.std.proofs.Common.{sym}
use Rattle.hold_list.proofs.NamedSizes.{named-unfit, named-behind, named_value}
use Rattle.hold_list.proofs.argument.named_size.Goals as goal

pub returns-in-Ok : goal.returns-in-Ok
returns-in-Ok c = named_value c.args.argument.now _ _ (sym c.in-Ok.ensures) c.if-number-argument.true

pub returns-in_default : goal.returns-in_default
returns-in_default c = named-behind c.args.argument.now _ _ (sym c.in-Ok.ensures) c.if-number-argument.false

pub returns-in_default-2 : goal.returns-in_default-2
returns-in_default-2 c = named-unfit c.args.argument.now _ (sym c.in_default.ensures)
