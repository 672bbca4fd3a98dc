-- `hold_list::put_text` meets its contract: no more bytes are counted than the input has.
use Rattle.std.proofs.Common.{arith}
use Rattle.hold_list.proofs.Texts.{words-counted}
use Rattle.hold_list.proofs.put_text.Goals as goal

pub returns-clause-input_value : goal.returns-clause-input_value
returns-clause-input_value c h = words-counted c.args.words c.args.argument.now c.args.count c.args.input.now h (omega arith)
