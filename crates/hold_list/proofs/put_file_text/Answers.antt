-- `hold_list::put_file_text` meets its contract: an accepted file, a refused one.
use Rattle.std.proofs.Common.{sym, ◌∙◌}
use Rattle.hold_list.proofs.Texts.{words-refused, words-list}
use Rattle.hold_list.proofs.put_file_text.Goals as goal

pub returns-in-Ok : goal.returns-in-Ok
returns-in-Ok c =
    rw (← words-list c.args.words c.args.argument.now _ c.in-Ok.header (sym c.in-Ok.ensures)) c.put_read.ensures

pub returns-in-Err : goal.returns-in-Err
returns-in-Err c =
    rw (← words-refused c.args.words c.args.argument.now _ c.in-Err.refusal _ (sym c.in-Err.ensures) (c.from.ensures ∙ c.number.ensures))
    c.put_refusal.ensures.0
