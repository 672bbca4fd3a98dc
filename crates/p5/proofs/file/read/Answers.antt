-- `p5::file::read` meets its contract.
use Rattle.std.proofs.Common.{sym, ap, ◌∙◌}
use Rattle.lists.proofs.Cuts.{take_rest}
use Rattle.p5.specs.Files.{on_header, on_walk}
use Rattle.p5.proofs.Answers.{read-other, read-p5}
use Rattle.p5.proofs.Walking.{offset-within}
use Rattle.p5.proofs.file.read.Goals as goal

pub returns-then-not-begins_p5 : goal.returns-then-not-begins_p5
returns-then-not-begins_p5 c = read-other _ (sym c.begins_p5.ensures ∙ c.if-not-begins_p5.true)

pub slice_bounds-on_header-count : goal.slice_bounds-on_header-count
slice_bounds-on_header-count c = offset-within _ (sym c.walk_header.ensures ∙ c.in-Ok.is)

pub slice_bounds-on_header-start : goal.slice_bounds-on_header-start
slice_bounds-on_header-start c = offset-within _ (sym c.walk_header.ensures ∙ c.in-Ok.is)

pub returns-in-Ok : goal.returns-in-Ok
returns-in-Ok c =
    let f = c.args.file.now in
    let h = c.in-Ok.header in
    c.on_header.ensures ∙ ap (on_header h) (take_rest h.offset f)
    ∙ sym (ap (on_walk f) (sym c.walk_header.ensures ∙ c.in-Ok.is))
    ∙ read-p5 f (sym c.begins_p5.ensures ∙ c.if-not-begins_p5.false)

pub returns-in-Err : goal.returns-in-Err
returns-in-Err c =
    let f = c.args.file.now in
    sym (ap (on_walk f) (sym c.walk_header.ensures ∙ c.in-Err.is)) ∙ read-p5 f (sym c.begins_p5.ensures ∙ c.if-not-begins_p5.false)
