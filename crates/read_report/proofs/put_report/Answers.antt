-- `read_report::put_report` meets its contract: no more bytes are counted than the input has, and the line has room.
use Rattle.std.proofs.Common.{rules, ◌≡◌, ◌≤◌, ◌<◌, ◌∙◌, ap, subst, List, ℕ, arith, length, take, get_or, length-take}
use Rattle.lists.specs.Writing.{Written}
use Rattle.lists.proofs.Cuts.{take_counted}
use Rattle.p5.specs.Files.{read_file}
use Rattle.p5.proofs.Verdicts.{answer-within}
use Rattle.p5.proofs.Places.{place-within}
use Rattle.text.specs.Decimal.{fields}
use Rattle.read_report.specs.Reports.{line_in, report}
use Rattle.read_report.proofs.Lines.{line-room}
use Rattle.read_report.proofs.put_report.Goals as goal

pub line_of-line-requires : goal.line_of-line-requires
line_of-line-requires c =
    let read : List ℕ = take c.min-length.result c.args.input.now in
    let few : length read ≤ 65536 = omega (arith, length-take c.min-length.result c.args.input.now, c.told-input) in
    rw c.read_file.ensures (omega (arith, place-within read, few), omega (arith, answer-within read, few))

pub put_fields-requires : goal.put_fields-requires
put_fields-requires c =
    let long : length c.line_of-line.result ≡ 6 = cc in
    let few : (i : ℕ) → get_or c.line_of-line.result i 0 < 4294967296 = search rules in
    let room = line-room c.line_of-line.result (omega (arith, long)) few in
    (omega (arith, long), omega (arith, long, room, c.told-out))

pub returns-clause-written : goal.returns-clause-written
unfolding report
returns-clause-written c =
    let p = c.put_fields in
    let same : take c.min-length.result c.args.input.now ≡ take c.args.count c.args.input.now =
    take_counted c.args.input.now c.args.count c.min-length.result (rw c.told-input c.min-length.ensures) in
    subst (λ (line : List ℕ). Written 0 (fields line) c.args.out.now p.result p.new.out)
    (c.line_of-line.ensures ∙ ap line_in (c.read_file.ensures ∙ ap read_file same)) p.ensures
