-- `board::file_pixels` meets its contract: what reading answers is what the definition of the pixels asks.
use Rattle.std.proofs.Common.{◌≡◌, refl, sym, ap, ◌∙◌, ℕ, drop, Result, arith}
use native.Mathlib.Nat.{add-zero}
use Rattle.lists.proofs.Cuts.{take_rest}
use Rattle.refusals.specs.declared.Refusal.{Refusal}
use Rattle.refusals.proofs.Numbers.{number-some}
use Rattle.p5.specs.declared.header.Header.{Header}
use Rattle.p5.specs.Files.{read_file, outcome_number, header_of}
use Rattle.p5.proofs.Answers.{refused-header}
use Rattle.p5.proofs.Verdicts.{answer-within}
use Rattle.board.proofs.Pixels.{pixels-read, pixels-none}
use Rattle.board.proofs.file_pixels.Goals as goal

pub slice_bounds-result-count : goal.slice_bounds-result-count
slice_bounds-result-count c =
    let offset = ap (λ (r : Result Header Refusal). (header_of r).offset) c.in-Ok.ensures in omega (arith, offset, answer-within c.args.file.now)

pub slice_bounds-result-start : goal.slice_bounds-result-start
slice_bounds-result-start c =
    let offset = ap (λ (r : Result Header Refusal). (header_of r).offset) c.in-Ok.ensures in omega (arith, offset, answer-within c.args.file.now)

pub returns-in-Ok : goal.returns-in-Ok
returns-in-Ok c =
    let f = c.args.file.now in
    let offset = ap (λ (r : Result Header Refusal). (header_of r).offset) c.in-Ok.ensures in
    record {
      bytes = take_rest _ f ∙ (ap (λ (o : ℕ). drop o f) offset ∙ pixels-read f (sym (ap (λ (r : Result Header Refusal). outcome_number r) c.in-Ok.ensures)));
      memory = refl;
      start = omega (arith, offset);
    }

pub returns-in-Err : goal.returns-in-Err
returns-in-Err c =
    let f = c.args.file.now in
    let some = number-some c.in-Err.field-0 in
    let number = ap (λ (r : Result Header Refusal). outcome_number r) c.in-Err.ensures in
    let refused : outcome_number (read_file f) ≡ 0 → ⊥ = λ e. omega (arith, some, number, e) in
    record { bytes = pixels-none f refused; memory = refl; start = rw (refused-header _ refused) (sym (add-zero _)) }
