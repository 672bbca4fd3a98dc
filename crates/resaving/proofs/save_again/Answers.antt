-- `resaving::save_again` meets its contract: a refused file, an accepted one, for which there is room.
use Rattle.std.proofs.Common.{◌≡◌, refl, sym, ap, ℕ, length, ◌≤◌, List, Ok, Err}
use Rattle.std.proofs.lemmas.Result.{err_from_is_err_and}
use Rattle.refusals.specs.declared.Refusal.{Refusal}
use Rattle.p5.specs.declared.header.Header.{Header}
use Rattle.p5.specs.Files.{header_of}
use Rattle.p5.proofs.Verdicts.{answer-within}
use Rattle.file_text.specs.Handed.{handed}
use Rattle.file_text.proofs.FileTexts.{handed-refused, handed-accepted}
use Rattle.resaving.specs.Steps.{SavesAgain}
use Rattle.resaving.proofs.ResavedTexts.{answer-reads, saved-again}
use Rattle.resaving.proofs.save_again.Goals as goal

refused : (f o : List ℕ) (e : Refusal) → handed f ≡ Err e → SavesAgain f o o (Err e)
refused f o e h = let n = handed-refused f h in record { some = n.1; number = n.0; kept = refl }

-- the pixels of an accepted file begin within it
within : (f : List ℕ) (h : Header) → handed f ≡ Ok h → h.offset ≤ length f
within f h e = rw (ap header_of (handed-accepted f e).1) at (answer-within f)

pub returns-in_err-header : goal.returns-in_err-header
returns-in_err-header c =
    let p = err_from_is_err_and c.from_residual.result c.from_residual.ensures.1 in
    rw (p.1, p.2) (refused _ _ _ (sym c.in_err-header.ensures))

pub slice_bounds-write_file-start : goal.slice_bounds-write_file-start
slice_bounds-write_file-start c = within _ _ (sym c.in_ok-header.ensures)

pub slice_bounds-write_file-count : goal.slice_bounds-write_file-count
slice_bounds-write_file-count c = within _ _ (sym c.in_ok-header.ensures)

pub returns : goal.returns
returns c =
    let f = c.args.file.now in
    let a = handed-accepted f (sym c.in_ok-header.ensures) in
    saved-again f _ _ _ _ (answer-reads f c.in_ok-header.header a.1) _ _ _ a.0 c.requires c.write_file.ensures
