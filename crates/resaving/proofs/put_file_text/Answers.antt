-- `resaving::put_file_text` meets its contract: an accepted file, a refused one.
use Rattle.std.proofs.Common.{◌≡◌, ◌∙◌, List, ℕ}
use Rattle.lists.specs.Writing.{Written}
use Rattle.refusals.specs.declared.Refusal.{Refusal}
use Rattle.refusals.specs.Refusals.{number_of}
use Rattle.hold_lines.specs.Lines.{refused_line}
use Rattle.resaving.specs.Resaved.{resaved_text}
use Rattle.resaving.specs.Steps.{SavedAs, RefusedAs}
use Rattle.resaving.proofs.ResavedTexts.{resaved-refused, resaved-file}
use Rattle.resaving.proofs.put_file_text.Goals as goal

accepted : (f o o' : List ℕ) (n r : ℕ) → SavedAs f o o' n → r ≡ n → Written 0 (resaved_text f) o r o'
accepted f o o' n r s e = rw (resaved-file f s.none, e) s.written

refused :
    (f o o' t : List ℕ) (e : Refusal) (n r : ℕ) → RefusedAs f o o' e → n ≡ number_of e → Written 0 (refused_line n) o' r t →
    Written 0 (resaved_text f) o r t
refused f o o' t e n r s same w = rw (resaved-refused f s.some, ← s.number, ← same, ← s.kept) w

pub returns-in-Ok : goal.returns-in-Ok
returns-in-Ok c = accepted _ _ _ _ _ c.in-Ok.ensures c.from.ensures

pub returns-in-Err : goal.returns-in-Err
returns-in-Err c =
    refused c.args.file.now _ _ _ c.in-Err.refusal _ _ c.in-Err.ensures (c.from-in-Err.ensures ∙ c.number.ensures) c.put_refusal.ensures.0
