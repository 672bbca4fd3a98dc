-- The text for a file by its fault.
use mathlib.Core.Path.{◌≡◌, sym, ap, ◌∙◌}
use mathlib.Core.Logic.{◌≢◌}
use mathlib.Core.List.{List}
use Prim.Native.Nat.{ℕ, ◌≤◌, ◌<◌}
use native.Mathlib.Omega.{arith}
use lib.ListN.{length, take, length-take}
use borrow.Author.Tests.{lt-ltb, le-ltb, ltb-true, ltb-false}
use lib.Dec.{ltb}
use Rattle.lists.proofs.Tests.{on_test, pick-in, pick_out}
use Rattle.std.specs.Prelude.{Ok, Err}
use Rattle.refusals.specs.declared.Refusal.{Refusal}
use Rattle.refusals.specs.Refusals.{number_of, fault_of}
use Rattle.refusals.proofs.Numbers.{number-some}
use Rattle.p5.specs.declared.header.Header.{Header}
use Rattle.p5.specs.Files.{read_file, outcome_number}
use Rattle.hold_lines.specs.Lines.{refused_line}
use Rattle.file_text.specs.FileText.{input_most, file_fault, file_text}
use Rattle.file_text.specs.Handed.{handed, HandedSays}

module _ (f : List ℕ) where
  pub fault-long : input_most < length f → file_fault f ≡ 12
  unfolding file_fault
  fault-long h = rw (lt-ltb input_most (length f) h)

  pub fault-read : length f ≤ input_most → file_fault f ≡ outcome_number (read_file f)
  unfolding file_fault
  fault-read h = rw (le-ltb input_most (length f) h)

  -- a file without a fault is short and accepted
  pub fault-none : file_fault f ≡ 0 → (length f ≤ input_most) × (outcome_number (read_file f) ≡ 0)
  fault-none z =
      on_test (ltb input_most (length f))
      (λ t. absurd (omega (arith, fault-long (ltb-true input_most (length f) t))))
      (λ t. let h = ltb-false input_most (length f) t in (h, sym (fault-read h) ∙ z))

-- what is read of a file that a program is handed
module _ (f : List ℕ) where
  pub handed-says : HandedSays f (handed f)
  handed-says =
      record {
        long = λ h. rw (lt-ltb input_most (length f) h);
        short = λ h. rw (le-ltb input_most (length f) h);
      }

  pub handed-number : fault_of (handed f) ≡ file_fault f
  handed-number =
      on_test (ltb input_most (length f))
      (λ t. let h = ltb-true input_most (length f) t in ap outcome_number (handed-says.long h) ∙ sym (fault-long f h))
      (λ t. let h = ltb-false input_most (length f) t in ap outcome_number (handed-says.short h) ∙ sym (fault-read f h))

  pub handed-read : file_fault f ≡ 0 → handed f ≡ read_file f
  handed-read z = handed-says.short (fault-none f z).0

  -- a refusal has the file's fault, which is not 0
  pub handed-refused : {e : Refusal} → handed f ≡ Err e → (number_of e ≡ file_fault f) × (file_fault f ≢ 0)
  handed-refused {e} h =
      let n : number_of e ≡ file_fault f = sym (ap outcome_number h) ∙ handed-number in
      (n, λ z. omega (arith, number-some e))

  -- a header is that of an accepted file
  pub handed-accepted : {h : Header} → handed f ≡ Ok h → (file_fault f ≡ 0) × (read_file f ≡ Ok h)
  handed-accepted {h} e =
      let z : file_fault f ≡ 0 = sym handed-number ∙ ap outcome_number e in
      (z, sym (handed-read z) ∙ e)

module _ (print : List ℕ → List ℕ) (f : List ℕ) where
  pub text-refused : file_fault f ≢ 0 → file_text print f ≡ refused_line (file_fault f)
  unfolding file_text
  text-refused d = pick_out (file_fault f) 0 _ _ d

  pub text-print : file_fault f ≡ 0 → file_text print f ≡ print f
  unfolding file_text
  text-print e = pick-in (file_fault f) 0 _ _ e

-- an input that is too long: refusal 12
pub text-counted :
    (print : List ℕ → List ℕ) (count : ℕ) (input : List ℕ) → input_most < count → input_most < length input →
    file_text print (take count input) ≡ refused_line 12
text-counted print count input h g =
    let e = fault-long (take count input) (omega (arith, length-take count input)) in
    text-refused print (take count input) (λ z. omega (arith, e)) ∙ ap refused_line e
