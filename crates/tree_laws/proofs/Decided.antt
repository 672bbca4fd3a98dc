-- What an answer of true or false says.
use mathlib.Core.Path.{◌≡◌, refl}
use mathlib.Core.Bool.{Bool, true, false}
use Rattle.lists.proofs.Tests.{clash}

-- A where the answer is true, B where it is false
pub data Decided (A B : Type 0) : Bool → Type 0 where
  yes : A → Decided A B true
  never : B → Decided A B false

pub decided-yes : {A B : Type 0} {b : Bool} → b ≡ true → Decided A B b → A
decided-yes e (yes a) = a
decided-yes e (never d) = absurd (clash e refl)

pub decided-never : {A B : Type 0} {b : Bool} → b ≡ false → Decided A B b → B
decided-never e (yes a) = absurd (clash refl e)
decided-never e (never d) = d
