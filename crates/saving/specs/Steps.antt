-- What the functions inside say: the refusal of what is to be saved, as a record.
use Rattle.std.specs.Prelude.{◌≡◌, List, ℕ, eqb, Result, Ok, Err}
use Rattle.lists.specs.Lists.{pick}
use Rattle.refusals.specs.declared.Refusal.{Refusal}
use Rattle.saving.specs.Calls.{first_above, content_fault, Saved, saved_of}

-- the record of a refusal, with the number 0 for none
abbrev pub refusal_of : {A : Type 0} → Result A Refusal → Saved
refusal_of (Ok a) = saved_of (Ok 0)
refusal_of (Err e) = saved_of (Err e)

-- the record of an answer
abbrev pub IsSaved : ℕ → ℕ → ℕ → Saved → Type 0
IsSaved n p c r = r ≡ record { number = n; place = p; count = c }

-- the refusal of what is to be saved, with the number 0 for none
abbrev pub ContentSays : ℕ → ℕ → ℕ → List ℕ → Saved → Type 0
ContentSays w h m xs r =
    IsSaved (content_fault w h m xs) (pick (eqb (content_fault w h m xs) 6) (first_above m xs) 0) 0 r
