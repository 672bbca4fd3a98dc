-- What a reader takes of the answer for a number.
use Rattle.std.specs.Prelude.{ℕ, Option, Some, None, Result, Ok, Err}
use Rattle.p5.specs.declared.field.Number.{Number}

-- the number, if there is one
abbrev pub taken : Result Number ℕ → Option ℕ
taken (Ok n) = Some n.value
taken (Err p) = None

-- the position where the reading ended: after the number, or the unfit one
abbrev pub end_of : Result Number ℕ → ℕ
end_of (Ok n) = n.end
end_of (Err p) = p
