-- What the functions inside say: the room that figures need.
use Rattle.std.specs.Prelude.{List, ℕ, ◌+◌, ◌*◌, ◌≤◌, length}

-- five blocks of n figures with at least count entries in the last, and five lists with room for count
pub record Room (n count : ℕ) (figures zs hs ds cs rs : List ℕ) : Type 0 where
  pub blocks : 4 * n + count ≤ length figures
  pub sizes : count ≤ length zs
  pub heights : count ≤ length hs
  pub depths : count ≤ length ds
  pub columns : count ≤ length cs
  pub rows : count ≤ length rs
