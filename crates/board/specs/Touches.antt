-- What the touch promises under the two handbooks.
-- p the picture, x the place, q work, r the answer; a prime: after the call.
use Rattle.std.specs.Prelude.{◌≡◌, true, ◌↔◌, ◌≢◌, List, ℕ, ◌≤◌}
use Rattle.picture.specs.Pictures.{Picture, all_bytes}
use Rattle.picture.specs.Trees.{Node}
use Rattle.picture.specs.Patches.{patch_at, Nearest}
use Rattle.board.specs.declared.query.Ground.TheVariants as G
use Rattle.board.specs.Calls.{QueryAnswer}
use Rattle.board.specs.Calls.{QuerySays, TouchSays}

-- a touch is refused with 14 exactly if the handbook is neither 4 nor 5, whatever else is wrong
abbrev pub Touch-unknown : Type 0
Touch-unknown =
    (handbook : ℕ) (p : Picture) (x : ℕ) (q q' : List ℕ) (r : QueryAnswer) → TouchSays handbook p x q q' r →
    (r.number ≡ 14) ↔ ((handbook ≢ 4) × (handbook ≢ 5))

-- under handbook 4 the promise of a touch is that of the place query
abbrev pub Touch-four : Type 0
Touch-four = (p : Picture) (x : ℕ) (q q' : List ℕ) (r : QueryAnswer) → TouchSays 4 p x q q' r ↔ QuerySays p x q q' r

-- of a touch inside a patch both handbooks promise the same
abbrev pub Touch-inside : Type 0
Touch-inside =
    (p : Picture) (x : ℕ) → 1 ≤ patch_at p x →
    (q q' : List ℕ) (r : QueryAnswer) → TouchSays 4 p x q q' r ↔ TouchSays 5 p x q q' r

-- under handbook 5 an unrefused touch belongs to the nearest patch, wherever the place is
abbrev pub Touch-five : Type 0
Touch-five =
    (p : Picture) (x : ℕ) (q q' : List ℕ) (r : QueryAnswer) → all_bytes p.pixels ≡ true → TouchSays 5 p x q q' r → r.number ≡ 0 →
    (n : Node) × Nearest p x n × (r.ground ≡ G.Patch (patch_at p n.first))
