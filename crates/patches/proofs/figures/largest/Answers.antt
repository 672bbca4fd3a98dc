-- `patches::figures::largest` meets its contract: no pixel exceeds the answer, which is one of them, or 0 for none.
use Rattle.std.proofs.Common.{◌≡◌, List, ℕ, ◌<◌, ◌≤◌, length, get_or, Option, Some, None, unwrap_or, MatchOption, ◌∙◌, rules, arith}
use Rattle.std.proofs.Math.Logic.{by_cases}
use Rattle.std.proofs.Math.Decide.{dec_lt}
use Rattle.std.proofs.lemmas.List.{get_or_past}
use Rattle.lists.specs.Lists.{highest}
use Rattle.lists.proofs.Sums.{highest-least, highest-most}
use Rattle.patches.proofs.figures.largest.Goals as goal

-- no member is above m
abbrev Most : List ℕ → ℕ → Type 0
Most l m = (k : ℕ) → k < length l → get_or l k 0 ≤ m

-- m is a member
abbrev Member : List ℕ → ℕ → Type 0
Member l m = (k : ℕ) × (k < length l) × (get_or l k 0 ≡ m)

highest-is :
    (r : Option ℕ) (l : List ℕ) → MatchOption r (length l ≡ 0) (Most l) → MatchOption r (length l ≡ 0) (Member l) → unwrap_or r 0 ≡ highest l
highest-is None l e f =
    let top = highest-most 0 l (λ i. let z = get_or_past l i 0 (omega arith) in omega arith) in omega arith
highest-is (Some m) l e f =
    let (k, b, is) = f in
    let own = highest-least l k in
    let top =
    highest-most m l
    (λ i. by_cases (dec_lt i (length l)) (λ h. e i h) (λ h. let z = get_or_past l i 0 (omega arith) in omega arith))
    in
    omega arith

pub returns : goal.returns
returns c =
    let l = c.args.pixels.now in
    let most : MatchOption c.max.result (length l ≡ 0) (Most l) = search rules in
    let member : MatchOption c.max.result (length l ≡ 0) (Member l) = search rules in
    c.unwrap_or.ensures ∙ highest-is c.max.result l most member
