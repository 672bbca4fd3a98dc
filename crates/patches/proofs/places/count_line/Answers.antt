-- `patches::places::count_line` meets its contract: the count is the tally over the places.
use Rattle.std.proofs.Common.{◌≡◌, ◌==◌, Bool, true, false, List, ℕ, ◌+◌, count_by, cond, refl, sym, ◌∙◌, eqb, rules, arith}
use Rattle.std.proofs.lemmas.List.Recursion.{is_count_by}
use Rattle.lists.specs.Lists.{pick, tally}
use Rattle.patches.proofs.FigureLaws.{line-count}
use Rattle.patches.proofs.places.count_line.Goals as goal

one_more : (b : Bool) (n : ℕ) → pick b 1 0 + n ≡ cond b (1 + n) n
one_more true n = refl
one_more false n = omega arith

counted : (l : List ℕ) → count_by (λ x. x == 0) l ≡ tally (λ x. eqb x 0) l
counted l =
    sym (is_count_by (tally (λ x. eqb x 0)) (λ x. x == 0) refl (λ x xs. one_more (eqb x 0) (tally (λ y. eqb y 0) xs)) l)

pub returns : goal.returns
returns c =
    let l = c.args.numbers.now in
    let count : c.count.result ≡ count_by (λ x. x == 0) l = search rules in
    λ p m. count ∙ (counted l ∙ line-count p l m)
