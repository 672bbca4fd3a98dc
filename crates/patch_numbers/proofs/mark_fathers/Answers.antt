-- `patch_numbers::mark_fathers` meets its contract: each father of the slice is that of the next node.
use Rattle.std.proofs.Common.{◌≡◌, ◌∙◌, List, ℕ, ◌<◌, length, get_or, take, drop, get_or-take, get_or-drop, length-take, arith}
use Rattle.lists.specs.Blocks.{block_entry}
use Rattle.patch_numbers.proofs.Numbering.{marks-more}
use Rattle.patch_numbers.proofs.mark_fathers.Goals as goal

-- an entry of a slice of the fathers
sliced : (m n j : ℕ) (l : List ℕ) → j < length (take m (drop n l)) → get_or (take m (drop n l)) j 0 ≡ block_entry l n j
sliced m n j l h =
    let size = length-take m (drop n l) in
    get_or-take m (drop n l) j 0 (omega arith) ∙ get_or-drop n l j 0

pub loop-father-preserved : goal.loop-father-preserved
loop-father-preserved c =
    marks-more c.args.n c.args.work.now _ _ _ _ (c.from.ensures ∙ sliced _ _ _ _ c.loop-father-test.true) c.loop-father.invariant c.mark.ensures
