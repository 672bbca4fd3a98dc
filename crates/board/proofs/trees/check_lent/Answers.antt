-- `board::check_lent` meets its contract: the answer of the check decides.
use Rattle.std.proofs.Common.{sym, ap, ◌∙◌, Bool}
use Rattle.std.specs.Prelude.{not}
use Rattle.faults.specs.PictureFault.{when}
use Rattle.board.proofs.LentTrees.{answer-tree}
use Rattle.board.proofs.trees.check_lent.Goals as goal

pub returns-then-is_tree : goal.returns-then-is_tree
returns-then-is_tree c =
    ap (λ (b : Bool). when (not b) 11) (sym c.if-is_tree.true ∙ answer-tree _ _ _ _ _ _ c.requires _ c.is_tree.ensures)

pub returns-else-is_tree : goal.returns-else-is_tree
returns-else-is_tree c =
    ap (λ (b : Bool). when (not b) 11) (sym c.if-is_tree.false ∙ answer-tree _ _ _ _ _ _ c.requires _ c.is_tree.ensures)
