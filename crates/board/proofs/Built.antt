-- The end of the call that builds a tree.
use Rattle.std.proofs.Common.{◌≡◌, ◌∙◌, subst, List, ℕ, ◌*◌, length, Ok, arith}
use Rattle.lists.specs.Lists.{over}
use Rattle.lists.proofs.Cuts.{drop_more}
use Rattle.picture.specs.Pictures.{Picture, places}
use Rattle.picture.specs.Trees.{tree_of}
use Rattle.answers.specs.Answers.{answer_of, cleared}
use Rattle.answers.proofs.Calls.{written-left, work-done}
use Rattle.tree_lists.specs.Lists.{TreeHanded}
use Rattle.board.specs.Trees.{tree_fault_of, TreeSays}

-- r is the picture of the raster that the core was handed
pub tree-done :
    (p r : Picture) (hs hs' fs fs' ss ss' m m' q lent q' : List ℕ) (u : ℕ) → r ≡ p → tree_fault_of p hs fs ss m q ≡ 0 →
    length p.pixels ≡ places p → TreeHanded r u q lent → hs' ≡ over (tree_of r).heights hs → fs' ≡ over (tree_of r).fathers fs →
    ss' ≡ over (tree_of r).firsts ss → m' ≡ over (tree_of r).map m → q' ≡ cleared (length p.pixels) lent →
    TreeSays p hs hs' fs fs' ss ss' m m' q q' (answer_of (Ok u))
tree-done p r hs hs' fs fs' ss ss' m m' q lent q' u e z size t a b c d w =
    let handed : TreeHanded p u q lent = subst (λ (s : Picture). TreeHanded s u q lent) e t in
    record {
      call =
          work-done _ _ _ _ p _ _ _ z handed.count size
          (drop_more (4 * places p) (5 * length p.pixels) _ _ (omega (arith, size)) handed.beyond)
          w;
      heights = subst (λ (s : Picture). hs' ≡ over (tree_of s).heights hs) e a ∙ written-left _ _ _ z;
      fathers = subst (λ (s : Picture). fs' ≡ over (tree_of s).fathers fs) e b ∙ written-left _ _ _ z;
      firsts = subst (λ (s : Picture). ss' ≡ over (tree_of s).firsts ss) e c ∙ written-left _ _ _ z;
      map = subst (λ (s : Picture). m' ≡ over (tree_of s).map m) e d ∙ written-left _ _ _ z;
    }
