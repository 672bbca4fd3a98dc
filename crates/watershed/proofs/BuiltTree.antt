-- The tree that the builder leaves in the cells is the one that the run reads.
use Rattle.std.proofs.Common.{◌≡◌, ap, sym, ◌∙◌, List, ◌++◌, ℕ, ◌+◌, ◌*◌, zero-add, arith, length, get_or}
use Rattle.std.proofs.Math.ListN.{get_or-append}
use Rattle.picture.specs.Pictures.{Picture, places}
use Rattle.tree.specs.Arrays.{TreeIn}
use Rattle.topology.proofs.Nodes.{nodes-few}
use Rattle.watershed_laws.proofs.Turns.{Holds}

pub tree-holds : (p : Picture) (l rest : List ℕ) → length l ≡ 3 * places p → TreeIn p (l ++ rest) → Holds p l
tree-holds p l rest size t =
    let few = nodes-few p in
    record {
      size = size;
      heights =
          λ i b.
          sym (get_or-append l rest 0 i (omega arith)) ∙
          (ap (λ (j : ℕ). get_or (l ++ rest) j 0) (sym (zero-add i)) ∙ t.heights i b);
      fathers = λ i b. sym (get_or-append l rest 0 (places p + i) (omega arith)) ∙ t.fathers i b;
      map = λ x b. sym (get_or-append l rest 0 (2 * places p + x) (omega arith)) ∙ t.map x b;
    }
