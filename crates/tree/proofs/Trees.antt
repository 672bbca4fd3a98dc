-- The tree in its cells: after the last step, and in a longer slice.
use Rattle.std.proofs.Common.{◌≡◌, ap, ◌∙◌, List, ◌++◌, ℕ, ◌+◌, ◌*◌, ◌≤◌, arith, length, get_or, take, drop, length-append, length-drop, length-take-le, drop_at}
use Rattle.std.proofs.Math.ListN.{get_or-append}
use Rattle.picture.specs.Pictures.{Picture, places}
use Rattle.picture.specs.Trees.{nodes}
use Rattle.topology.proofs.Nodes.{nodes-few}
use Rattle.tree_laws.proofs.Resolving.{Resolving}
use Rattle.tree.specs.Arrays.{TreeIn}
use Rattle.tree.specs.Built.{Built}

pub tree-resolved : (p : Picture) (w : List ℕ) → Resolving p (length (nodes p)) w → TreeIn p w
tree-resolved p w s =
    record {
      heights = λ i h. let e : 0 + i ≡ i = omega arith in ap (λ (j : ℕ). get_or w j 0) e ∙ s.listed.heights i h;
      fathers = λ i h. s.done i h h;
      map = s.map;
      firsts = s.listed.firsts;
    }

-- a slice that begins with the tree holds it
pub tree-front : (p : Picture) (w v : List ℕ) → length w ≡ 4 * places p → TreeIn p w → TreeIn p (w ++ v)
tree-front p w v e t =
    let few = nodes-few p in
    record {
      heights = λ i h. get_or-append w v 0 (0 + i) (omega arith) ∙ t.heights i h;
      fathers = λ i h. get_or-append w v 0 (places p + i) (omega arith) ∙ t.fathers i h;
      map = λ x h. get_or-append w v 0 (2 * places p + x) (omega arith) ∙ t.map x h;
      firsts = λ i h. get_or-append w v 0 (3 * places p + i) (omega arith) ∙ t.firsts i h;
    }

-- the cells that were lent come back in front of the others
pub built-front :
    (p : Picture) (r : ℕ) (work tree cells left : List ℕ) → (r ≡ length (nodes p)) × TreeIn p tree →
    length tree ≡ length (take (4 * places p) work) → length left ≡ length (take (places p) cells) →
    4 * places p ≤ length work → places p ≤ length cells →
    Built p r work (tree ++ drop (4 * places p) work) cells (left ++ drop (places p) cells)
built-front p r work tree cells left t e g b d =
    let e4 : length tree ≡ 4 * places p = e ∙ length-take-le (4 * places p) work b in
    let g1 : length left ≡ places p = g ∙ length-take-le (places p) cells d in
    record {
      count = t.0;
      tree = tree-front p tree (drop (4 * places p) work) e4 t.1;
      room = length-append tree (drop (4 * places p) work) ∙ (let h = length-drop (4 * places p) work in omega arith);
      size = length-append left (drop (places p) cells) ∙ (let h = length-drop (places p) cells in omega arith);
      beyond = drop_at tree (drop (4 * places p) work) (4 * places p) e4;
      rest = drop_at left (drop (places p) cells) (places p) g1;
    }
