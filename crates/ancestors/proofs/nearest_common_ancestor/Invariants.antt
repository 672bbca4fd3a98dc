-- `ancestors::nearest_common_ancestor` meets its contract. The invariant is Climbed: a climb from the two nodes is on its way.
use Rattle.std.proofs.Common.{◌-◌, ◌*◌, length}
use Rattle.ancestors.proofs.Ancestors.{Climbed}
use Rattle.ancestors.proofs.nearest_common_ancestor.Given as goal

abbrev pub invariant-loop-c : goal.invariant-loop-c
invariant-loop-c l = Climbed l.fathers l.a l.b l.c l.d

abbrev pub decreases-loop-c : goal.decreases-loop-c
decreases-loop-c l = 2 * length l.fathers - l.c - l.d
