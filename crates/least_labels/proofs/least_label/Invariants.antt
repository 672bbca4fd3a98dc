-- `least_labels::least_label` meets its contract. The invariant: the labels of the first i nodes are handed up.
use Rattle.least_labels.specs.LeastLabels.{HandedBefore}
use Rattle.least_labels.proofs.least_label.Given as goal

abbrev pub invariant-loop-i : goal.invariant-loop-i
invariant-loop-i l = HandedBefore l.n l.m l.i l.initial.work l.work
