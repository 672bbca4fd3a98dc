-- `patch_numbers::number_leaf` meets its contract: each return is one case of Number.
use Rattle.patch_numbers.proofs.Numbering.{number-other, number-marked, number-given}
use Rattle.patch_numbers.proofs.number_leaf.Goals as goal
use Rattle.patch_numbers.proofs.number_leaf.Goals.{else-from-x-via-then-from-x+else-marks-m-eq0, else-from-x-via-else-from-x}

pub returns-then-marks-m-eq0 : goal.returns-then-marks-m-eq0
returns-then-marks-m-eq0 c = number-given _ _ _ _ _ _ _ c.from-m.ensures c.from.ensures c.if-from-x.true c.if-marks-m-eq0.true

pub returns-else-from-x : goal.returns-else-from-x
returns-else-from-x c =
    elim c.else-from-x.branch [
      | else-from-x-via-then-from-x+else-marks-m-eq0 w ↦ number-marked _ _ _ _ _ _ _ c.from-m.ensures c.from.ensures w.if-from-x.true w.if-marks-m-eq0.false
      | else-from-x-via-else-from-x w ↦ number-other _ _ _ _ _ _ _ c.from-m.ensures c.from.ensures w.if-from-x.false
    ]
