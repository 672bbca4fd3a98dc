-- The words of the contracts inside the crate.
use Rattle.std.specs.Prelude.{List, ℕ, ltb}
use Rattle.lists.specs.Lists.{pick}
use Rattle.picture.specs.Pictures.{Picture}
use Rattle.hold_list.specs.HoldText.{hold_list, filled_list, asked_size}

-- what is printed of an accepted picture
unfoldable pub asked_list : ℕ → List ℕ → Picture → List ℕ
asked_list words a p = pick (ltb words 2) (hold_list p) (filled_list (asked_size words a) p)
