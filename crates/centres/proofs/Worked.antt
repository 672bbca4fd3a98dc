-- Centres worked by hand, by computation.
use Rattle.std.proofs.Common.{◌≡◌, refl, true, List, [], ◌∷◌, ℕ, eqb}
use Rattle.lists.specs.Lists.{all}
use Rattle.centres.specs.Centres.{centre}

-- a sum, a size and the centre in tenths
pub record Row : Type 0 where
  pub sum : ℕ
  pub size : ℕ
  pub tenths : ℕ

abbrev row : ℕ → ℕ → ℕ → Row
row s n t = record { sum = s; size = n; tenths = t }

abbrev pub table : List Row
table =
    -- 2.5 and 7.5: a half goes to the even tenth, down or up
    row 1 4 2 ∷
    row 3 4 8 ∷
    -- 0.5 and 389.5: the least half and the greatest below column 39
    row 1 20 0 ∷
    row 779 20 390 ∷
    -- 3.33 and 6.67: thirds
    row 1 3 3 ∷
    row 2 3 7 ∷
    -- 2.48 and 2.52, 7.48 and 7.52: beside a half
    row 31 125 2 ∷
    row 63 250 3 ∷
    row 187 250 7 ∷
    row 94 125 8 ∷
    -- whole tenths
    row 0 1600 0 ∷
    row 7 2 35 ∷
    row 62400 1600 390 ∷
    []

-- each worked centre is that of its row
pub worked-centres : all (λ r. eqb (centre r.sum r.size) r.tenths) table ≡ true
unfolding centre
worked-centres = refl
