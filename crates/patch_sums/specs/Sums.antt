-- Sums by patch number in blocks of cells.
use Rattle.std.specs.Prelude.{◌≡◌, List, ℕ, suc, ◌+◌, ◌*◌, ◌/◌, ◌%◌, ◌≤◌, ◌<◌, eqb, length, get_or, set}
use Rattle.lists.specs.Lists.{pick}
use Rattle.lists.specs.Blocks.{block_entry, UntouchedOutside}
use Rattle.lists.proofs.Sums.{sum_at}
use Rattle.patch_sums.specs.declared.Run.{Run}

-- the figures that are sums over the places of a patch
pub data Figure : Type 0 where
  sizes : Figure
  columns : Figure
  rows : Figure

-- one of three numbers
abbrev pub term : ℕ → ℕ → ℕ → Figure → ℕ
term s u v sizes = s
term s u v columns = u
term s u v rows = v

-- what a run in the row v adds
abbrev pub terms : Run → ℕ → Figure → ℕ
terms r v = term r.size r.columns (r.size * v)

-- what a place adds, by the width
abbrev pub term_at : ℕ → Figure → ℕ → ℕ
term_at w k y = term 1 (y % w) (y / w) k

-- where the block of a figure begins
abbrev pub base : ℕ → Figure → ℕ
base n sizes = 0
base n columns = n
base n rows = 2 * n

-- v is added to the entry i
abbrev pub raised : List ℕ → ℕ → ℕ → List ℕ
raised l i v = set l i (get_or l i 0 + v)

-- the entry i is there and has room for v more
pub record Raisable (l : List ℕ) (i v : ℕ) : Type 0 where
  pub inside : i < length l
  pub few : length l ≤ 8000
  pub room : get_or l i 0 + v ≤ 65535

-- c is 0 or a number whose sums have room for the terms t
pub record SumsRoom (n c : ℕ) (t : Figure → ℕ) (work : List ℕ) : Type 0 where
  pub few : n ≤ 1600
  pub blocks : length work ≡ 5 * n
  pub number : c ≤ n
  pub room : (k : Figure) (i : ℕ) → c ≡ suc i → block_entry work (base n k) i + t k ≤ 65535

-- the sums of the number c are more by the terms t
pub record Added (n c : ℕ) (t : Figure → ℕ) (work after : List ℕ) : Type 0 where
  pub kept : UntouchedOutside 0 (3 * n) work after
  pub sum : (k : Figure) (i : ℕ) → i < n → block_entry after (base n k) i ≡ block_entry work (base n k) i + pick (eqb c (suc i)) (t k) 0

-- the sum at i of a figure, with a run in the row v
abbrev pub held : ℕ → List ℕ → Run → ℕ → Figure → ℕ → ℕ
held n work r v k i = block_entry work (base n k) i + pick (eqb r.number (suc i)) (terms r v k) 0

-- the sums with the run are more by a place of the number c in the column u and the row v; the run's number is no greater than c or than it was, whichever is greater
pub record RunAfter (n c u v : ℕ) (run : Run) (work : List ℕ) (r : Run) (after : List ℕ) : Type 0 where
  pub kept : UntouchedOutside 0 (3 * n) work after
  pub number : (m : ℕ) → c ≤ m → run.number ≤ m → r.number ≤ m
  pub size : r.size ≤ run.size + 1
  pub columns : r.columns ≤ run.columns + u
  pub sum : (k : Figure) (i : ℕ) → i < n → held n after r v k i ≡ held n work run v k i + pick (eqb c (suc i)) (term 1 u v k) 0

-- the numbers of n places, each at most n, in at most 40 rows of w
pub record NumberedRows (w n : ℕ) (numbers : List ℕ) : Type 0 where
  pub some : 1 ≤ w
  pub wide : w ≤ 40
  pub high : n ≤ w * 40
  pub size : length numbers ≡ n
  pub most : (x : ℕ) → x < n → get_or numbers x 0 ≤ n

-- the first three blocks hold the sizes, the sums of columns and the sums of rows over the first x places by number, from 1 on
pub record Sums (w n x : ℕ) (numbers work after : List ℕ) : Type 0 where
  pub kept : UntouchedOutside 0 (3 * n) work after
  pub blocks : length after ≡ 5 * n
  pub sum : (k : Figure) (i : ℕ) → i < n → block_entry after (base n k) i ≡ sum_at (term_at w k) numbers (suc i) x

-- the same in the row v before the column u, with a run that has not been added yet
pub record RowSummed (w n v u : ℕ) (numbers work : List ℕ) (run : Run) (after : List ℕ) : Type 0 where
  pub kept : UntouchedOutside 0 (3 * n) work after
  pub blocks : length after ≡ 5 * n
  pub number : run.number ≤ n
  pub size : run.size ≤ u
  pub columns : run.columns ≤ 39 * u
  pub sum : (k : Figure) (i : ℕ) → i < n → held n after run v k i ≡ sum_at (term_at w k) numbers (suc i) (v * w + u)
