-- The laws of the sums by patch number.
use Rattle.std.proofs.Common.{◌≡◌, refl, sym, ap, ap₂, subst, ◌∙◌, ◌≢◌, List, ℕ, suc, ◌+◌, ◌*◌, ◌≤◌, ◌<◌, mod-lt, div-lt_iff_lt-mul, mul_comm, suc-mul, add-mul, mul-le-mul_right, lt_of_mul-lt-mul_right, add-one, arith, eqb, length, get_or, get_or-set_same, get_or-set_other}
use Rattle.std.proofs.Math.Logic.{by_cases}
use Rattle.std.proofs.Math.Decide.{ℕ_discrete}
use Rattle.std.proofs.Math.Arith.{digits_div, digits_mod}
use Rattle.lists.specs.Lists.{pick}
use Rattle.lists.proofs.Tests.{pick-in, pick_out, pick-add}
use Rattle.lists.specs.Blocks.{block_entry, UntouchedOutside, Filled}
use Rattle.lists.proofs.Sums.{sum_at, sum-none, sum-next, sum-most}
use Rattle.patch_sums.specs.declared.Run.{Run}
use Rattle.patch_sums.specs.Sums.{Figure, sizes, columns, rows, term, terms, term_at, base, raised, Raisable, SumsRoom, Added, RunAfter, NumberedRows, Sums, RowSummed}
use Rattle.lists.proofs.Blocks.{untouched-refl, untouched-trans, untouched-store}

raised-kept : (n j v : ℕ) (l m o : List ℕ) → o ≡ raised m j v → j < n → UntouchedOutside 0 n l m → UntouchedOutside 0 n l o
raised-kept n j v l m o q h k = rw q (untouched-store 0 n j (get_or m j 0 + v) l m (omega arith) (omega arith) k)

-- an entry raised, seen from elsewhere
raised-apart : (l m : List ℕ) (i j v : ℕ) → m ≡ raised l i v → j ≢ i → get_or m j 0 ≡ get_or l j 0
raised-apart l m i j v q e = ap (λ (k : List ℕ). get_or k j 0) q ∙ get_or-set_other l i j (get_or l i 0 + v) 0 e

-- and from the block that begins at b, by the number c of the entry
raised-own :
    (c i : ℕ) → c ≡ suc i → (l m : List ℕ) (o b j v : ℕ) → o ≡ b + i → m ≡ raised l o v → o < length l →
    block_entry m b j ≡ block_entry l b j + pick (eqb c (suc j)) v 0
raised-own c i n l m o b j v p q h =
    by_cases (ℕ_discrete i j)
    (λ e.
    let d = pick-in c (suc j) v 0 (n ∙ ap suc e) in
    let r : b + j ≡ o = omega arith in
    let s = ap (λ (k : List ℕ). get_or k o 0) q ∙ get_or-set_same l o (get_or l o 0 + v) 0 h in
    let x = ap (λ (z : ℕ). get_or m z 0) r in
    let y = ap (λ (z : ℕ). get_or l z 0) r in
    omega arith)
    (λ e.
    let d = pick_out c (suc j) v 0 (λ f. e (omega arith)) in
    let s = raised-apart l m o (b + j) v q (λ f. e (omega arith)) in
    omega arith)

pub added_none : (n c : ℕ) (t : Figure → ℕ) (l : List ℕ) → c ≡ 0 → Added n c t l l
added_none n c t l e =
    record {
      kept = untouched-refl 0 (3 * n) l;
      sum = λ k i h. let q = pick_out c (suc i) (t k) 0 (λ d. absurd (omega arith)) in omega arith;
    }

-- the entries of the number c raised one after the other
module _ (n c : ℕ) (t : Figure → ℕ) (l : List ℕ) (i : ℕ) (e : c ≡ suc i) (r : SumsRoom n c t l) where
  -- one that has not been raised yet
  room_in : (k : Figure) (m : List ℕ) (j : ℕ) → j ≡ base n k + i → j < 3 * n → UntouchedOutside 0 (3 * n) l m → get_or m j 0 ≡ get_or l j 0 → Raisable m j (t k)
  room_in k m j q h s y =
      let room = r.room k i e in
      let few = r.few in
      let blocks = r.blocks in
      let size = s.size in
      let x = ap (λ (z : ℕ). get_or l z 0) q in
      record { inside = omega arith; few = omega arith; room = omega arith }

  pub room-sizes : Raisable l i (t sizes)
  room-sizes = let m = r.number in room_in sizes l i (omega arith) (omega arith) (untouched-refl 0 (3 * n) l) refl

  module _ (a : List ℕ) (ea : a ≡ raised l i (t sizes)) where
    first : UntouchedOutside 0 (3 * n) l a
    first = let m = r.number in raised-kept (3 * n) i (t sizes) l l a ea (omega arith) (untouched-refl 0 (3 * n) l)

    pub room-columns : Raisable a (n + i) (t columns)
    room-columns =
        let m = r.number in
        room_in columns a (n + i) refl (omega arith) first (raised-apart l a i (n + i) (t sizes) ea (λ f. absurd (omega arith)))

    module _ (b : List ℕ) (eb : b ≡ raised a (n + i) (t columns)) where
      second : UntouchedOutside 0 (3 * n) l b
      second = let m = r.number in raised-kept (3 * n) (n + i) (t columns) l a b eb (omega arith) first

      pub room-rows : Raisable b (2 * n + i) (t rows)
      room-rows =
          let m = r.number in
          room_in rows b (2 * n + i) refl (omega arith) second
          (raised-apart a b (n + i) (2 * n + i) (t columns) eb (λ f. absurd (omega arith)) ∙
          raised-apart l a i (2 * n + i) (t sizes) ea (λ f. absurd (omega arith)))

      pub added-some : (d : List ℕ) → d ≡ raised b (2 * n + i) (t rows) → Added n c t l d
      added-some d ed =
          let m = r.number in
          record { kept = raised-kept (3 * n) (2 * n + i) (t rows) l b d ed (omega arith) second; sum = more }
        where
          -- a block sees its own store and not the other two
          more : (k : Figure) (j : ℕ) → j < n → block_entry d (base n k) j ≡ block_entry l (base n k) j + pick (eqb c (suc j)) (t k) 0
          more sizes j h =
              let m = r.number in
              let x = raised-own c i e l a i 0 j (t sizes) (omega arith) ea room-sizes.inside in
              let y = raised-apart a b (n + i) (0 + j) (t columns) eb (λ f. absurd (omega arith)) in
              let z = raised-apart b d (2 * n + i) (0 + j) (t rows) ed (λ f. absurd (omega arith)) in
              omega arith
          more columns j h =
              let m = r.number in
              let x = raised-apart l a i (n + j) (t sizes) ea (λ f. absurd (omega arith)) in
              let y = raised-own c i e a b (n + i) n j (t columns) refl eb room-columns.inside in
              let z = raised-apart b d (2 * n + i) (n + j) (t rows) ed (λ f. absurd (omega arith)) in
              omega arith
          more rows j h =
              let m = r.number in
              let x = raised-apart l a i (2 * n + j) (t sizes) ea (λ f. absurd (omega arith)) in
              let y = raised-apart a b (n + i) (2 * n + j) (t columns) eb (λ f. absurd (omega arith)) in
              let z = raised-own c i e b d (2 * n + i) (2 * n) j (t rows) refl ed room-rows.inside in
              omega arith

-- the next place of a run
module _ (n c u v : ℕ) (run : Run) (l : List ℕ) where
  -- a run with one place more
  longer : (k : Figure) → terms (record { number = c; size = run.size + 1; columns = run.columns + u }) v k ≡ terms run v k + term 1 u v k
  longer sizes = refl
  longer columns = refl
  longer rows = let a = add-mul run.size 1 v in omega arith

  -- a run of one place
  alone : (k : Figure) → terms (record { number = c; size = 1; columns = u }) v k ≡ term 1 u v k
  alone sizes = refl
  alone columns = refl
  alone rows = omega arith

  pub next-line : c ≡ 0 → RunAfter n c u v run l run l
  next-line e =
      record {
        kept = untouched-refl 0 (3 * n) l;
        number = λ m a b. b;
        size = omega arith;
        columns = omega arith;
        sum = λ k i h. let q = pick_out c (suc i) (term 1 u v k) 0 (λ d. absurd (omega arith)) in omega arith;
      }

  pub next-same : c ≡ run.number → RunAfter n c u v run l (record { number = c; size = run.size + 1; columns = run.columns + u }) l
  next-same e =
      record {
        kept = untouched-refl 0 (3 * n) l;
        number = λ m a b. a;
        size = omega arith;
        columns = omega arith;
        sum =
            λ k i h.
            let s = ap (λ (d : ℕ). pick (eqb d (suc i)) (terms run v k) 0) e in
            let p = ap (λ (z : ℕ). pick (eqb c (suc i)) z 0) (longer k) in
            let q = pick-add (eqb c (suc i)) (terms run v k) (term 1 u v k) in
            omega arith;
      }

  pub next-other : (m : List ℕ) → Added n run.number (terms run v) l m → RunAfter n c u v run l (record { number = c; size = 1; columns = u }) m
  next-other m a =
      record {
        kept = a.kept;
        number = λ m b d. b;
        size = omega arith;
        columns = omega arith;
        sum =
            λ k i h.
            let s = a.sum k i h in
            let p = ap (λ (z : ℕ). pick (eqb c (suc i)) z 0) (alone k) in
            omega arith;
      }

-- sums over no place
pub sums-start : (w n : ℕ) (numbers work l : List ℕ) → length work ≡ 5 * n → Filled 0 (3 * n) 0 work l → Sums w n 0 numbers l l
sums-start w n numbers work l e f =
    record {
      kept = untouched-refl 0 (3 * n) l;
      blocks = f.kept.size ∙ e;
      sum = λ k i h. empty k i h ∙ sym (sum-none (term_at w k) numbers (suc i));
    }
  where
    at : (b i : ℕ) → b + i < 3 * n → block_entry l b i ≡ 0
    at b i h = let z : 0 + (b + i) ≡ b + i = omega arith in subst (λ (j : ℕ). get_or l j 0 ≡ 0) z (f.inside (b + i) h)

    empty : (k : Figure) (i : ℕ) → i < n → block_entry l (base n k) i ≡ 0
    empty sizes i h = at 0 i (omega arith)
    empty columns i h = at n i (omega arith)
    empty rows i h = at (2 * n) i (omega arith)

-- the places before a row
module _ (w h n r : ℕ) (e : n ≡ w * h) where
  pub rows_next : r * w + w ≡ (r + 1) * w
  rows_next = sym (ap (λ (z : ℕ). z * w) (add-one r) ∙ suc-mul r w)

  pub rows_inside : r < h → r * w + w ≤ n
  rows_inside b = let a = mul-le-mul_right w b in let s = suc-mul r w in let c = mul_comm h w in omega arith

  pub rows_whole : r ≡ h → r * w ≡ n
  rows_whole q = ap (λ (z : ℕ). z * w) q ∙ (mul_comm h w ∙ sym e)

module _ (w n x : ℕ) (numbers l m : List ℕ) (s : Sums w n x numbers l m) where
  -- the same number of places
  pub sums-to : (y : ℕ) → x ≡ y → Sums w n y numbers l m
  sums-to y e = subst (λ (z : ℕ). Sums w n z numbers l m) e s

  -- seen from the cells as they are
  pub sums-now : Sums w n x numbers m m
  sums-now = record { kept = untouched-refl 0 (3 * n) m; blocks = s.blocks; sum = s.sum }

  -- seen from earlier cells
  pub sums-since : (o : List ℕ) → UntouchedOutside 0 (3 * n) o l → Sums w n x numbers o m
  sums-since o k = record { kept = untouched-trans 0 (3 * n) o l m k s.kept; blocks = s.blocks; sum = s.sum }

module _ (w n : ℕ) (numbers : List ℕ) (f : NumberedRows w n numbers) where
  -- columns and rows are at most 39
  term-most : (x : ℕ) → x < n → (k : Figure) → term_at w k x ≤ 39
  term-most x h sizes = omega arith
  term-most x h columns = let a = mod-lt x {m = w} f.some in let b = f.wide in omega arith
  term-most x h rows =
      let high = f.high in
      let below : x < w * 40 = omega arith in
      let a = (div-lt_iff_lt-mul f.some).1 (rw (mul_comm w 40) at below) in
      omega arith

  -- the row v
  module _ (v : ℕ) (whole : v * w + w ≤ n) where
    pub row-few : v ≤ 39
    row-few =
        let some = f.some in
        let high = f.high in
        let a = lt_of_mul-lt-mul_right w {m = v} {n = 40} (omega arith) in
        omega arith

    module _ (work l : List ℕ) where
      -- a run begins with no place
      pub running-start : Sums w n (v * w) numbers work l → RowSummed w n v 0 numbers work (record { number = 0; size = 0; columns = 0 }) l
      running-start s =
          record {
            kept = s.kept;
            blocks = s.blocks;
            number = omega arith;
            size = omega arith;
            columns = omega arith;
            sum =
                λ k i h.
                let q = pick_out 0 (suc i) (terms (record { number = 0; size = 0; columns = 0 }) v k) 0 (λ d. absurd (omega arith)) in
                let e : v * w ≡ v * w + 0 = omega arith in
                let x = ap (sum_at (term_at w k) numbers (suc i)) e in
                let sum = s.sum k i h in
                omega arith;
          }

      module _ (u : ℕ) (run : Run) (s : RowSummed w n v u numbers work run l) where
        pub running-room : u ≤ w → SumsRoom n run.number (terms run v) l
        running-room b =
            let high = f.high in
            let wide = f.wide in
            let most = s.number in
            record {
              few = omega arith;
              blocks = s.blocks;
              number = most;
              room =
                  λ k i e.
                  let sum = s.sum k i (omega arith) in
                  let q = pick-in run.number (suc i) (terms run v k) 0 e in
                  let bound = sum-most (term_at w k) numbers (suc i) 39 (v * w + u) (λ y d. term-most y (omega arith) k) in
                  omega arith;
            }

        -- the place in the column u
        pub running_more :
            (inside : u < w) (c : ℕ) → c ≡ get_or numbers (v * w + u) 0 → (r : Run) (m : List ℕ) → RunAfter n c u v run l r m →
            RowSummed w n v (u + 1) numbers work r m
        running_more inside c is r m a =
            let most = f.most (v * w + u) (omega arith) in
            let wide = f.wide in
            let size = a.size in
            let columns = a.columns in
            let fewer = s.size in
            let less = s.columns in
            record {
              kept = untouched-trans 0 (3 * n) work l m s.kept a.kept;
              blocks = a.kept.size ∙ s.blocks;
              number = a.number n (omega arith) s.number;
              size = omega arith;
              columns = omega arith;
              sum =
                  λ k i h.
                  let x = v * w + u in
                  let now = a.sum k i h in
                  let sum = s.sum k i h in
                  let next = ap (sum_at (term_at w k) numbers (suc i)) (add-one x) ∙ sum-next (term_at w k) numbers (suc i) x in
                  let place : term 1 u v k ≡ term_at w k x = sym (ap₂ (λ (y z : ℕ). term 1 y z k) (digits_mod v inside) (digits_div v inside)) in
                  let same = ap₂ (λ (d z : ℕ). pick (eqb d (suc i)) z 0) is place in
                  let e : x + 1 ≡ v * w + (u + 1) = omega arith in
                  let q = ap (sum_at (term_at w k) numbers (suc i)) e in
                  omega arith;
            }

        -- the last run of the row is added
        pub running-end : u ≡ w → (m : List ℕ) → Added n run.number (terms run v) l m → Sums w n (v * w + w) numbers work m
        running-end e m a =
            record {
              kept = untouched-trans 0 (3 * n) work l m s.kept a.kept;
              blocks = a.kept.size ∙ s.blocks;
              sum = λ k i h. a.sum k i h ∙ (s.sum k i h ∙ ap (λ (z : ℕ). sum_at (term_at w k) numbers (suc i) (v * w + z)) e);
            }
