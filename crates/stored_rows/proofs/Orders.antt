-- The order of the rows in the store: which row stands at a position, and at which position a row stands.
use mathlib.Core.Path.{◌≡◌, refl, sym, ap, ◌∙◌}
use mathlib.Core.Bool.{true, false, not}
use mathlib.Core.List.{◌++◌, map}
use Prim.Native.Nat.{ℕ, zero, suc, ◌+◌, ◌-◌, ◌*◌, ◌/◌, ◌%◌, ◌<◌}
use native.Mathlib.Nat.{zero-add}
use native.Mathlib.Omega.{arith}
use borrow.Author.Tests.{eqb-true, eqb-false, eq-eqb, ltb-true, ltb-false}
use lib.Dec.{eqb, ltb}
use lib.ListN.{length, get_or, length-append, length-map, get_or-append}
use lib.Seq.{ext_get_or, get_or-append-add}
use Rattle.lists.specs.Lists.{tally, select, range, index_from}
use Rattle.lists.proofs.Tests.{on_test, test-false}
use Rattle.lists.proofs.Lists.{length-select, tally-none, length-range, get_or-map-range}
use Rattle.lists.proofs.Positions.{tally-next-in, tally-next-out, select-index, index-first}
use Rattle.lists.proofs.Indices.{mem_index, one_index}
use Rattle.stored_rows.specs.Rows.{is_even, is_odd, row_order}
use Rattle.stored_rows.specs.Steps.{even_rows, position_of, row_at_position}
use Rattle.stored_rows.specs.Restoring.{OrderKeepsRows}

even_is : (r : ℕ) → is_even r ≡ true → r % 2 ≡ 0
even_is r e = eqb-true (r % 2) 0 e

odd_is : (r : ℕ) → is_even r ≡ false → r % 2 ≡ 1
odd_is r e = let n = eqb-false (r % 2) 0 e in omega arith

-- how many even and how many odd rows there are below h
tally-even : (h : ℕ) → tally is_even (range 0 h) ≡ even_rows h
tally-even zero = refl
tally-even (suc h) =
    let r = tally-even h in
    on_test (is_even h)
    (λ e. let q = tally-next-in is_even h e in let p = even_is h e in omega arith)
    (λ e. let q = tally-next-out is_even h e in let p = odd_is h e in omega arith)

tally-odd : (h : ℕ) → tally is_odd (range 0 h) ≡ h / 2
tally-odd zero = refl
tally-odd (suc h) =
    let r = tally-odd h in
    on_test (is_even h)
    (λ e. let q = tally-next-out is_odd h (ap not e) in let p = even_is h e in omega arith)
    (λ e. let q = tally-next-in is_odd h (ap not e) in let p = odd_is h e in omega arith)

position-even : (h r : ℕ) → is_even r ≡ true → position_of h r ≡ r / 2
position-even h r e = rw e

position-odd : (h r : ℕ) → is_even r ≡ false → position_of h r ≡ even_rows h + r / 2
position-odd h r e = rw e

order-length : (h : ℕ) → length (row_order h) ≡ h
unfolding row_order
order-length h =
    let a = length-select is_even (range 0 h) ∙ tally-even h in
    let b = length-select is_odd (range 0 h) ∙ tally-odd h in
    rw length-append (omega arith)

-- a row stands at its position
order-position : (h r : ℕ) → r < h → get_or (row_order h) (position_of h r) 0 ≡ r
unfolding row_order
order-position h r l =
    let a = select is_even (range 0 h) in
    let b = select is_odd (range 0 h) in
    let long = length-select is_even (range 0 h) ∙ tally-even h in
    on_test (is_even r)
    (λ e.
    let (m, g) = select-index is_even 0 h r l e in
    let p = even_is r e in
    let t = tally-even r in
    let i : position_of h r ≡ tally is_even (range 0 r) = position-even h r e ∙ omega arith in
    ap (λ (j : ℕ). get_or (a ++ b) j 0) i ∙ get_or-append a b 0 (tally is_even (range 0 r)) m ∙ g)
    (λ e.
    let (m, g) = select-index is_odd 0 h r l (ap not e) in
    let t = tally-odd r in
    let i : position_of h r ≡ length a + tally is_odd (range 0 r) = position-odd h r e ∙ omega arith in
    ap (λ (j : ℕ). get_or (a ++ b) j 0) i ∙ get_or-append-add a b (tally is_odd (range 0 r)) 0 ∙ g)

pub position-below : (h r : ℕ) → r < h → position_of h r < h
position-below h r l =
    on_test (is_even r)
    (λ e. let p = even_is r e in omega (arith, position-even h r e))
    (λ e. let p = odd_is r e in omega (arith, position-odd h r e))

-- the row at a position, both ways
pub row_below : (h i : ℕ) → i < h → row_at_position h i < h
row_below h i l =
    on_test (ltb i (even_rows h))
    (λ e. let p = ltb-true i (even_rows h) e in rw e (omega arith))
    (λ e. let p = ltb-false i (even_rows h) e in rw e (omega arith))

pub position-row : (h i : ℕ) → i < h → position_of h (row_at_position h i) ≡ i
position-row h i l =
    on_test (ltb i (even_rows h))
    (λ e.
    let p = ltb-true i (even_rows h) e in
    let r : row_at_position h i ≡ 2 * i = rw e in
    ap (position_of h) r ∙ position-even h (2 * i) (eq-eqb (2 * i % 2) 0 (omega arith)) ∙ omega arith)
    (λ e.
    let p = ltb-false i (even_rows h) e in
    let q = 2 * (i - even_rows h) + 1 in
    let r : row_at_position h i ≡ q = rw e in
    ap (position_of h) r ∙ position-odd h q (test-false (is_even q) (λ z. let o = even_is q z in omega arith)) ∙ omega arith)

order-at : (h i : ℕ) → i < h → get_or (row_order h) i 0 ≡ row_at_position h i
order-at h i l =
    ap (λ (j : ℕ). get_or (row_order h) j 0) (sym (position-row h i l)) ∙ order-position h (row_at_position h i) (row_below h i l)

pub row-position : (h r : ℕ) → r < h → row_at_position h (position_of h r) ≡ r
row-position h r l = sym (order-at h (position_of h r) (position-below h r l)) ∙ order-position h r l

-- the order of the rows by positions
pub order-rows : (h : ℕ) → row_order h ≡ map (row_at_position h) (range 0 h)
order-rows h =
    let l = length-map (range 0 h) (row_at_position h) ∙ length-range 0 h in
    ext_get_or 0 (row_order h) (map (row_at_position h) (range 0 h)) (order-length h ∙ sym l)
    (λ i b.
    let k : i < h = omega (arith, order-length h) in
    order-at h i k ∙ ap (row_at_position h) (sym (zero-add i)) ∙ sym (get_or-map-range (row_at_position h) 0 0 h i k))

-- no row stands at two positions
order-once : (h r i : ℕ) → i < h → get_or (row_order h) i 0 ≡ r → i ≡ position_of h r
order-once h r i l e = sym (position-row h i l) ∙ ap (position_of h) (sym (order-at h i l) ∙ e)

-- a row is found in the order at its position
pub index-order : (h r : ℕ) → r < h → index_from h 0 (eqb r) (row_order h) ≡ position_of h r
index-order h r l =
    let b = position-below h r l in
    let z = order-length h in
    index-first (eqb r) 0 h 0 (row_order h) (position_of h r) (omega arith)
    (eq-eqb r _ (sym (order-position h r l)))
    (λ k c. test-false (eqb r (get_or (row_order h) k 0))
    (λ t. let o = order-once h r k (omega arith) (sym (eqb-true r _ t)) in omega arith))
    ∙ omega arith

-- each row below h stands in the order exactly once, and no other number
pub order-keeps-rows : OrderKeepsRows
order-keeps-rows h r =
    let z = order-length h in
    on_test (ltb r h)
    (λ e.
    let l = ltb-true r h e in
    let b = position-below h r l in
    one_index (eqb r) 0 (row_order h) (position_of h r) (omega arith) (eq-eqb r _ (sym (order-position h r l)))
    (λ j c t. order-once h r j (omega arith) (sym (eqb-true r _ t)))
    ∙ rw e)
    (λ e.
    let l = ltb-false r h e in
    tally-none (eqb r) (row_order h)
    (λ x m.
    let (i, b, q) = mem_index 0 m in
    test-false (eqb r x)
    (λ t. let s = eqb-true r x t in let k = order-at h i (omega arith) in let w = row_below h i (omega arith) in omega arith))
    ∙ rw e)
