-- Rows written one after the other: the bounds of a row, and what the loop over the rows keeps.
use mathlib.Core.Path.{◌≡◌, sym, ap, subst, ◌∙◌}
use mathlib.Core.List.{List, flat_map}
use Prim.Native.Nat.{ℕ, suc, ◌+◌, ◌-◌, ◌*◌, ◌≤◌, ◌<◌}
use native.Mathlib.Nat.{mul-le-mul_right}
use native.Mathlib.Omega.{arith}
use lib.ListN.{length, take, drop}
use Rattle.lists.specs.Lists.{range, over}
use Rattle.lists.specs.Writing.{Written}
use Rattle.lists.proofs.Writings.{lines_none, lines_next, written-length, written-front}
use Rattle.picture.proofs.Sides.{area-most}
use Rattle.stored_rows.specs.Rows.{row_at}
use Rattle.stored_rows.specs.Steps.{RowFits, Fits}
use Rattle.stored_rows.proofs.EqualRows.{row-length}

-- a row lies within the places, of which there are at most 1,600
pub record RowInside (w h r : ℕ) : Type 0 where
  pub within : r * w + w ≤ w * h
  pub few : w * h ≤ 1600

-- the part of a slice that is a row
pub row-part : (w r : ℕ) (xs : List ℕ) → take (r * w + w - r * w) (drop (r * w) xs) ≡ row_at w xs r
row-part w r xs = let n : r * w + w - r * w ≡ w = omega arith in ap (λ (m : ℕ). take m (drop (r * w) xs)) n

module _ {w h : ℕ} {bytes out : List ℕ} (f : Fits w h bytes out) where
  pub inside : (r : ℕ) → r < h → RowInside w h r
  inside r l =
      let m : suc r * w ≤ h * w = mul-le-mul_right w l in
      record { within = omega arith; few = area-most w h f.wide f.high }

  -- row i has room in the output
  pub row_fits : (i : ℕ) → i < h → RowFits w (i * w) (length out)
  row_fits i l = let r = inside i l in record { within = omega (arith, r.within, f.room); few = omega (arith, r.within, r.few) }

  -- the part of the bytes that is a row
  pub part_length : (r : ℕ) → r < h → length (take (r * w + w - r * w) (drop (r * w) bytes)) ≡ w
  part_length r l = ap length (row-part w r bytes) ∙ row-length w h bytes f.count r l

  -- the same with another output of that length
  pub fits_after : {out' : List ℕ} → length out' ≡ length out → Fits w h bytes out'
  fits_after e = record { wide = f.wide; high = f.high; count = f.count; room = omega (arith, f.room) }

-- a row has room where another of that length has
pub fits-as-long : {n m at room : ℕ} → m ≡ n → RowFits n at room → RowFits m at room
fits-as-long {at = at} {room} e f = subst (λ (k : ℕ). RowFits k at room) (sym e) f

-- what was written of such a part, said of the row
pub written_row :
    {at w : ℕ} {part row out out' : List ℕ} (f : List ℕ → List ℕ) → part ≡ row → length part ≡ w →
    Written at (f part) out (at + length part) out' → Written at (f row) out (at + w) out'
written_row {at} {w} {part} {row} {out} {out'} f e l v =
    subst (λ (n : ℕ). Written at (f row) out (at + n) out') l
    (subst (λ (xs : List ℕ). Written at (f xs) out (at + length part) out') e v)

-- the first i rows are written
pub record RowsBegun (row : ℕ → List ℕ) (w h : ℕ) (entry : List ℕ) (i : ℕ) (out : List ℕ) : Type 0 where
  pub within : i ≤ h
  pub written : Written 0 (flat_map row (range 0 i)) entry (i * w) out

module _ {row : ℕ → List ℕ} {w h : ℕ} {entry : List ℕ} where
  pub rows_start : RowsBegun row w h entry 0 entry
  rows_start =
      record {
        within = omega arith;
        written = subst (λ (n : ℕ). Written 0 (flat_map row (range 0 0)) entry n entry) (omega arith) (lines_none row entry 0);
      }

  pub rows-room : {i : ℕ} {out : List ℕ} → w * h ≤ length entry → RowsBegun row w h entry i out → length out ≡ length entry
  rows-room {i} r b =
      let m : i * w ≤ h * w = mul-le-mul_right w b.within in
      written-length (omega arith) b.written

  pub rows-turn :
      {i : ℕ} {out out' : List ℕ} → RowsBegun row w h entry i out → i < h → Written (i * w) (row i) out (i * w + w) out' →
      RowsBegun row w h entry (i + 1) out'
  rows-turn {i} {out} {out'} b l v =
      let n : i * w + w ≡ (i + 1) * w = omega arith in
      record {
        within = omega arith;
        written =
            subst (λ (m : ℕ). Written 0 (flat_map row (range 0 (i + 1))) entry m out') n
            (lines_next row entry out out' 0 (i * w) (i * w + w) i (omega arith) b.written v);
      }

  pub rows_end : {i : ℕ} {out : List ℕ} → RowsBegun row w h entry i out → h ≤ i → out ≡ over (flat_map row (range 0 h)) entry
  rows_end {i} b l =
      let e : i ≡ h = omega (arith, b.within) in
      written-front b.written ∙ ap (λ (n : ℕ). over (flat_map row (range 0 n)) entry) e
