-- A row written entry by entry: what the loops keep that write differences or sums.
use mathlib.Core.Path.{◌≡◌, refl, sym, ap, subst, ◌∙◌}
use mathlib.Core.List.{List, [], ◌∷◌}
use Prim.Native.Nat.{ℕ, ◌+◌, ◌≤◌, ◌<◌}
use native.Mathlib.Numerals.{add-one}
use native.Mathlib.Omega.{arith}
use lib.ListN.{length, get_or, take, set}
use lib.Seq.{length-take-le, take_all}
use Rattle.lists.specs.Writing.{Written}
use Rattle.lists.proofs.Writings.{written_none, written-length, written_next}

-- the first i of the entries `new` are written from `at` on; `left` is the last of the pixels passed, 0 before the first
pub record RowBegun (new pixels : List ℕ) (at : ℕ) (entry : List ℕ) (left i : ℕ) (out : List ℕ) : Type 0 where
  pub within : i ≤ length new
  pub last : left ≡ get_or (0 ∷ pixels) i 0
  pub written : Written at (take i new) entry (at + i) out

pub row-start : {new pixels entry : List ℕ} {at : ℕ} → RowBegun new pixels at entry 0 0 entry
row-start {entry = entry} {at} =
    record {
      within = omega arith;
      last = refl;
      written = subst (λ (n : ℕ). Written at [] entry n entry) (omega arith) (written_none entry at);
    }

-- n entries, for which there is room
module _ {new pixels entry : List ℕ} {at n : ℕ} (long : length new ≡ n) (room : at + n ≤ length entry) where
  pub row_room : {left i : ℕ} {out : List ℕ} → RowBegun new pixels at entry left i out → length out ≡ length entry
  row_room {i = i} b = let w = b.written in written-length (omega (arith, w.end, length-take-le i new b.within, b.within)) w

  pub row-turn :
      {left i value next : ℕ} {out : List ℕ} → RowBegun new pixels at entry left i out → i < n → value ≡ get_or new i 0 →
      next ≡ get_or pixels i 0 → RowBegun new pixels at entry next (i + 1) (set out (at + i) value)
  row-turn {i = i} {value} {next} {out} b h e g =
      record {
        within = omega arith;
        last = g ∙ ap (λ (m : ℕ). get_or (0 ∷ pixels) m 0) (sym (add-one i));
        written =
            subst (λ (x : ℕ). Written at (take (i + 1) new) entry (at + (i + 1)) (set out (at + i) x)) (sym e)
            (written_next new entry out at i (omega arith) (omega arith) b.written);
      }

  pub row-end :
      {left i : ℕ} {out : List ℕ} → RowBegun new pixels at entry left i out → n ≤ i → Written at new entry (at + n) out
  row-end {i = i} {out} b h =
      let e : i ≡ n = omega (arith, b.within) in
      subst (λ (m : ℕ). Written at new entry (at + m) out) e
      (subst (λ (xs : List ℕ). Written at xs entry (at + i) out) (take_all i new (omega arith)) b.written)
