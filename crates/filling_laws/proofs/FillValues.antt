-- The values that are read off the settled classes, place by place.
use mathlib.Core.Path.{◌≡◌, refl, sym, ap, ◌∙◌}
use mathlib.Core.List.{List}
use Prim.Native.Nat.{ℕ, ◌+◌, ◌≤◌, ◌<◌}
use native.Mathlib.Omega.{arith}
use lib.ListN.{length, get_or, set, length-set}
use lib.Seq.{ext_get_or}
use Rattle.lists.specs.Blocks.{Overwritten}
use Rattle.lists.proofs.Blocks.{overwritten-start, overwritten-next, overwritten-entry}
use Rattle.picture.specs.Pictures.{Picture, places}
use Rattle.tree_laws.proofs.Forests.{Forest, Found, found-root, found-state}
use Rattle.picture.specs.Filling.{filled_at, filled}
use Rattle.topology.proofs.Filled.{filled-byte, filled-value, filled-length}
use Rattle.filling_laws.proofs.FillLevels.{first_settled, settled_state, fills-end}
use Rattle.filling_laws.proofs.FillSettling.{FillBetween}

-- every class is settled at the filled value of its places
pub record AllSettled (p : Picture) (s : ℕ) (l : List ℕ) : Type 0 where
  pub root : ℕ → ℕ
  pub st : ℕ → ℕ
  pub size : length l ≡ places p
  pub forest : Forest l root st
  pub value : (y : ℕ) → y < places p → st (root y) ≡ settled_state (filled_at p s y)
  pub byte : (y : ℕ) → y < places p → filled_at p s y ≤ 255

pub between-settled : {p : Picture} {s k : ℕ} {l : List ℕ} → FillBetween p s k l → 256 ≤ k → AllSettled p s l
between-settled {p} {s} {k} a b =
    let c = a.classes in
    record {
      root = c.root;
      st = c.st;
      size = c.size;
      forest = c.forest;
      value = fills-end p a.asked.ok s a.asked.few k c.root c.st b c.fills;
      byte = λ y h. filled-byte p a.asked.ok s y a.asked.few h;
    }

-- some picture's filling is in the cells
pub record SettledIn (l : List ℕ) : Type 0 where
  pub p : Picture
  pub s : ℕ
  pub all : AllSettled p s l

-- the value of the place x is v
pub record ValueRead (x : ℕ) (l m : List ℕ) (v : ℕ) : Type 0 where
  pub size : length m ≡ length l
  pub value : (p : Picture) (s : ℕ) → AllSettled p s l → x < places p → v ≡ filled_at p s x
  pub keeps : (p : Picture) (s : ℕ) → AllSettled p s l → AllSettled p s m

module _ {x : ℕ} {l m : List ℕ} {r : ℕ} (f : Found l x r m) where
  -- the state of the root is that of a settled class
  pub read-bounds : SettledIn l → x < length l → (first_settled ≤ get_or m r 0) × (get_or m r 0 < settled_state 256)
  read-bounds e b =
      let a = e.all in
      let z = a.size in
      let c : x < places e.p = omega arith in
      let h : get_or m r 0 ≡ settled_state (filled_at e.p e.s x) = found-state f a.forest ∙ (ap a.st (sym (found-root f a.forest)) ∙ a.value x c) in
      let k = a.byte x c in
      (omega arith, omega arith)

  pub value_read : {v : ℕ} → v + first_settled ≡ get_or m r 0 → ValueRead x l m v
  value_read e =
      record {
        size = f.walked.size;
        value =
            λ p s a b.
            let h : get_or m r 0 ≡ settled_state (filled_at p s x) = found-state f a.forest ∙ (ap a.st (sym (found-root f a.forest)) ∙ a.value x b) in
            omega arith;
        keeps =
            λ p s a.
            record {
              root = a.root;
              st = a.st;
              size = f.walked.size ∙ a.size;
              forest = f.walked.keeps a.root a.st a.forest;
              value = a.value;
              byte = a.byte;
            };
      }

-- all values are written
pub record ValuesWritten (l o : List ℕ) : Type 0 where
  pub values : (p : Picture) (s : ℕ) → AllSettled p s l → o ≡ (filled p s).pixels

-- the values of the places before x are written to the bytes that were o₀
pub record ValuesWalk (l o₀ : List ℕ) (x : ℕ) (m o : List ℕ) : Type 0 where
  pub size : length m ≡ length l
  pub long : length o ≡ length o₀
  pub most : x ≤ length o₀
  pub keeps : (p : Picture) (s : ℕ) → AllSettled p s l → AllSettled p s m
  pub written : (p : Picture) (s : ℕ) → AllSettled p s l → Overwritten (filled_at p s) 0 x o₀ o

pub values-start : {l o₀ : List ℕ} → ValuesWalk l o₀ 0 l o₀
values-start {o₀ = o₀} =
    record {
      size = refl;
      long = refl;
      most = omega arith;
      keeps = λ p s a. a;
      written = λ p s a. overwritten-start (filled_at p s) 0 o₀;
    }

pub values-ready : {l o₀ : List ℕ} {x : ℕ} {m o : List ℕ} → length o₀ ≡ length l → ValuesWalk l o₀ x m o → x < length o → SettledIn l → SettledIn m × (x < length m)
values-ready e w b a =
    let z = w.size in
    let y = w.long in
    (record { p = a.p; s = a.s; all = w.keeps a.p a.s a.all }, omega arith)

pub values-turn :
    {l o₀ : List ℕ} {x : ℕ} {m o n : List ℕ} {v : ℕ} → length o₀ ≡ length l → ValuesWalk l o₀ x m o → x < length o → ValueRead x m n v →
    ValuesWalk l o₀ (x + 1) n (set o x v)
values-turn {o₀ = o₀} {x} {o = o} {v = v} e w b r =
    let y = w.long in
    record {
      size = r.size ∙ w.size;
      long = length-set o x v ∙ w.long;
      most = omega arith;
      keeps = λ p s a. r.keeps p s (w.keeps p s a);
      written =
          λ p s a.
          let z = a.size in
          overwritten-next (filled_at p s) x v o₀ o (omega arith) (r.value p s (w.keeps p s a) (omega arith)) (w.written p s a);
    }

pub values-end : {l o₀ : List ℕ} {x : ℕ} {m o : List ℕ} → length o₀ ≡ length l → ValuesWalk l o₀ x m o → length o ≤ x → ValuesWritten l o
values-end {o = o} e w b =
    record {
      values =
          λ p s a.
          let y = w.long in
          let z = a.size in
          let k = filled-length p s in
          ext_get_or 0 o (filled p s).pixels (omega arith)
          (λ i h. overwritten-entry (w.written p s a) i (omega arith) ∙ sym (filled-value p s i (omega arith)));
    }
