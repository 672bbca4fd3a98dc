-- A list whose first i entries are written anew, one after the other.
use mathlib.Core.Path.{◌≡◌, sym, ap, ◌∙◌}
use mathlib.Core.List.{List, [], ◌∷◌, ◌++◌, map, map-append, append_assoc}
use Prim.Native.Nat.{ℕ, suc, ◌+◌, ◌≤◌, ◌<◌}
use native.Mathlib.Omega.{arith}
use lib.ListN.{length, get_or, drop, set, length-append, length-drop, length-map}
use lib.Seq.{drop-cons, set_at}
use Rattle.lists.specs.Lists.{range, over}
use Rattle.lists.proofs.Lists.{length-range, range-next}
use Rattle.lists.proofs.Cuts.{over-cut}

module _ {A : Type 0} (f : ℕ → A) where
  -- the values at the first i numbers, and behind them the list as it was
  abbrev pub written : ℕ → List A → List A
  written i xs = map f (range 0 i) ++ drop i xs

  length_front : (i : ℕ) → length (map f (range 0 i)) ≡ i
  length_front i = length-map (range 0 i) f ∙ length-range 0 i

  pub length-written : (i : ℕ) (xs : List A) → i ≤ length xs → length (written i xs) ≡ length xs
  length-written i xs h =
      let a = length-append (map f (range 0 i)) (drop i xs) in
      let b = length_front i in
      let d = length-drop i xs in
      omega arith

  one_more : (x l : ℕ) (ys : List A) → map f (range x l) ++ (f (x + l) ∷ ys) ≡ map f (range x (suc l)) ++ ys
  one_more x l ys =
      sym
      (ap (λ (r : List ℕ). map f r ++ ys) (range-next x l) ∙
      (ap (λ (r : List A). r ++ ys) (map-append f (range x l) ((x + l) ∷ [])) ∙ append_assoc (map f (range x l)) (f (x + l) ∷ []) ys))

  -- the next value is stored
  pub written_next : (i : ℕ) (xs : List A) → i < length xs → set (written i xs) i (f i) ≡ written (suc i) xs
  written_next i xs h =
      let e : i ≡ 0 + i = omega arith in
      ap (λ (ys : List A). set (map f (range 0 i) ++ ys) i (f i)) (drop-cons xs i (f 0) h) ∙
      (set_at (map f (range 0 i)) (get_or xs i (f 0)) (drop (suc i) xs) (f i) i (length_front i) ∙
      (ap (λ (y : ℕ). map f (range 0 i) ++ (f y ∷ drop (suc i) xs)) e ∙ one_more 0 i (drop (suc i) xs)))

  -- all of them, in front of what follows
  pub written-whole : (i : ℕ) (xs : List A) → written i xs ≡ over (map f (range 0 i)) xs
  written-whole i xs = over-cut i (map f (range 0 i)) (length_front i) xs
