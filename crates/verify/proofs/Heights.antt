-- A height of the check, all heights, and their start.
use Rattle.std.proofs.Common.{Option, Some, None, ◌≡◌, refl, sym, subst, Bool, true, false, inl, List, ℕ, ◌+◌, ◌-◌, ◌≤◌, ◌<◌, add-one, arith, eqb, length, get_or, eqb-true}
use Rattle.std.specs.Option.{option_eq}
use borrow.Author.Tests.{eqb-false}
use Rattle.picture.specs.Pictures.{Picture, places, is_picture}
use Rattle.topology.proofs.Accepted.{accepted-is, places-bound}
use Rattle.topology.proofs.Nodes.{nodes-few}
use Rattle.topology.proofs.Descent.{nodes-some}
use Rattle.tree_laws.proofs.Counts.{so-none}
use Rattle.tree_laws.proofs.Classes.{classes-start}
use Rattle.tree_laws.proofs.Checks.{Checking}
use Rattle.tree_laws.proofs.Decided.{yes, never, decided-yes, decided-never}
use Rattle.lent_tree.specs.Lent.{HoldsTree}
use Rattle.verify.specs.Checked.{IsTreeAnswer}
use Rattle.verify_nodes.specs.NodeChecks.{SameHeights, Counted, Matched, CountReady, NodesChecked, LentMapReady, MapChecked}
use Rattle.verify.specs.Heights.{ListsLong, Verified, LevelChecked}
use Rattle.verify_nodes.proofs.Counted.{counted_start}
use Rattle.verify_nodes.proofs.Matched.{matched-start}
use Rattle.verify.proofs.Verified.{verified-next, verified-tree, tree-ends}

module _ (p : Picture) (count : ℕ) (hs fs ss m : List ℕ) where
  pub verified-start :
      (l : List ℕ) → is_picture p ≡ true → length l ≡ places p → ((y : ℕ) → y < length l → get_or l y 0 ≡ 65535) → Verified p 0 0 count l hs fs ss m
  verified-start l ok size f =
      record {
        checking =
            record {
              ok = accepted-is p ok;
              fa = λ j. 65535;
              classes = classes-start p l (λ j. 65535) size (λ y h. f y (omega arith));
              agree = record { same = λ j h. inl refl };
            };
        number = sym (so-none p);
        most = omega arith;
        heights = λ j h. absurd (omega arith);
        firsts = λ j h. absurd (omega arith);
        map = λ y c h. absurd (omega arith);
      }

  module _ (k c : ℕ) (l : List ℕ) (v : Verified p k c count l hs fs ss m) where
    module _ (low : k < 256) (o : List ℕ) (checked : Checking p k (places p) o fs m) where
      counted : Counted p k c c o fs ss m
      counted = counted_start p k c o fs ss m (omega arith) v.number checked

      pub level-count : CountReady p.pixels k c o ss
      level-count = record { p = p; fs = fs; m = m; is = refl; counted = counted }

      module _ (d : ℕ) (run : SameHeights k c d count hs) (u : List ℕ) (a : Bool) (n : NodesChecked p.pixels k c d o ss u a) where
        pub level-nodes : a ≡ false → HoldsTree p count hs fs ss m → ⊥
        level-nodes g t = decided-never g n p fs m refl counted count hs run t

        module _ (g : a ≡ true) where
          matched : Matched p k c d 0 u fs ss m
          matched = matched-start p k c d u fs ss m (decided-yes g n p fs m refl counted)

          pub level-map : LentMapReady p.pixels k 0 u m
          level-map = record { p = p; c = c; d = d; fs = fs; ss = ss; is = refl; matched = matched }

          pub level-same : length u ≡ places p
          level-same = matched.counted.cells.size

          module _ (w : List ℕ) (i : Bool) (t : MapChecked p.pixels k 0 (length u) u m w i) where
            pub level-mapped : i ≡ false → HoldsTree p count hs fs ss m → ⊥
            level-mapped h tree = decided-never h t p c d fs ss refl matched count hs run tree

            pub level-done : i ≡ true → Verified p (k + 1) d count w hs fs ss m
            level-done h =
                rw add-one
                (verified-next p k c d count l w hs fs ss m v run (length u) (decided-yes h t p c d fs ss refl matched)
                (let z = level-same in omega arith))

-- the answer
module _ (p : Picture) (count : ℕ) (hs fs ss m : List ℕ) where
  pub answer-none : is_picture p ≡ true → count ≡ 0 → IsTreeAnswer p count hs fs ss m false
  answer-none ok e =
      never
      (λ t.
      let some = nodes-some p (accepted-is p ok) in
      let total = t.total in
      omega arith)

  pub answer-many : places p < count → IsTreeAnswer p count hs fs ss m false
  answer-many h = never (λ t. let total = t.total in let few = nodes-few p in omega arith)

  -- the number of nodes is compared with the count, then the last node's father
  module _ (l : List ℕ) where
    pub answer-other : (answer : Option ℕ) → LevelChecked p 255 count l hs fs ss m answer → option_eq eqb answer (Some count) ≡ false → IsTreeAnswer p count hs fs ss m false
    answer-other None v e = never v
    answer-other (Some c) v e = never (λ t. eqb-false c count e (tree-ends p c count l hs fs ss m v t).0)

    pub answer-same : (answer : Option ℕ) → LevelChecked p 255 count l hs fs ss m answer → option_eq eqb answer (Some count) ≡ true → Verified p 256 count count l hs fs ss m
    answer-same None v e = absurd (cc)
    answer-same (Some c) v e = subst (λ (n : ℕ). Verified p 256 n count l hs fs ss m) (eqb-true c count e) v

    pub answer-father : Verified p 256 count count l hs fs ss m → (b : Bool) → eqb (get_or fs (count - 1) 0) 65535 ≡ b → IsTreeAnswer p count hs fs ss m b
    answer-father v true e = yes (verified-tree p count l hs fs ss m v (eqb-true (get_or fs (count - 1) 0) 65535 e))
    answer-father v false e = never (λ t. eqb-false (get_or fs (count - 1) 0) 65535 e (tree-ends p count count l hs fs ss m v t).1)

pub lists-long-of :
    (p : Picture) (n : ℕ) (hs fs ss m l : List ℕ) → is_picture p ≡ true → length l ≡ places p → n ≤ length l → places p ≤ length hs → places p ≤ length fs →
    places p ≤ length ss → places p ≤ length m → ListsLong n p.pixels hs fs ss m l
lists-long-of p n hs fs ss m l ok e h a b c d =
    let k = accepted-is p ok in
    let few = places-bound p k in
    let size = k.size in
    record {
      count = h;
      few = omega arith;
      pixels = omega arith;
      heights = omega arith;
      fathers = omega arith;
      firsts = omega arith;
      map = omega arith;
    }
