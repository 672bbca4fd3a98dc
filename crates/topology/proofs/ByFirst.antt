-- Nodes sorted by first place: the same nodes, and if their first places differ these rise.
use mathlib.Core.Path.{◌≡◌, refl, sym, subst}
use mathlib.Core.Logic.{◌⊎◌, inl, inr, ⊎_elim, ◌≢◌}
use mathlib.Core.List.Memᴰ
use mathlib.Core.List.{List, [], ◌∷◌, map, Memᴰ}
use Prim.Native.Nat.{ℕ, ◌≤◌}
use native.Mathlib.Omega.{arith}
use lib.Dec.{ltb}
use borrow.Author.Tests.{ltb-true, ltb-false}
use Rattle.picture.specs.Trees.{Node}
use Rattle.picture.specs.Patches.{insert_by_first, by_first}
use Rattle.lists.proofs.Tests.{on-elim}
use Rattle.lists.proofs.Rising.{Rising, none, more}

-- a node of the sorted list is one of the list
insert-mem : {n : Node} (m : Node) (ns : List Node) → Memᴰ n (insert_by_first m ns) → (n ≡ m) ⊎ Memᴰ n ns
insert-mem m [] i = Memᴰ.cases_cons i
insert-mem {n} m (k ∷ ks) i =
    on-elim (λ (l : List Node). Memᴰ n l → (n ≡ m) ⊎ Memᴰ n (k ∷ ks)) (ltb m.first k.first)
    (λ e i. Memᴰ.cases_cons i)
    (λ e i.
    ⊎_elim
    (λ q. inr (Memᴰ.head q))
    (λ j. ⊎_elim inl (λ q. inr (Memᴰ.tail q)) (insert-mem m ks j))
    (Memᴰ.cases_cons i))
    i

pub by-first-mem : {n : Node} (ns : List Node) → Memᴰ n (by_first ns) → Memᴰ n ns
by-first-mem [] i = i
by-first-mem (m ∷ ms) i =
    ⊎_elim (λ e. Memᴰ.head e) (λ j. Memᴰ.tail (by-first-mem ms j)) (insert-mem m (by_first ms) i)

-- nodes with different first places
pub data Apart : List Node → Type 0 where
  alone : Apart []
  beside : {n : Node} {ns : List Node} → ((m : Node) → Memᴰ m ns → m.first ≢ n.first) → Apart ns → Apart (n ∷ ns)

-- their first places
abbrev pub firsts : List Node → List ℕ
firsts ns = map (λ n. n.first) ns

insert-rising :
    {a : ℕ} (n : Node) (ns : List Node) → Rising a (firsts ns) → a ≤ n.first →
    ((m : Node) → Memᴰ m ns → m.first ≢ n.first) → Rising a (firsts (insert_by_first n ns))
insert-rising n [] r h f = more h none
insert-rising {a} n (m ∷ ms) (more g r) h f =
    on-elim (λ (l : List Node). Rising a (firsts l)) (ltb n.first m.first)
    (λ e. more h (more (ltb-true n.first m.first e) r))
    (λ e.
    let d = f m (Memᴰ.head refl) in
    let b = ltb-false n.first m.first e in
    more g (insert-rising n ms r (omega arith) (λ k i. f k (Memᴰ.tail i))))

pub by-first-rising : {ns : List Node} → Apart ns → Rising 0 (firsts (by_first ns))
by-first-rising alone = none
by-first-rising (beside {n} {ns} f a) =
    insert-rising n (by_first ns) (by-first-rising a) (omega arith) (λ m i. f m (by-first-mem ns i))

-- every node of the list stays
insert-head : (n : Node) (ns : List Node) → Memᴰ n (insert_by_first n ns)
insert-head n [] = Memᴰ.head refl
insert-head n (m ∷ ms) =
    on-elim (λ (l : List Node). Memᴰ n l) (ltb n.first m.first)
    (λ e. Memᴰ.head refl)
    (λ e. Memᴰ.tail (insert-head n ms))

insert-tail : {k : Node} (n : Node) (ns : List Node) → Memᴰ k ns → Memᴰ k (insert_by_first n ns)
insert-tail n [] i = Memᴰ.tail i
insert-tail {k} n (m ∷ ms) i =
    on-elim (λ (l : List Node). Memᴰ k l) (ltb n.first m.first)
    (λ e. Memᴰ.tail i)
    (λ e. ⊎_elim (λ q. Memᴰ.head q) (λ j. Memᴰ.tail (insert-tail n ms j)) (Memᴰ.cases_cons i))

pub mem-by-first : {k : Node} (ns : List Node) → Memᴰ k ns → Memᴰ k (by_first ns)
mem-by-first [] i = i
mem-by-first {k} (n ∷ ns) i =
    ⊎_elim
    (λ q. subst (λ (m : Node). Memᴰ m (insert_by_first n (by_first ns))) (sym q) (insert-head n (by_first ns)))
    (λ j. insert-tail n (by_first ns) (mem-by-first ns j))
    (Memᴰ.cases_cons i)
