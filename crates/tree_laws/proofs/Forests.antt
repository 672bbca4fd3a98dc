-- Union-find in a list of cells: a cell below first_node is a parent, a smaller place; a greater one marks a root with its state.
use mathlib.Core.Path.{◌≡◌, refl, sym, ap, subst, ◌∙◌}
use mathlib.Core.Logic.{by_cases, ◌≢◌}
use mathlib.Core.List.{List}
use Prim.Native.Nat.{ℕ, ◌≤◌, ◌<◌}
use native.Mathlib.Decide.{ℕ_discrete, dec_lt}
use native.Mathlib.Omega.{arith}
use lib.ListN.{length, get_or, set, length-set}
use lib.Seq.{get_or-set_same, get_or-set_other}
use Rattle.lists.proofs.Updates.{put, put_same, put_other}
use Rattle.tree_laws.proofs.Levels.{relink, relink-moved, relink-kept, relink-same}
use Rattle.tree_laws.proofs.States.{first_node}

-- every parent is a smaller place
pub record Parents (l : List ℕ) : Type 0 where
  pub less : (x : ℕ) → x < length l → get_or l x 0 < first_node → get_or l x 0 < x

-- the cells hold the roots of a forest and their states
pub record Forest (l : List ℕ) (root st : ℕ → ℕ) : Type 0 where
  pub parents : Parents l
  pub below : (x : ℕ) → x < length l → root x ≤ x
  pub up : (x : ℕ) → x < length l → get_or l x 0 < first_node → root (get_or l x 0) ≡ root x
  pub top : (x : ℕ) → x < length l → first_node ≤ get_or l x 0 → root x ≡ x
  pub state : (x : ℕ) → x < length l → first_node ≤ get_or l x 0 → get_or l x 0 ≡ st x

-- a root's cell is no parent
pub root-cell : {l : List ℕ} {root st : ℕ → ℕ} → Forest l root st → (x : ℕ) → x < length l → root x ≡ x → first_node ≤ get_or l x 0
root-cell {l} f x b e =
    by_cases (dec_lt (get_or l x 0) first_node)
    (λ h.
    absurd
    (let a = f.parents.less x b h in
    let c = f.up x b h in
    let d = f.below (get_or l x 0) (omega arith) in
    omega arith))
    (λ h. omega arith)

-- r is a place in the same class as x, and the cells after it hold the same forest
pub record Walked (l : List ℕ) (x r : ℕ) (m : List ℕ) : Type 0 where
  pub size : length m ≡ length l
  pub within : r < length l
  pub parents : Parents m
  pub keeps : (root st : ℕ → ℕ) → Forest l root st → Forest m root st
  pub same : (root st : ℕ → ℕ) → Forest l root st → root x ≡ root r

-- a step up, to a smaller place
pub record Split (l : List ℕ) (x r : ℕ) (m : List ℕ) : Type 0 where
  pub walked : Walked l x r m
  pub less : r < x

-- r is the root of x
pub record Found (l : List ℕ) (x r : ℕ) (m : List ℕ) : Type 0 where
  pub walked : Walked l x r m
  pub top : first_node ≤ get_or m r 0

module _ {l m : List ℕ} {x r : ℕ} {root st : ℕ → ℕ} (f : Found l x r m) (forest : Forest l root st) where
  inside : r < length m
  inside = let w = f.walked in let s = w.size in let b = w.within in omega arith

  pub found-root : root x ≡ r
  found-root = f.walked.same root st forest ∙ (f.walked.keeps root st forest).top r inside f.top

  pub found-state : get_or m r 0 ≡ st r
  found-state = (f.walked.keeps root st forest).state r inside f.top

pub walk_start : (l : List ℕ) (x : ℕ) → x < length l → Parents l → Walked l x x l
walk_start l x b h =
    record { size = refl; within = b; parents = h; keeps = λ root st f. f; same = λ root st f. refl }

pub walk_turn : (l m o : List ℕ) (x i r : ℕ) → Walked l x i m → Walked m i r o → Walked l x r o
walk_turn l m o x i r a b =
    let s = a.size in
    let t = b.within in
    record {
      size = b.size ∙ a.size;
      within = omega arith;
      parents = b.parents;
      keeps = λ root st f. b.keeps root st (a.keeps root st f);
      same = λ root st f. a.same root st f ∙ b.same root st (a.keeps root st f);
    }

pub walk_end : (l m : List ℕ) (x r : ℕ) → Walked l x r m → first_node ≤ get_or m r 0 → Found l x r m
walk_end l m x r a h = record { walked = a; top = h }

module _ (l : List ℕ) (x : ℕ) (b : x < length l) (h : Parents l) (low : get_or l x 0 < first_node) where
  -- to the parent, with no cell changed
  split-stay : Split l x (get_or l x 0) l
  split-stay =
      let g = h.less x b low in
      record {
        walked =
            record {
              size = refl;
              within = omega arith;
              parents = h;
              keeps = λ root st f. f;
              same = λ root st f. sym (f.up x b low);
            };
        less = g;
      }

  -- to the parent, with the grandparent as the new parent
  split-move : get_or l (get_or l x 0) 0 < first_node → Split l x (get_or l x 0) (set l x (get_or l (get_or l x 0) 0))
  split-move mid =
      let g = h.less x b low in
      record {
        walked =
            record {
              size = length-set l x grand;
              within = omega arith;
              parents = parents;
              keeps = kept;
              same = λ root st f. sym (f.up x b low);
            };
        less = g;
      }
    where
      grand : ℕ
      grand = get_or l (get_or l x 0) 0

      smaller : (y : ℕ) → y < length l → get_or (set l x grand) y 0 < first_node → get_or (set l x grand) y 0 < y
      smaller y c =
          by_cases (ℕ_discrete y x)
          (λ e q.
          let s = ap (λ (z : ℕ). get_or (set l x grand) z 0) e ∙ get_or-set_same l x grand 0 b in
          let g = h.less x b low in
          let t = h.less (get_or l x 0) (omega arith) mid in
          omega (arith, s, e, t))
          (λ d q. let s = get_or-set_other l x y grand 0 d in let t = h.less y c (omega arith) in omega arith)

      parents : Parents (set l x grand)
      parents = record { less = λ y c. smaller y (subst (λ (n : ℕ). y < n) (length-set l x grand) c) }

      kept : (root st : ℕ → ℕ) → Forest l root st → Forest (set l x grand) root st
      kept root st f =
          record {
            below = λ y c. f.below y (subst (λ (n : ℕ). y < n) (length-set l x grand) c);
            parents = parents;
            up = λ y c q. up y (subst (λ (n : ℕ). y < n) (length-set l x grand) c) q;
            top = λ y c q. f.top y (subst (λ (n : ℕ). y < n) (length-set l x grand) c) (other y q).1;
            state = λ y c q. (other y q).0 ∙ f.state y (subst (λ (n : ℕ). y < n) (length-set l x grand) c) (other y q).1;
          }
        where
          other : (y : ℕ) → first_node ≤ get_or (set l x grand) y 0 → (get_or (set l x grand) y 0 ≡ get_or l y 0) × (first_node ≤ get_or l y 0)
          other y q =
              by_cases (ℕ_discrete y x)
              (λ e.
              absurd
              (let s : get_or (set l x grand) y 0 ≡ grand = ap (λ (z : ℕ). get_or (set l x grand) z 0) e ∙ get_or-set_same l x grand 0 b in
              let t : grand < first_node = mid in
              omega (arith, s, t, q)))
              (λ d. let s = get_or-set_other l x y grand 0 d in (s, omega arith))

          up : (y : ℕ) → y < length l → get_or (set l x grand) y 0 < first_node → root (get_or (set l x grand) y 0) ≡ root y
          up y c q =
              by_cases (ℕ_discrete y x)
              (λ e.
              let s : get_or (set l x grand) y 0 ≡ grand = ap (λ (z : ℕ). get_or (set l x grand) z 0) e ∙ get_or-set_same l x grand 0 b in
              let g = h.less x b low in
              ap root s ∙ (f.up (get_or l x 0) (omega arith) mid ∙ (f.up x b low ∙ ap root (sym e))))
              (λ d. let s = get_or-set_other l x y grand 0 d in ap root s ∙ f.up y c (omega arith))

  pub split-end : (u : ℕ) → u ≡ get_or l x 0 → Split l x u l
  split-end u e = subst (λ (v : ℕ). Split l x v l) (sym e) split-stay

  pub split-up : (u : ℕ) → u ≡ get_or l x 0 → get_or l u 0 < first_node → Split l x u (set l x (get_or l u 0))
  split-up u e h =
      subst (λ (v : ℕ). Split l x v (set l x (get_or l v 0))) (sym e) (split-move (subst (λ (v : ℕ). get_or l v 0 < first_node) e h))

-- two roots, the smaller first
pub data Ordered (q r : ℕ) : ℕ → ℕ → Type 0 where
  below : q < r → Ordered q r q r
  above : r < q → Ordered q r r q

pub ordered-less : {q r lo hi : ℕ} → Ordered q r lo hi → lo < hi
ordered-less (below h) = h
ordered-less (above h) = h

pub ordered-most : {q r lo hi : ℕ} → Ordered q r lo hi → lo ≤ r
ordered-most (below h) = omega arith
ordered-most (above h) = omega arith

pub ordered : (q r : ℕ) → q ≢ r → (lo : ℕ) × (hi : ℕ) × Ordered q r lo hi
ordered q r d = by_cases (dec_lt q r) (λ h. (q, r, below h)) (λ h. (r, q, above (omega arith)))

-- what holds of two roots in either order holds of them with the smaller first
pub in_order : {q r lo hi : ℕ} (P : ℕ → ℕ → Type 0) → ((a b : ℕ) → P a b → P b a) → Ordered q r lo hi → P q r → P lo hi
in_order P exchange (below h) f = f
in_order {q} {r} P exchange (above h) f = exchange q r f

-- the greater of two roots linked below the smaller, lo, which gets the state s
pub record Linked (q r s : ℕ) (l m : List ℕ) (lo : ℕ) : Type 0 where
  pub hi : ℕ
  pub order : Ordered q r lo hi
  pub cells : m ≡ set (set l hi lo) lo s

pub linked-size : {q r s lo : ℕ} {l m : List ℕ} → Linked q r s l m lo → length m ≡ length l
linked-size {s = s} {lo = lo} {l = l} h =
    ap length h.cells ∙ (length-set (set l h.hi lo) lo s ∙ length-set l h.hi lo)

pub linked-below : (q r s : ℕ) (l : List ℕ) → q < r → Linked q r s l (set (set l r q) q s) q
linked-below q r s l h = record { hi = r; order = below h; cells = refl }

pub linked-above : (q r s : ℕ) (l : List ℕ) → r < q → Linked q r s l (set (set l q r) r s) r
linked-above q r s l h = record { hi = q; order = above h; cells = refl }

-- the class of hi linked below lo, which gets the state s
pub forest-link :
    (l : List ℕ) (lo hi s : ℕ) (root st : ℕ → ℕ) → Forest l root st → lo < hi → hi < length l → lo < first_node → root lo ≡ lo → root hi ≡ hi → first_node ≤ s →
    Forest (set (set l hi lo) lo s) (relink root lo hi) (put st lo s)
forest-link l lo hi s root st f less b small at-lo at-hi big =
    record {
      below = λ y c. below y (bound y c);
      parents = record { less = λ y c. (by y (bound y c)).0 };
      up = λ y c. (by y (bound y c)).1;
      top = λ y c q. (high y (bound y c) q).0;
      state = λ y c q. (high y (bound y c) q).1;
    }
  where
    bound : (y : ℕ) → y < length (set (set l hi lo) lo s) → y < length l
    bound y c = let a = length-set (set l hi lo) lo s in let d = length-set l hi lo in omega arith

    cell-lo : get_or (set (set l hi lo) lo s) lo 0 ≡ s
    cell-lo = get_or-set_same (set l hi lo) lo s 0 (let d = length-set l hi lo in omega arith)

    cell-hi : get_or (set (set l hi lo) lo s) hi 0 ≡ lo
    cell-hi = get_or-set_other (set l hi lo) lo hi s 0 (λ e. omega arith) ∙ get_or-set_same l hi lo 0 b

    cell_other : (y : ℕ) → y ≢ lo → y ≢ hi → get_or (set (set l hi lo) lo s) y 0 ≡ get_or l y 0
    cell_other y d e = get_or-set_other (set l hi lo) lo y s 0 d ∙ get_or-set_other l hi y lo 0 e

    below : (y : ℕ) → y < length l → relink root lo hi y ≤ y
    below y c =
        let a = f.below y c in
        by_cases (ℕ_discrete (root y) hi)
        (λ e. let g = relink-moved root lo hi y e in omega arith)
        (λ d. let g = relink-kept root lo hi y d in omega arith)

    lo-other : root lo ≢ hi
    lo-other e = omega arith

    by : (y : ℕ) → y < length l →
        (get_or (set (set l hi lo) lo s) y 0 < first_node → get_or (set (set l hi lo) lo s) y 0 < y) ×
        (get_or (set (set l hi lo) lo s) y 0 < first_node → relink root lo hi (get_or (set (set l hi lo) lo s) y 0) ≡ relink root lo hi y)
    by y c =
        by_cases (ℕ_discrete y lo)
        (λ e.
        let g : get_or (set (set l hi lo) lo s) y 0 ≡ s = ap (λ (z : ℕ). get_or (set (set l hi lo) lo s) z 0) e ∙ cell-lo in
        (λ q. absurd (omega arith), λ q. absurd (omega arith)))
        (λ d.
        by_cases (ℕ_discrete y hi)
        (λ e.
        let g : get_or (set (set l hi lo) lo s) y 0 ≡ lo = ap (λ (z : ℕ). get_or (set (set l hi lo) lo s) z 0) e ∙ cell-hi in (
          λ q. omega arith,
          λ q.
              ap (relink root lo hi) g ∙
              (relink-kept root lo hi lo lo-other ∙ (at-lo ∙ sym (relink-moved root lo hi y (ap root e ∙ at-hi)))),
        ))
        (λ e.
        let g = cell_other y d e in (
          λ q. let t = f.parents.less y c (omega arith) in omega arith,
          λ q. ap (relink root lo hi) g ∙ relink-same root lo hi (get_or l y 0) y (f.up y c (omega arith)),
        )))

    high : (y : ℕ) → y < length l → first_node ≤ get_or (set (set l hi lo) lo s) y 0 →
        (relink root lo hi y ≡ y) × (get_or (set (set l hi lo) lo s) y 0 ≡ put st lo s y)
    high y c q =
        by_cases (ℕ_discrete y lo)
        (λ e. (
          ap (relink root lo hi) e ∙ (relink-kept root lo hi lo lo-other ∙ (at-lo ∙ sym e)),
          ap (λ (z : ℕ). get_or (set (set l hi lo) lo s) z 0) e ∙ (cell-lo ∙ sym (put_same st lo s y e)),
        ))
        (λ d.
        by_cases (ℕ_discrete y hi)
        (λ e. absurd (let g : get_or (set (set l hi lo) lo s) y 0 ≡ lo = ap (λ (z : ℕ). get_or (set (set l hi lo) lo s) z 0) e ∙ cell-hi in omega arith))
        (λ e.
        let g = cell_other y d e in
        let r = f.top y c (omega arith) in (
          relink-kept root lo hi y (λ t. e (sym r ∙ t)) ∙ r,
          g ∙ (f.state y c (omega arith) ∙ sym (put_other st lo s y d)),
        )))

-- a root gets the state s
pub forest-state :
    (l : List ℕ) (r s : ℕ) (root st : ℕ → ℕ) → Forest l root st → r < length l → root r ≡ r → first_node ≤ s → Forest (set l r s) root (put st r s)
forest-state l r s root st f b at-r big =
    record {
      below = λ y c. f.below y (bound y c);
      parents = record { less = λ y c q. let g = low y q in let t = f.parents.less y (bound y c) (omega arith) in omega arith };
      up = λ y c q. let g = low y q in ap root g ∙ f.up y (bound y c) (omega arith);
      top = λ y c q. (high y (bound y c) q).0;
      state = λ y c q. (high y (bound y c) q).1;
    }
  where
    bound : (y : ℕ) → y < length (set l r s) → y < length l
    bound y c = let a = length-set l r s in omega arith

    low : (y : ℕ) → get_or (set l r s) y 0 < first_node → get_or (set l r s) y 0 ≡ get_or l y 0
    low y q =
        by_cases (ℕ_discrete y r)
        (λ e. absurd (let g : get_or (set l r s) y 0 ≡ s = ap (λ (z : ℕ). get_or (set l r s) z 0) e ∙ get_or-set_same l r s 0 b in omega arith))
        (λ d. get_or-set_other l r y s 0 d)

    high : (y : ℕ) → y < length l → first_node ≤ get_or (set l r s) y 0 → (root y ≡ y) × (get_or (set l r s) y 0 ≡ put st r s y)
    high y c q =
        by_cases (ℕ_discrete y r)
        (λ e. (
          ap root e ∙ (at-r ∙ sym e),
          ap (λ (z : ℕ). get_or (set l r s) z 0) e ∙ (get_or-set_same l r s 0 b ∙ sym (put_same st r s y e)),
        ))
        (λ d.
        let g = get_or-set_other l r y s 0 d in
        (f.top y c (omega arith), g ∙ (f.state y c (omega arith) ∙ sym (put_other st r s y d))))
