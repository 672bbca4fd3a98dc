-- The cells hold the classes of a height: their start, other bounds of what is passed, and marks in place of the states.
use mathlib.Core.Path.{◌≡◌, refl, sym, subst, ◌∙◌}
use mathlib.Core.Logic.{⊎_elim}
use mathlib.Core.List.{List}
use Prim.Native.Nat.{ℕ, ◌≤◌, ◌<◌}
use native.Mathlib.Omega.{arith}
use lib.ListN.{length, get_or, set, length-set}
use Rattle.picture.specs.Pictures.{Picture, places}
use Rattle.lists.proofs.Updates.{put}
use Rattle.topology.proofs.Connected.{start}
use Rattle.tree_laws.proofs.Counts.{so_far, so-none, so-places}
use Rattle.tree_laws.proofs.Levels.{Father, nothing, Level, Upto, Edges, edges-upto, HeightJoined}
use Rattle.tree_laws.proofs.Forests.{Forest, Found, forest-state}
use Rattle.tree_laws.proofs.States.{first_node, nothing_state}

-- the cells hold the classes at height k, with the neighbours up to x joined
pub record Classes (p : Picture) (k x : ℕ) (l : List ℕ) (fa : ℕ → ℕ) : Type 0 where
  pub root : ℕ → ℕ
  pub st : ℕ → ℕ
  pub size : length l ≡ places p
  pub forest : Forest l root st
  pub level : Level p k root st fa
  pub edges : Edges p k x root

-- the classes at the end of height k, with c nodes below it; the cells hold marks in place of the states
pub record MarkedClasses (p : Picture) (k c : ℕ) (l : List ℕ) (fa : ℕ → ℕ) : Type 0 where
  pub root : ℕ → ℕ
  pub st : ℕ → ℕ
  pub marks : ℕ → ℕ
  pub size : length l ≡ places p
  pub forest : Forest l root marks
  pub joined : HeightJoined p k c root st fa

-- before the first height every place is alone
pub classes-start : (p : Picture) (l : List ℕ) (fa : ℕ → ℕ) → length l ≡ places p → ((y : ℕ) → y < length l → get_or l y 0 ≡ nothing_state) → Classes p 0 0 l fa
classes-start p l fa size cell =
    let none = so-none p in
    record {
      root = λ y. y;
      st = λ y. nothing_state;
      size = size;
      forest =
          record {
            below = λ y b. omega arith;
            parents = record { less = λ y b h. absurd (let c = cell y b in omega arith) };
            up = λ y b h. absurd (let c = cell y b in omega arith);
            top = λ y b h. refl;
            state = λ y b h. cell y b;
          };
      level =
          record {
            own = λ y s. start s;
            fixed = λ y b. refl;
            first = λ y b. omega arith;
            later = λ y b h. (refl, refl);
            state = λ y s r. nothing refl (λ z l e. let h = l.less in omega arith);
            fathers = λ i b. absurd (omega arith);
          };
      edges =
          record {
            same = λ y z a b t. absurd (⊎_elim (λ h. omega arith) (λ h. let g = h.1 in omega arith) a.passed);
          };
    }

-- other entries of the fathers of the nodes below
pub level-fathers : (p : Picture) (k : ℕ) (root st fa fb : ℕ → ℕ) → Level p k root st fa → ((i : ℕ) → i < so_far p k → fb i ≡ fa i) → Level p k root st fb
level-fathers p k root st fa fb v e =
    record {
      own = v.own;
      fixed = v.fixed;
      first = v.first;
      later = v.later;
      state = v.state;
      fathers = λ i b. subst (λ (f : ℕ). Father p k root st f i) (sym (e i b)) (v.fathers i b);
    }

module _ (p : Picture) (k x : ℕ) (l : List ℕ) (fa : ℕ → ℕ) (c : Classes p k x l fa) where
  -- other cells of the same forest
  abbrev pub classes-cells : (m : List ℕ) → length m ≡ length l → Forest m c.root c.st → Classes p k x m fa
  classes-cells m size forest =
      record { root = c.root; st = c.st; size = size ∙ c.size; forest = forest; level = c.level; edges = c.edges }

  abbrev pub classes-found : {y r : ℕ} {m : List ℕ} → Found l y r m → Classes p k x m fa
  classes-found {m = m} f = classes-cells m f.walked.size (f.walked.keeps c.root c.st c.forest)

  abbrev pub classes-fathers : (fb : ℕ → ℕ) → ((i : ℕ) → i < so_far p k → fb i ≡ fa i) → Classes p k x l fb
  classes-fathers fb e =
      record {
        root = c.root;
        st = c.st;
        size = c.size;
        forest = c.forest;
        level = level-fathers p k c.root c.st fa fb c.level e;
        edges = c.edges;
      }

-- the same classes, where what is passed up to x was passed up to a
pub classes-upto : (p : Picture) (k a x : ℕ) (l : List ℕ) (fa : ℕ → ℕ) → ((y : ℕ) → Upto p k x y → Upto p k a y) → Classes p k a l fa → Classes p k x l fa
classes-upto p k a x l fa f c =
    record {
      root = c.root;
      st = c.st;
      size = c.size;
      forest = c.forest;
      level = c.level;
      edges = edges-upto p k a k x c.root f c.edges;
    }

module _ (p : Picture) (k c : ℕ) (l : List ℕ) (fa : ℕ → ℕ) (s : MarkedClasses p k c l fa) where
  -- a walk to a root keeps the marks
  abbrev pub marks-found : {x r : ℕ} {m : List ℕ} → Found l x r m → MarkedClasses p k c m fa
  marks-found f =
      record {
        root = s.root;
        st = s.st;
        marks = s.marks;
        size = f.walked.size ∙ s.size;
        forest = f.walked.keeps s.root s.marks s.forest;
        joined = s.joined;
      }

  -- a root gets the mark v
  abbrev pub marks-set : (r v : ℕ) → r < places p → s.root r ≡ r → first_node ≤ v → MarkedClasses p k c (set l r v) fa
  marks-set r v b e h =
      record {
        root = s.root;
        st = s.st;
        marks = put s.marks r v;
        size = length-set l r v ∙ s.size;
        forest = forest-state l r v s.root s.marks s.forest (let z = s.size in omega arith) e h;
        joined = s.joined;
      }

  abbrev pub marks-fathers : (fb : ℕ → ℕ) → ((i : ℕ) → i < c → fb i ≡ fa i) → MarkedClasses p k c l fb
  marks-fathers fb e =
      let j = s.joined in
      record {
        root = s.root;
        st = s.st;
        marks = s.marks;
        size = s.size;
        forest = s.forest;
        joined =
            record {
              ok = j.ok;
              low = j.low;
              count = j.count;
              level = level-fathers p k s.root s.st fa fb j.level (λ i b. let n = j.count in e i (omega arith));
              edges = j.edges;
            };
      }

  -- there are at most as many nodes below as places
  pub marks-few : c ≤ places p
  marks-few = let j = s.joined in let a = so-places p k (let b = j.low in omega arith) in let n = j.count in omega arith
