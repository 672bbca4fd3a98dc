-- What a link writes: the state of the joined class, and the pixel as the entry of the fathers of the nodes that met.
use mathlib.Core.Path.{◌≡◌, refl, sym, ap, subst, ◌∙◌}
use mathlib.Core.Logic.{⊎_elim, by_cases, ◌≢◌}
use mathlib.Core.List.{List}
use Prim.Native.Nat.{ℕ, ◌+◌, ◌-◌, ◌*◌, ◌≤◌, ◌<◌}
use native.Mathlib.Decide.{ℕ_discrete}
use native.Mathlib.Omega.{arith}
use lib.ListN.{length, get_or, set}
use lib.Seq.{get_or-set_same, get_or-set_other}
use Rattle.tree_laws.proofs.Levels.{Merged, left, right, both}
use Rattle.lists.specs.Blocks.{UntouchedOutside}
use Rattle.lists.proofs.Blocks.{untouched-refl, untouched-set, untouched-trans}
use Rattle.tree_laws.proofs.Forests.{Linked}
use Rattle.tree_laws.proofs.States.{first_node, node_state, several_state, nothing_state}

-- a state: several, nothing, or the name of a node below n
pub record Names (n s : ℕ) : Type 0 where
  pub root : first_node ≤ s
  pub node : s < several_state → s < node_state n

-- x at the entry of the node that the state names, in the block of n cells from n on
pub record Marked (n s x : ℕ) (w v : List ℕ) : Type 0 where
  pub block : UntouchedOutside n n w v
  pub hit : (i : ℕ) → i < n → s ≡ node_state i → s < several_state → get_or v (n + i) 0 ≡ x
  pub miss : (i : ℕ) → s ≢ node_state i → get_or v (n + i) 0 ≡ get_or w (n + i) 0

-- the states a and b merged to s, and the entries of fathers that this writes
pub record MergedIn (n x a b s : ℕ) (w v : List ℕ) : Type 0 where
  pub block : UntouchedOutside n n w v
  pub root : first_node ≤ s
  pub merged : n ≤ 1600 → Merged x a b s (λ i. get_or w (n + i) 0) (λ i. get_or v (n + i) 0)

-- two roots linked at x; lo is the root that is left
pub record LinkedIn (x q r : ℕ) (l m w v : List ℕ) (lo : ℕ) : Type 0 where
  pub state : ℕ
  pub root : first_node ≤ state
  pub block : UntouchedOutside (length l) (length l) w v
  pub linked : Linked q r state l m lo
  pub merged :
      (n : ℕ) → n ≡ length l → Merged x (get_or l q 0) (get_or l r 0) state (λ i. get_or w (n + i) 0) (λ i. get_or v (n + i) 0)

pub mark-none : (n s x : ℕ) (w : List ℕ) → several_state ≤ s → Marked n s x w w
mark-none n s x w h =
    record { block = untouched-refl n n w; hit = λ i b e g. absurd (omega arith); miss = λ i d. refl }

pub mark-some : (n s x t : ℕ) (w : List ℕ) → t ≡ s - first_node → Names n s → s < several_state → 2 * n ≤ length w → Marked n s x w (set w (n + t) x)
mark-some n s x t w e h b room =
    let r = h.root in
    let q = h.node b in
    record {
      block = untouched-set n n t x w w (omega arith) (untouched-refl n n w);
      hit =
          λ i c g k.
          let at : n + i ≡ n + t = omega arith in
          ap (λ (j : ℕ). get_or (set w (n + t) x) j 0) at ∙ get_or-set_same w (n + t) x 0 (omega arith);
      miss = λ i d. get_or-set_other w (n + t) (n + i) x 0 (λ g. d (omega arith));
    }

pub merge-left : (n x a b : ℕ) (w : List ℕ) → Names n b → a ≡ nothing_state → MergedIn n x a b b w w
merge-left n x a b w h e =
    record { block = untouched-refl n n w; root = h.root; merged = λ g. left e refl (λ i c. refl) }

pub merge-right : (n x a b : ℕ) (w : List ℕ) → Names n a → b ≡ nothing_state → MergedIn n x a b a w w
merge-right n x a b w h e =
    record { block = untouched-refl n n w; root = h.root; merged = λ g. right e refl (λ i c. refl) }

pub merge-both :
    (n x a b : ℕ) (w u v : List ℕ) → Names n a → Names n b → a ≢ nothing_state → b ≢ nothing_state → Marked n a x w u → Marked n b x u v →
    MergedIn n x a b several_state w v
merge-both n x a b w u v ha hb da db p q =
    record {
      block = untouched-trans n n w u v p.block q.block;
      root = omega arith;
      merged =
          λ few.
          both da db refl
          (λ i c e.
          by_cases (ℕ_discrete b (node_state i))
          (λ g. let k = hb.node (omega arith) in q.hit i (omega arith) g (omega arith))
          (λ d.
          q.miss i d ∙
          ⊎_elim (λ g. let k = ha.node (omega arith) in p.hit i (omega arith) g (omega arith)) (λ g. absurd (d g)) e))
          (λ i c d e. q.miss i e ∙ p.miss i d);
    }

pub link-in :
    (x q r s lo : ℕ) (l o w v : List ℕ) → length l ≤ 1600 → MergedIn (length l) x (get_or l q 0) (get_or l r 0) s w v → Linked q r s l o lo →
    LinkedIn x q r l o w v lo
link-in x q r s lo l o w v few m h =
    record {
      state = s;
      root = m.root;
      block = m.block;
      linked = h;
      merged =
          λ n e.
          subst (λ (b : ℕ). Merged x (get_or l q 0) (get_or l r 0) s (λ i. get_or w (b + i) 0) (λ i. get_or v (b + i) 0)) (sym e)
          (m.merged few);
    }
