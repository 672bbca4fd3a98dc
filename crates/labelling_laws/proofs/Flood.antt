-- A flood from a place: what is marked, what lies on the stack, and that a flood with an empty stack has marked the component.
use mathlib.Core.Path.{◌≡◌, refl, sym, ap, ◌∙◌}
use mathlib.Core.Logic.{inl, inr, ⊎_elim, ◌≢◌, by_cases}
use mathlib.Core.List.{List, [], ◌∷◌, Memᴰ}
use Prim.Native.Nat.{ℕ, suc, ◌<◌}
use native.Mathlib.Decide.{ℕ_discrete}
use native.Mathlib.Omega.{arith}
use lib.Dec.{eqb}
use lib.ListN.{length, get_or, set}
use lib.Seq.{get_or-set_same, get_or-set_other}
use Rattle.lists.specs.Lists.{tally}
use Rattle.picture.specs.Pictures.{Picture, places}
use Rattle.lists.proofs.Lists.{set_cases, tally-set}
use Rattle.topology.proofs.Connected.{start, step, conn-closed}
use Rattle.topology.proofs.Adjacency.{Adj, At, Joined}
use Rattle.labelling_laws.proofs.Search.{Grown, grown-all, Search, search-start, search-pop, search-done, search-pass, search-mark, search-end}

-- how many entries are 0
abbrev pub unmarked : List ℕ → ℕ
unmarked l = tally (eqb 0) l

-- a mark in the place of a 0
pub unmarked-set : (l : List ℕ) (y c : ℕ) → y < length l → get_or l y 0 ≡ 0 → c ≢ 0 → suc (unmarked (set l y c)) ≡ unmarked l
unmarked-set = tally-set 0

-- y has the label c
abbrev pub HasLabel : List ℕ → ℕ → ℕ → Type 0
HasLabel l c y = get_or l y 0 ≡ c

-- y is among the first t cells
abbrev pub Among : List ℕ → ℕ → ℕ → Type 0
Among cells t y = (j : ℕ) × (j < t) × (get_or cells j 0 ≡ y)

label-set : (l : List ℕ) (z c : ℕ) → z < length l → Grown (HasLabel l c) (HasLabel (set l z c) c) z
label-set l z c h =
    record {
      keeps = λ y e. ⊎_elim (λ w. w.1) (λ w. w.1 ∙ e) (set_cases l z c y h);
      new = get_or-set_same l z c 0 h;
      only = λ y e. ⊎_elim (λ w. inl w.0) (λ w. inr (sym w.1 ∙ e)) (set_cases l z c y h);
    }

-- one cell more, the others as they were
among-more :
    (cells after : List ℕ) (t z : ℕ) → ((j : ℕ) → j < t → get_or after j 0 ≡ get_or cells j 0) → get_or after t 0 ≡ z →
    Grown (Among cells t) (Among after (suc t)) z
among-more cells after t z same top =
    record {
      keeps = λ y (j, h, e). (j, omega arith, same j h ∙ e);
      new = (t, omega arith, top);
      only =
          λ y (j, h, e).
          by_cases (ℕ_discrete j t)
          (λ d. inl (sym e ∙ (ap (λ (i : ℕ). get_or after i 0) d ∙ top)))
          (λ d. let b : j < t = omega arith in inr (j, b, sym (same j b) ∙ e));
    }

among-set : (cells : List ℕ) (t z : ℕ) → t < length cells → Grown (Among cells t) (Among (set cells t z) (suc t)) z
among-set cells t z h =
    among-more cells (set cells t z) t z (λ j b. get_or-set_other cells t j z 0 (λ e. absurd (omega arith))) (get_or-set_same cells t z 0 h)

-- the flood from s with the number c over the labels before, with t cells on the stack, while the edges from q to the places zs are followed
pub record Flooding (p : Picture) (k s c : ℕ) (before l cells : List ℕ) (t q : ℕ) (zs : List ℕ) : Type 0 where
  pub fresh : (y : ℕ) → Joined p k s y → get_or before y 0 ≡ 0
  pub sound : (y : ℕ) → get_or l y 0 ≡ c → Joined p k s y
  pub kept : (y : ℕ) → get_or l y 0 ≢ c → get_or l y 0 ≡ get_or before y 0
  pub search : Search (Adj p) (At p k) (HasLabel l c) (HasLabel l c) (Among cells t) s q zs

-- the component of s has the number c, and every other place its label from before
pub record Flooded (p : Picture) (k s c : ℕ) (before l : List ℕ) : Type 0 where
  pub new : (y : ℕ) → Joined p k s y → get_or l y 0 ≡ c
  pub old : (y : ℕ) → (Joined p k s y → ⊥) → get_or l y 0 ≡ get_or before y 0

module _ (p : Picture) (k s c : ℕ) (before : List ℕ) where
  -- the seed marked and alone on the stack
  pub flood-start :
      (cells : List ℕ) → At p k s → s < length before → 0 < length cells →
      ((y : ℕ) → Joined p k s y → get_or before y 0 ≡ 0) → ((y : ℕ) → get_or before y 0 ≢ c) →
      Flooding p k s c before (set before s c) (set cells 0 s) 1 s []
  flood-start cells a h g fresh new =
      record {
        fresh = fresh;
        sound = grown-all (Joined p k s) (label-set before s c h) (start a) (λ y e. absurd (new y e));
        kept = λ y e. ⊎_elim (λ w. absurd (e w.1)) (λ w. w.1) (set_cases before s c y h);
        search = search-start (label-set before s c h) (among-set cells 0 s g) new (λ y (j, b, e). absurd (omega arith));
      }

  module _ (l cells : List ℕ) (t : ℕ) where
    -- the top of the stack taken off, with the places that touch it
    pub flood-pop :
        {q : ℕ} (zs : List ℕ) → Flooding p k s c before l cells (suc t) q [] →
        ((z : ℕ) → z < places p → Adj p (get_or cells t 0) z → Memᴰ z zs) →
        Flooding p k s c before l cells t (get_or cells t 0) zs
    flood-pop zs f near-all =
        record {
          fresh = f.fresh;
          sound = f.sound;
          kept = f.kept;
          search = search-pop f.search zs (among-more cells cells t (get_or cells t 0) (λ j b. refl) refl) (λ z w. near-all z w.within);
        }

    -- all edges from q followed
    pub flood-done : {q : ℕ} → Flooding p k s c before l cells t q [] → Flooding p k s c before l cells t s []
    flood-done f = record { fresh = f.fresh; sound = f.sound; kept = f.kept; search = search-done f.search }

    module _ (q z : ℕ) (zs : List ℕ) (f : Flooding p k s c before l cells t q (z ∷ zs)) where
      -- the next place is outside the section or marked already
      pub flood-pass : (At p k z → get_or l z 0 ≢ 0) → Flooding p k s c before l cells t q zs
      flood-pass h =
          record {
            fresh = f.fresh;
            sound = f.sound;
            kept = f.kept;
            search = search-pass f.search (λ y e. e) marked;
          }
        where
          marked : (y : ℕ) → get_or l y 0 ≡ c → Adj p y z → At p k z → get_or l z 0 ≡ c
          marked y e r b =
              by_cases (ℕ_discrete (get_or l z 0) c)
              (λ d. d)
              (λ d. absurd (h b (f.kept z d ∙ f.fresh z (step (f.sound y e) r b))))

      -- the next place is marked and put on the stack
      pub flood-mark :
          Adj p q z → At p k z → z < length l → t < length cells →
          Flooding p k s c before (set l z c) (set cells t z) (suc t) q zs
      flood-mark r b h g =
          let m = label-set l z c h in
          record {
            fresh = f.fresh;
            sound = grown-all (Joined p k s) m (step (f.sound q f.search.from) r b) f.sound;
            kept =
                λ y e. ⊎_elim (λ w. absurd (e w.1)) (λ w. w.1 ∙ f.kept y (λ d. e (w.1 ∙ d))) (set_cases l z c y h);
            search = search-mark f.search m.keeps m (among-set cells t z g) m.new;
          }

  -- with an empty stack the component is marked, and nothing else
  pub flood-end : {q : ℕ} (l cells : List ℕ) → Flooding p k s c before l cells 0 q [] → Flooded p k s c before l
  flood-end l cells f =
      record {
        new = λ y j. conn-closed (HasLabel l c) f.search.seed (search-end f.search (λ y (j, b, e). absurd (omega arith))) j;
        old = λ y h. f.kept y (λ e. h (f.sound y e));
      }
