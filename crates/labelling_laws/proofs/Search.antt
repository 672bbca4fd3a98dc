-- A search of a graph from a vertex: what is marked, what is on the stack, which edges are still to be followed.
use mathlib.Core.Path.{◌≡◌, sym, subst}
use mathlib.Core.Logic.{◌⊎◌, inl, inr, ⊎_elim}
use mathlib.Core.List.Memᴰ
use mathlib.Core.List.{List, [], ◌∷◌, Memᴰ}
use Prim.Native.Nat.{ℕ}

-- P₁ holds where P does, and at z
pub record Grown (P P₁ : ℕ → Type 0) (z : ℕ) : Type 0 where
  pub keeps : (y : ℕ) → P y → P₁ y
  pub new : P₁ z
  pub only : (y : ℕ) → P₁ y → (y ≡ z) ⊎ P y

-- what holds at z and where P does holds where P₁ does
pub grown-all : {P P₁ : ℕ → Type 0} {z : ℕ} (T : ℕ → Type 0) → Grown P P₁ z → T z → ((y : ℕ) → P y → T y) → (y : ℕ) → P₁ y → T y
grown-all T g t f y h = ⊎_elim (λ e. subst T (sym e) t) (f y) (g.only y h)

-- the edge from y to z is still to be followed: y is on the stack, or y is q and z one of zs
pub data Pending (Stacked : ℕ → Type 0) (q : ℕ) (zs : List ℕ) (y z : ℕ) : Type 0 where
  stacked : Stacked y → Pending Stacked q zs y z
  near : y ≡ q → Memᴰ z zs → Pending Stacked q zs y z

-- the search from s by the edges R to vertices Within, while the edges from q to zs are followed; Followed z: the edges to z are dealt with
pub record Search (R : ℕ → ℕ → Type 0) (Within Marked Followed Stacked : ℕ → Type 0) (s q : ℕ) (zs : List ℕ) : Type 0 where
  pub seed : Marked s
  pub from : Marked q
  pub stack : (y : ℕ) → Stacked y → Marked y
  pub closed : (y z : ℕ) → Marked y → R y z → Within z → Followed z ⊎ Pending Stacked q zs y z

module _ {Stacked : ℕ → Type 0} {q y u : ℕ} where
  -- with no edge from q left the edge begins on the stack
  pending-stacked : Pending Stacked q [] y u → Stacked y
  pending-stacked (stacked h) = h
  pending-stacked (near e m) = absurd (Memᴰ.not-nil m)

  -- the edge to z is followed
  pending_next :
      {Stacked₁ : ℕ → Type 0} {Done : Type 0} {z : ℕ} {zs : List ℕ} → (Stacked y → Stacked₁ y) → (u ≡ z → Done) →
      Pending Stacked q (z ∷ zs) y u → Done ⊎ Pending Stacked₁ q zs y u
  pending_next f d (stacked h) = inr (stacked (f h))
  pending_next f d (near e m) = ⊎_elim (λ w. inl (d w)) (λ w. inr (near e w)) (Memᴰ.cases_cons m)

module _ {R : ℕ → ℕ → Type 0} {Within Marked Followed Stacked : ℕ → Type 0} {s : ℕ} where
  -- the seed alone is marked and on the stack
  pub search-start :
      {Marked₀ Stacked₀ : ℕ → Type 0} → Grown Marked₀ Marked s → Grown Stacked₀ Stacked s → ((y : ℕ) → Marked₀ y → ⊥) → ((y : ℕ) → Stacked₀ y → ⊥) →
      Search R Within Marked Followed Stacked s s []
  search-start m g none empty =
      record {
        seed = m.new;
        from = m.new;
        stack = grown-all Marked g m.new (λ y h. absurd (empty y h));
        closed = λ y z h r w. inr (stacked (grown-all Stacked m g.new (λ x i. absurd (none x i)) y h));
      }

  module _ {q : ℕ} (f : Search R Within Marked Followed Stacked s q []) where
    -- the vertex top is taken off the stack, and the edges from it to zs are all that it has
    pub search-pop :
        {Rest : ℕ → Type 0} {top : ℕ} (zs : List ℕ) → Grown Rest Stacked top → ((z : ℕ) → Within z → R top z → Memᴰ z zs) →
        Search R Within Marked Followed Rest s top zs
    search-pop {Rest} {top} zs g all =
        record {
          seed = f.seed;
          from = f.stack top g.new;
          stack = λ y h. f.stack y (g.keeps y h);
          closed =
              λ y z m r w.
              ⊎_elim (λ d. inl d)
              (λ d. inr
              (⊎_elim (λ e. near e (all z w (subst (λ (x : ℕ). R x z) e r))) (λ h. stacked h) (g.only y (pending-stacked d))))
              (f.closed y z m r w);
        }

    -- all edges from q are followed
    pub search-done : Search R Within Marked Followed Stacked s s []
    search-done =
        record {
          seed = f.seed;
          from = f.seed;
          stack = f.stack;
          closed = λ y z m r w. ⊎_elim (λ d. inl d) (λ d. inr (stacked (pending-stacked d))) (f.closed y z m r w);
        }

    -- with an empty stack every edge is followed
    pub search-end : ((y : ℕ) → Stacked y → ⊥) → (y z : ℕ) → Marked y → R y z → Within z → Followed z
    search-end empty y z m r w = ⊎_elim (λ d. d) (λ d. absurd (empty y (pending-stacked d))) (f.closed y z m r w)

  module _ {q z : ℕ} {zs : List ℕ} (f : Search R Within Marked Followed Stacked s q (z ∷ zs)) {Followed₁ : ℕ → Type 0} (still : (y : ℕ) → Followed y → Followed₁ y) where
    -- the next edge is followed without a mark
    pub search-pass : ((y : ℕ) → Marked y → R y z → Within z → Followed₁ z) → Search R Within Marked Followed₁ Stacked s q zs
    search-pass d =
        record {
          seed = f.seed;
          from = f.from;
          stack = f.stack;
          closed =
              λ y u m r w.
              ⊎_elim (λ h. inl (still u h))
              (pending_next (λ h. h) (λ e. subst Followed₁ (sym e) (d y m (subst (R y) e r) (subst Within e w))))
              (f.closed y u m r w);
        }

    -- the next vertex is marked and put on the stack
    pub search-mark :
        {Marked₁ Stacked₁ : ℕ → Type 0} → Grown Marked Marked₁ z → Grown Stacked Stacked₁ z → Followed₁ z →
        Search R Within Marked₁ Followed₁ Stacked₁ s q zs
    search-mark {Marked₁} {Stacked₁} m g d =
        record {
          seed = m.keeps s f.seed;
          from = m.keeps q f.from;
          stack = grown-all Marked₁ g m.new (λ y h. m.keeps y (f.stack y h));
          closed =
              λ y u h r w.
              ⊎_elim
              (λ e. inr (stacked (subst Stacked₁ (sym e) g.new)))
              (λ i.
              ⊎_elim (λ k. inl (still u k)) (pending_next (g.keeps y) (λ e. subst Followed₁ (sym e) d)) (f.closed y u i r w))
              (m.only y h);
        }
