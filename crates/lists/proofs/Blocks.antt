-- Laws of blocks of cells.
use mathlib.Core.Path.{◌≡◌, refl, sym, ap, subst, ◌∙◌}
use mathlib.Core.Logic.{inl, inr, ⊎_elim, ◌≢◌, by_cases}
use mathlib.Core.List.{List}
use Prim.Native.Nat.{ℕ, ◌+◌, ◌≤◌, ◌<◌}
use native.Mathlib.Nat.{zero-add}
use native.Mathlib.Decide.{ℕ_discrete, dec_lt}
use native.Mathlib.Omega.{arith}
use lib.ListN.{length, get_or, set, replicate, length-set, length-replicate, get_or-replicate}
use lib.Seq.{get_or-set_same, get_or-set_other, ext_get_or}
use Rattle.lists.specs.Lists.{over}
use Rattle.lists.specs.Blocks.{UntouchedOutside, Overwritten, Filled}
use Rattle.lists.proofs.Cuts.{over-length, over-front, over-behind}

pub untouched-refl : (b n : ℕ) (l : List ℕ) → UntouchedOutside b n l l
untouched-refl b n l = record { size = refl; outside = λ j h. refl }

pub untouched-trans : (b n : ℕ) (l m o : List ℕ) → UntouchedOutside b n l m → UntouchedOutside b n m o → UntouchedOutside b n l o
untouched-trans b n l m o f g = record { size = g.size ∙ f.size; outside = λ j h. g.outside j h ∙ f.outside j h }

-- a store inside the block
pub untouched-store : (b n j v : ℕ) (l m : List ℕ) → b ≤ j → j < b + n → UntouchedOutside b n l m → UntouchedOutside b n l (set m j v)
untouched-store b n j v l m h c k =
    record {
      size = length-set m j v ∙ k.size;
      outside =
          λ i g.
          let d : i ≢ j = λ e. absurd (⊎_elim (λ a. omega arith) (λ a. omega arith) g) in
          get_or-set_other m j i v 0 d ∙ k.outside i g;
    }

pub untouched-set : (b n i v : ℕ) (l m : List ℕ) → i < n → UntouchedOutside b n l m → UntouchedOutside b n l (set m (b + i) v)
untouched-set b n i v l m h k = untouched-store b n (b + i) v l m (omega arith) (omega arith) k

-- entries written one after the other: none, one more, as many as there were to write
pub overwritten-start : (f : ℕ → ℕ) (b : ℕ) (l : List ℕ) → Overwritten f b 0 l l
overwritten-start f b l = record { kept = untouched-refl b 0 l; inside = λ i h. absurd (omega arith) }

pub overwritten-more :
    (f : ℕ → ℕ) (b i v : ℕ) (l m : List ℕ) → b + i < length l → v ≡ f i → Overwritten f b i l m → Overwritten f b (i + 1) l (set m (b + i) v)
overwritten-more f b i v l m h w o =
    let size = o.kept.size in
    record {
      kept =
          untouched-set b (i + 1) i v l m (omega arith)
          (record { size = size; outside = λ j g. o.kept.outside j (⊎_elim (λ a. inl a) (λ a. inr (omega arith)) g) });
      inside =
          λ j g.
          by_cases (ℕ_discrete j i)
          (λ e.
          ap (λ (k : ℕ). get_or (set m (b + i) v) (b + k) 0) e ∙ (get_or-set_same m (b + i) v 0 (omega arith) ∙ (w ∙ ap f (sym e))))
          (λ e.
          let d : b + j ≢ b + i = λ q. e (omega arith) in
          get_or-set_other m (b + i) (b + j) v 0 d ∙ o.inside j (omega arith));
    }

pub overwritten-end : {f : ℕ → ℕ} {b i n : ℕ} {l m : List ℕ} → i ≡ n → Overwritten f b i l m → Overwritten f b n l m
overwritten-end {f} {b} {l = l} {m} e o = subst (λ (k : ℕ). Overwritten f b k l m) e o

-- the first entries: one more, one by one, as a list
pub overwritten-next : (f : ℕ → ℕ) (i v : ℕ) (l m : List ℕ) → i < length l → v ≡ f i → Overwritten f 0 i l m → Overwritten f 0 (i + 1) l (set m i v)
overwritten-next f i v l m h w o =
    subst (λ (j : ℕ). Overwritten f 0 (i + 1) l (set m j v)) (zero-add i) (overwritten-more f 0 i v l m (omega arith) w o)

pub overwritten-entry : {f : ℕ → ℕ} {n : ℕ} {l m : List ℕ} → Overwritten f 0 n l m → (i : ℕ) → i < n → get_or m i 0 ≡ f i
overwritten-entry {m = m} o i h = ap (λ (j : ℕ). get_or m j 0) (sym (zero-add i)) ∙ o.inside i h

pub overwritten-front :
    (f : ℕ → ℕ) (l m : List ℕ) (n : ℕ) (xs : List ℕ) → length xs ≡ n → n ≤ length l → ((i : ℕ) → i < n → f i ≡ get_or xs i 0) →
    Overwritten f 0 n l m → m ≡ over xs l
overwritten-front f l m n xs e h g o =
    ext_get_or 0 m (over xs l) (o.kept.size ∙ sym (over-length xs l (omega arith)))
    (λ i b.
    by_cases (dec_lt i n)
    (λ u. overwritten-entry o i u ∙ (g i u ∙ sym (over-front xs l i (omega arith))))
    (λ u. o.kept.outside i (inr (omega arith)) ∙ sym (over-behind xs l i (omega arith))))

pub filled-front : (n v : ℕ) (l m : List ℕ) → n ≤ length l → Filled 0 n v l m → m ≡ over (replicate n v) l
filled-front n v l m h o =
    overwritten-front (λ _. v) l m n (replicate n v) (length-replicate n v) h (λ i b. sym (get_or-replicate n i v 0 b)) o

-- a list that agrees with f before x, and then at x too
pub below_set :
    (f : ℕ → ℕ) (l : List ℕ) (x v : ℕ) → x < length l → v ≡ f x → ((z : ℕ) → z < x → get_or l z 0 ≡ f z) →
    (z : ℕ) → z < x + 1 → get_or (set l x v) z 0 ≡ f z
below_set f l x v h e g z b =
    by_cases (ℕ_discrete z x)
    (λ d. ap (λ (i : ℕ). get_or (set l x v) i 0) d ∙ (get_or-set_same l x v 0 h ∙ (e ∙ ap f (sym d))))
    (λ d. get_or-set_other l x z v 0 d ∙ g z (omega arith))
