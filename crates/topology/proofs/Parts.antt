-- The components of a height are those of the first places, rising.
use mathlib.Core.Path.{◌≡◌, refl, sym, ap, subst, ◌∙◌}
use mathlib.Core.Bool.{Bool, true, false, ◌&&◌, not}
use mathlib.Core.Logic.{⊎_elim, ◌↔◌, ◌≢◌}
use mathlib.Core.List.Memᴰ
use mathlib.Core.List.{List, [], ◌∷◌, ◌++◌, map, Memᴰ, append-nil, append_assoc}
use Prim.Native.Nat.{ℕ, zero, suc, ◌+◌, ◌≤◌, ◌<◌}
use native.Mathlib.Omega.{arith}
use lib.Dec.{eqb}
use borrow.Author.Tests.{eqb-true, eqb-false, eq-eqb}
use Rattle.lists.specs.Lists.{any, all, tally, select, range, is_in}
use Rattle.picture.specs.Pictures.{Picture, places}
use Rattle.picture.specs.Components.{in_section, component_at, components_from, components}
use Rattle.lists.proofs.Tests.{and_left, and_right, and_both, or_left, or_right, or_cases, not_of_false, on_test, on-elim, clash, test-false, not-both}
use Rattle.lists.proofs.Lists.{select_in, select-out, all-mem, mem-all, tally-map, tally-select, any_append}
use Rattle.lists.proofs.Rising.{select-below, below-select, one-tally, tally-one}
use Rattle.topology.proofs.Connected.{start}
use Rattle.topology.proofs.Adjacency.{At, Joined, section-at, at-section}
use Rattle.topology.proofs.Reached.{first_at, component-same, in-joined, joined_in, first-joined, first-least, first-same, first-first, first-at, same_first}

-- x is the first place of its component of height k
unfoldable pub is_first : Picture → ℕ → ℕ → Bool
is_first p k x = in_section p k x && eqb (first_at p k x) x

module _ (p : Picture) (k : ℕ) where
  pub first-is : (x : ℕ) → x < places p → is_first p k x ≡ true → At p k x × (first_at p k x ≡ x)
  unfolding is_first
  first-is x b h = (
    section-at p k x b (and_left (in_section p k x) (eqb (first_at p k x) x) h),
    eqb-true (first_at p k x) x (and_right (in_section p k x) (eqb (first_at p k x) x) h),
  )

  pub is-first : (x : ℕ) → At p k x → first_at p k x ≡ x → is_first p k x ≡ true
  unfolding is_first
  is-first x s e =
      and_both (at-section p k x s) (eq-eqb (first_at p k x) x e)

  pub first-true : (y : ℕ) → At p k y → is_first p k (first_at p k y) ≡ true
  first-true y s = is-first (first_at p k y) (first-at p k y s) (first-first p k y s)

  -- a place that is no first place is the first place of none
  pub not_first : (x y : ℕ) → At p k y → is_first p k x ≡ false → first_at p k y ≢ x
  not_first x y s h e = clash (subst (λ (z : ℕ). is_first p k z ≡ true) e (first-true y s)) h

  -- the components cs hold the places whose first place is below x
  Covered : ℕ → List (List ℕ) → Type 0
  Covered x cs = (y : ℕ) → At p k y → (any (is_in y) cs ≡ true) ↔ (first_at p k y < x)

  module _ (x : ℕ) (b : x < places p) (cs : List (List ℕ)) (c : Covered x cs) where
    -- the test of the definition is that x is a first place
    starts : is_first p k x ≡ true → (in_section p k x && not (any (is_in x) cs)) ≡ true
    unfolding Covered
    starts h =
        let (s, e) = first-is x b h in
        and_both (at-section p k x s)
        (not_of_false (any (is_in x) cs) (test-false (any (is_in x) cs) (λ g. let q = (c x s).0 g in omega arith)))

    passes : is_first p k x ≡ false → (in_section p k x && not (any (is_in x) cs)) ≡ false
    unfolding Covered
    passes h =
        test-false (in_section p k x && not (any (is_in x) cs))
        (λ g.
        let s = section-at p k x b (and_left (in_section p k x) (not (any (is_in x) cs)) g) in
        let n = and_right (in_section p k x) (not (any (is_in x) cs)) g in
        let d : ¬ (first_at p k x ≡ x) = λ e. clash (is-first x s e) h in
        let le : first_at p k x ≤ x = first-least p k (start s) in
        not-both (any (is_in x) cs) ((c x s).1 (omega arith)) n)

    covered-in : is_first p k x ≡ true → Covered (suc x) (cs ++ (component_at p k x ∷ []))
    unfolding Covered
    covered-in h y s =
        let (sx, e) = first-is x b h in
        let split = any_append (is_in y) cs (component_at p k x ∷ []) in (
          λ g.
              ⊎_elim
              (λ i. let q = (c y s).0 i in omega arith)
              (λ i.
              ⊎_elim
              (λ j. let q = first-same p k (in-joined p k x y sx j) in omega arith)
              (λ j. absurd (clash j refl))
              (or_cases (is_in y (component_at p k x)) false i))
              (or_cases (any (is_in y) cs) (any (is_in y) (component_at p k x ∷ [])) (sym split ∙ g)),
          λ g.
              split ∙
              on_test (eqb (first_at p k y) x)
              (λ i.
              or_right (any (is_in y) cs)
              (or_left false
              (joined_in p k (same_first p k x y sx s (e ∙ sym (eqb-true (first_at p k y) x i))))))
              (λ i.
              let d = eqb-false (first_at p k y) x i in
              or_left (any (is_in y) (component_at p k x ∷ [])) ((c y s).1 (omega arith))),
        )

    covered_out : is_first p k x ≡ false → Covered (suc x) cs
    unfolding Covered
    covered_out h y s =
        let d = not_first x y s h in
        (λ g. let q = (c y s).0 g in omega arith, λ g. (c y s).1 (omega arith))

  collected :
      (l x : ℕ) → x + l ≤ places p → (cs : List (List ℕ)) → Covered x cs →
      components_from p k cs (range x l) ≡ cs ++ map (component_at p k) (select (is_first p k) (range x l))
  collected zero x b cs c = sym (append-nil cs)
  collected (suc l) x b cs c =
      let bx : x < places p = omega arith in
      let rest = map (component_at p k) (select (is_first p k) (range (suc x) l)) in
      on_test (is_first p k x)
      (λ h.
      on-elim (λ (r : List (List ℕ)). r ≡ cs ++ map (component_at p k) (select (is_first p k) (range x (suc l))))
      (in_section p k x && not (any (is_in x) cs))
      (λ e.
      collected l (suc x) (omega arith) (cs ++ (component_at p k x ∷ [])) (covered-in x bx cs c h) ∙
      (append_assoc cs (component_at p k x ∷ []) rest ∙
      sym (ap (λ (m : List ℕ). cs ++ map (component_at p k) m) (select_in (is_first p k) x (range (suc x) l) h))))
      (λ e. absurd (clash (starts x bx cs c h) e)))
      (λ h.
      on-elim (λ (r : List (List ℕ)). r ≡ cs ++ map (component_at p k) (select (is_first p k) (range x (suc l))))
      (in_section p k x && not (any (is_in x) cs))
      (λ e. absurd (clash e (passes x bx cs c h)))
      (λ e.
      collected l (suc x) (omega arith) cs (covered_out x bx cs c h) ∙
      sym (ap (λ (m : List ℕ). cs ++ map (component_at p k) m) (select-out (is_first p k) x (range (suc x) l) h))))

  pub components-are : components p k ≡ map (component_at p k) (select (is_first p k) (range 0 (places p)))
  unfolding components Covered
  components-are =
      collected (places p) 0 (omega arith) [] (λ y s. (λ g. absurd (clash g refl), λ g. absurd (omega arith)))

-- exactly one component of height k passes the test
pub record OnePart (p : Picture) (k : ℕ) (t : List ℕ → Bool) : Type 0 where
  pub at : ℕ
  pub place : At p k at
  pub passes : t (component_at p k at) ≡ true
  pub only : (y : ℕ) → At p k y → t (component_at p k y) ≡ true → Joined p k at y

module _ (p : Picture) (k : ℕ) where
  -- every place of the section lies in a listed component, and every listed one is that of a place
  pub mem-components : (x : ℕ) → At p k x → Memᴰ (component_at p k x) (components p k)
  mem-components x s =
      subst (λ (l : List (List ℕ)). Memᴰ (component_at p k x) l) (sym (components-are p k))
      (subst (λ (c : List ℕ). Memᴰ c (map (component_at p k) (select (is_first p k) (range 0 (places p)))))
      (sym (component-same p k (first-joined p k x s)))
      (Memᴰ.map (component_at p k)
      (below-select (is_first p k) (places p) (first-at p k x s).within (first-true p k x s))))

  pub components-mem : {c : List ℕ} → Memᴰ c (components p k) → (x : ℕ) × At p k x × (component_at p k x ≡ c)
  components-mem {c} m =
      let (x, i, e) =
      Memᴰ.of_map (component_at p k) (select (is_first p k) (range 0 (places p)))
      (subst (λ (l : List (List ℕ)). Memᴰ c l) (components-are p k) m)
      in
      let (b, h) = select-below (is_first p k) (places p) i in
      (x, (first-is p k x b h).0, e)

  module _ (t : List ℕ → Bool) where
    pub all-parts : all t (components p k) ≡ true → (y : ℕ) → At p k y → t (component_at p k y) ≡ true
    all-parts h y s = all-mem t h (mem-components y s)

    pub parts_all : ((y : ℕ) → At p k y → t (component_at p k y) ≡ true) → all t (components p k) ≡ true
    parts_all f =
        mem-all t (components p k)
        (λ c m. let (x, s, e) = components-mem m in subst (λ (d : List ℕ). t d ≡ true) e (f x s))

    -- a tally of components is one of first places
    pub tally-components : tally t (components p k) ≡ tally (λ x. is_first p k x && t (component_at p k x)) (range 0 (places p))
    tally-components =
        ap (tally t) (components-are p k) ∙
        (tally-map t (component_at p k) (select (is_first p k) (range 0 (places p))) ∙
        tally-select (is_first p k) (λ x. t (component_at p k x)) (range 0 (places p)))

    pub tally-part : tally t (components p k) ≡ 1 → OnePart p k t
    tally-part h =
        let o = tally-one 0 (places p) (λ x. is_first p k x && t (component_at p k x)) (sym tally-components ∙ h) in
        let b = o.to in
        let (s, e) = first-is p k o.at (omega arith) (and_left (is_first p k o.at) (t (component_at p k o.at)) o.passes) in
        record {
          at = o.at;
          place = s;
          passes = and_right (is_first p k o.at) (t (component_at p k o.at)) o.passes;
          only =
              λ y sy g.
              let q =
              o.only (first_at p k y) (omega arith) (omega (arith, (first-at p k y sy).within))
              (and_both
              (first-true p k y sy)
              (subst (λ (c : List ℕ). t c ≡ true) (component-same p k (first-joined p k y sy)) g))
              in
              same_first p k o.at y s sy (e ∙ sym q);
        }

    pub part-tally : OnePart p k t → tally t (components p k) ≡ 1
    part-tally o =
        tally-components ∙
        one-tally 0 (places p) (λ x. is_first p k x && t (component_at p k x))
        (record {
          at = first_at p k o.at;
          from = omega arith;
          to = omega (arith, (first-at p k o.at o.place).within);
          passes =
              and_both
              (first-true p k o.at o.place)
              (subst (λ (c : List ℕ). t c ≡ true) (component-same p k (first-joined p k o.at o.place)) o.passes);
          only =
              λ y a b g.
              let (s, e) = first-is p k y (omega arith) (and_left (is_first p k y) (t (component_at p k y)) g) in
              sym e ∙ sym (first-same p k (o.only y s (and_right (is_first p k y) (t (component_at p k y)) g)));
        })
