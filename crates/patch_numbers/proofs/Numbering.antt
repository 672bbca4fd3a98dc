-- The laws of the numbering: marks of fathers, numbers of leaves, what stays in the other blocks, the patch of a place.
use Rattle.std.proofs.Common.{◌≡◌, refl, sym, ap, subst, ◌∙◌, Bool, true, false, ◌&&◌, inl, ⊎_elim, ◌≢◌, List, ℕ, suc, ◌+◌, ◌-◌, ◌*◌, ◌/◌, ◌≤◌, ◌<◌, add-one, arith, eqb, length, get_or, set, length-set, get_or-set_same, get_or-set_other, eqb-true, eq-eqb, ne_eqb}
use Rattle.std.proofs.Math.Logic.{by_cases}
use Rattle.std.proofs.Math.Decide.{ℕ_discrete, dec_lt}
use borrow.Author.Tests.{eqb-false}
use Rattle.lists.specs.Lists.{pick, tally, range}
use Rattle.lists.specs.Blocks.{block_entry, UntouchedOutside, Filled}
use Rattle.lists.proofs.Tests.{and_left, and_right, and_both, clash, on-pick}
use Rattle.lists.proofs.Lists.{set_cases}
use Rattle.lists.proofs.Positions.{tally-next-in, tally-next-out, tally-bound}
use Rattle.patch_numbers.specs.Numbers.{Mapped, Mark, beyond, marked, Son, Marks, starts, Number, passed, given, Numbers, patch_in}
use Rattle.lists.proofs.Blocks.{untouched-refl, untouched-set, overwritten-entry}

-- an entry before the block that may have changed
pub kept_row : (b n o i : ℕ) {l m : List ℕ} → UntouchedOutside b n l m → o + i < b → block_entry m o i ≡ block_entry l o i
kept_row b n o i k h = k.outside (o + i) (inl h)

pub kept-mapped : (n : ℕ) (l m : List ℕ) → UntouchedOutside (4 * n) n l m → Mapped n l → Mapped n m
kept-mapped n l m k a =
    record {
      map = λ x h. let e = kept_row (4 * n) n (2 * n) x k (omega arith) in let q = a.map x h in omega arith;
    }

module _ (n : ℕ) (work : List ℕ) where
  pub marks-start : (cells after : List ℕ) → length cells ≡ n → Filled 0 n 0 cells after → Marks n 0 work after
  marks-start cells after e f =
      record {
        size = f.kept.size ∙ e;
        free = λ i b z j c. absurd (omega arith);
        taken = λ i b d. absurd (d (overwritten-entry f i b));
      }

  son-later : (j : ℕ) {i : ℕ} → Son n j work i → Son n (j + 1) work i
  son-later j s = let b = s.within in record { son = s.son; within = omega arith; father = s.father }

  -- the father of one node more
  pub marks-more : (j f : ℕ) (l m : List ℕ) → f ≡ block_entry work n j → Marks n j work l → Mark f l m → Marks n (j + 1) work m
  marks-more j f l m e k (beyond h q) =
      let size = k.size in
      subst (Marks n (j + 1) work) (sym q)
      (record {
        size = size;
        free =
            λ i b z a c.
            by_cases (ℕ_discrete a j)
            (λ d w. let u = ap (block_entry work n) d in absurd (omega arith))
            (λ d. k.free i b z a (omega arith));
        taken = λ i b d. son-later j (k.taken i b d);
      })
  marks-more j f l m e k (marked h q) =
      subst (Marks n (j + 1) work) (sym q)
      (record {
        size = length-set l f 1 ∙ k.size;
        free =
            λ i b z.
            ⊎_elim
            (λ w. let v = w.1 in absurd (omega arith))
            (λ w a c.
            by_cases (ℕ_discrete a j)
            (λ d g. w.0 (sym (e ∙ (ap (block_entry work n) (sym d) ∙ g))))
            (λ d. k.free i b (sym w.1 ∙ z) a (omega arith)))
            (set_cases l f 1 i h);
        taken =
            λ i b d.
            ⊎_elim
            (λ w. record { son = j; within = omega arith; father = sym e ∙ sym w.0 })
            (λ w. son-later j (k.taken i b (λ z. d (w.1 ∙ z))))
            (set_cases l f 1 i h);
      })

  pub marks-end : (count j : ℕ) (l : List ℕ) → j ≤ count → count ≤ j → Marks n j work l → Marks n count work l
  marks-end count j l a b k = let e : j ≡ count = omega arith in subst (λ (i : ℕ). Marks n i work l) e k

module _ (n : ℕ) (work marks : List ℕ) where
  pub starts-true : (x : ℕ) → block_entry work (3 * n) (block_entry work (2 * n) x) ≡ x → get_or marks (block_entry work (2 * n) x) 0 ≡ 0 → starts n work marks x ≡ true
  unfolding starts
  starts-true x e z =
      and_both (eq-eqb _ _ e) (eq-eqb _ _ z)

  starts_other : (x : ℕ) → block_entry work (3 * n) (block_entry work (2 * n) x) ≢ x → starts n work marks x ≡ false
  unfolding starts
  starts_other x d = ap (λ (b : Bool). b && eqb (get_or marks (block_entry work (2 * n) x) 0) 0) (ne_eqb _ _ d)

  starts-marked : (x : ℕ) → block_entry work (3 * n) (block_entry work (2 * n) x) ≡ x → get_or marks (block_entry work (2 * n) x) 0 ≢ 0 → starts n work marks x ≡ false
  unfolding starts
  starts-marked x e d =
      ap (λ (b : Bool). b && eqb (get_or marks (block_entry work (2 * n) x) 0) 0) (eq-eqb _ _ e) ∙ ne_eqb _ _ d

  pub starts_is : (x : ℕ) → starts n work marks x ≡ true → (block_entry work (3 * n) (block_entry work (2 * n) x) ≡ x) × (get_or marks (block_entry work (2 * n) x) 0 ≡ 0)
  unfolding starts
  starts_is x h = (
    eqb-true _ _ (and_left (eqb (block_entry work (3 * n) (block_entry work (2 * n) x)) x) (eqb (get_or marks (block_entry work (2 * n) x) 0) 0) h),
    eqb-true _ _ (and_right (eqb (block_entry work (3 * n) (block_entry work (2 * n) x)) x) (eqb (get_or marks (block_entry work (2 * n) x) 0) 0) h),
  )

  -- the three cases of a place, its node m and the node's first place f
  module _ (x r m f : ℕ) (e : m ≡ block_entry work (2 * n) x) (g : f ≡ block_entry work (3 * n) m) where
    first-is : block_entry work (3 * n) (block_entry work (2 * n) x) ≡ f
    first-is = ap (block_entry work (3 * n)) (sym e) ∙ sym g

    pub number-other : f ≢ x → Number n x work marks r work r
    number-other d = passed (starts_other x (λ q. d (sym first-is ∙ q))) refl refl

    pub number-marked : f ≡ x → get_or marks m 0 ≢ 0 → Number n x work marks r work r
    number-marked q d = passed (starts-marked x (first-is ∙ q) (λ z. d (ap (λ (i : ℕ). get_or marks i 0) e ∙ z))) refl refl

    pub number-given : f ≡ x → get_or marks m 0 ≡ 0 → Number n x work marks r (set work (4 * n + m) (r + 1)) (r + 1)
    number-given q z =
        given (starts-true x (first-is ∙ q) (sym (ap (λ (i : ℕ). get_or marks i 0) e) ∙ z))
        (ap (λ (i : ℕ). set work (4 * n + i) (r + 1)) e) refl

  pub numbers-start : Numbers n work marks 0 0 work
  numbers-start =
      record {
        kept = untouched-refl (4 * n) n work;
        count = refl;
        number = λ z b s. absurd (omega arith);
        other = λ m b d. refl;
      }

  module _ (maps : Mapped n work) (x r : ℕ) (l : List ℕ) (b : x < n) (k : Numbers n work marks x r l) where
    pub numbers-few : r ≤ x
    numbers-few =
        let e = k.count in
        let a = tally-bound (starts n work marks) x in
        omega arith

    same_map : (z : ℕ) → z < n → block_entry l (2 * n) z ≡ block_entry work (2 * n) z
    same_map z h = kept_row (4 * n) n (2 * n) z k.kept (omega arith)

    pub numbers-mapped : Mapped n l
    numbers-mapped = record { map = λ z h. let e = same_map z h in let q = maps.map z h in omega arith }

    same_first : block_entry l (3 * n) (block_entry l (2 * n) x) ≡ block_entry work (3 * n) (block_entry work (2 * n) x)
    same_first =
        let q = maps.map x b in
        ap (block_entry l (3 * n)) (same_map x b) ∙ kept_row (4 * n) n (3 * n) (block_entry work (2 * n) x) k.kept (omega arith)

    same-starts : starts n l marks x ≡ starts n work marks x
    unfolding starts
    same-starts =
        ap (λ (v : ℕ). eqb v x && eqb (get_or marks (block_entry l (2 * n) x) 0) 0) same_first ∙
        ap (λ (m : ℕ). eqb (block_entry work (3 * n) (block_entry work (2 * n) x)) x && eqb (get_or marks m 0) 0) (same_map x b)

    -- one place more
    pub numbers_more : (m : List ℕ) (q : ℕ) → 5 * n ≤ length work → Number n x l marks r m q → Numbers n work marks (x + 1) q m
    numbers_more m q size (passed s e g) =
        let f = sym same-starts ∙ s in
        let o = tally-next-out (starts n work marks) x f in
        let w = add-one x in
        rw (e, g)
        (record {
          kept = k.kept;
          count = k.count ∙ (sym o ∙ ap (λ (y : ℕ). tally (starts n work marks) (range 0 y)) (sym w));
          number =
              λ z h t.
              by_cases (ℕ_discrete z x)
              (λ d. absurd (clash (subst (λ (y : ℕ). starts n work marks y ≡ true) d t) f))
              (λ d. k.number z (omega arith) t);
          other = λ i h d. k.other i h (λ z c t. d z (omega arith) t);
        })
    numbers_more m q size (given s e g) =
        let f = sym same-starts ∙ s in
        let o = tally-next-in (starts n work marks) x f in
        let w = add-one x in
        let c = k.count in
        let u : r + 1 ≡ tally (starts n work marks) (range 0 (x + 1)) =
        add-one r ∙ (ap suc c ∙ (sym o ∙ ap (λ (y : ℕ). tally (starts n work marks) (range 0 y)) (sym w)))
        in
        let at = ap (λ (i : ℕ). set l (4 * n + i) (r + 1)) (same_map x b) in
        rw (e, g, at)
        (record {
          kept = untouched-set (4 * n) n node (r + 1) work l (maps.map x b) k.kept;
          count = u;
          number =
              λ z h t.
              by_cases (ℕ_discrete z x)
              (λ d.
              ap (λ (y : ℕ). block_entry stored (4 * n) (block_entry work (2 * n) y)) d ∙
              (get_or-set_same l (4 * n + node) (r + 1) 0 inside ∙
              (add-one r ∙ ap suc (c ∙ ap (λ (y : ℕ). tally (starts n work marks) (range 0 y)) (sym d)))))
              (λ d.
              let other : 4 * n + block_entry work (2 * n) z ≢ 4 * n + node =
              λ i. d (sym (starts_is z t).0 ∙ (ap (block_entry work (3 * n)) (apart i) ∙ (starts_is x f).0))
              in
              get_or-set_other l (4 * n + node) (4 * n + block_entry work (2 * n) z) (r + 1) 0 other ∙ k.number z (omega arith) t);
          other =
              λ i h d.
              let ne : 4 * n + i ≢ 4 * n + node = λ v. d x (omega arith) f (sym (apart v)) in
              get_or-set_other l (4 * n + node) (4 * n + i) (r + 1) 0 ne ∙ k.other i h (λ z c t. d z (omega arith) t);
        })
      where
        node : ℕ
        node = block_entry work (2 * n) x

        stored : List ℕ
        stored = set l (4 * n + node) (r + 1)

        inside : 4 * n + node < length l
        inside = let a = maps.map x b in let z = k.kept.size in omega arith

        apart : {i j : ℕ} → 4 * n + i ≡ 4 * n + j → i ≡ j
        apart e = omega arith

  pub numbers-end : (x r : ℕ) (l : List ℕ) → x ≤ n → n ≤ x → Numbers n work marks x r l → Numbers n work marks n r l
  numbers-end x r l a b k = let e : x ≡ n = omega arith in subst (λ (y : ℕ). Numbers n work marks y r l) e k

-- whether a pixel has a height, by two quotients that differ only there
module _ (v h : ℕ) (a : v < 256) (b : h < 65536) where
  abbrev same : ℕ
  same = (v + 65536 - h) / 65536 - (v + 65536 - h - 1) / 65536

  height-test : same ≡ pick (eqb v h) 1 0
  height-test =
      on-pick (λ (z : ℕ). same ≡ z) (eqb v h)
      (λ e. let q = eqb-true v h e in omega arith)
      (λ e.
      let d = eqb-false v h e in
      by_cases (dec_lt v h)
      (λ l. omega arith)
      (λ l. by_cases (dec_lt h v) (λ k. omega arith) (λ k. absurd (d (omega arith)))))

  pub number-times : (k : ℕ) → k * same ≡ pick (eqb v h) k 0
  number-times k = ap (λ (z : ℕ). k * z) height-test ∙ by (eqb v h)
    where
      by : (t : Bool) → k * pick t 1 0 ≡ pick t k 0
      by true = omega arith
      by false = omega arith

  pub number_small : (k : ℕ) → k < 65536 → k * same < 65536
  number_small k c =
      subst (λ (z : ℕ). z < 65536) (sym (number-times k))
      (on-pick (λ (z : ℕ). z < 65536) (eqb v h) (λ e. c) (λ e. omega arith))

-- the patch of a place with the node m
pub patch-is :
    (n : ℕ) (pixels work : List ℕ) (x m : ℕ) → m ≡ block_entry work (2 * n) x →
    pick (eqb (get_or pixels x 0) (get_or work m 0)) (block_entry work (4 * n) m) 0 ≡ patch_in n pixels work x
unfolding patch_in
patch-is n pixels work x m e =
    ap (λ (j : ℕ). pick (eqb (get_or pixels x 0) (get_or work j 0)) (block_entry work (4 * n) j) 0) e
