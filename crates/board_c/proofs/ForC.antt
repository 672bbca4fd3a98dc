-- Laws of what the calls for C promise: refusals, and what was written.
use mathlib.Core.Path.{◌≡◌, refl, sym, ap, ap₂, subst, ◌∙◌}
use mathlib.Core.Bool.{Bool}
use mathlib.Core.List.{List, ◌++◌}
use Prim.Native.Nat.{ℕ, zero, suc, ◌*◌, ◌/◌, ◌≤◌, ◌<◌}
use native.Mathlib.Omega.{arith}
use lib.Dec.{eqb, ltb, leb}
use lib.ListN.{length, take, replicate, length-replicate}
use borrow.Author.Tests.{ltb-true, ltb-false, lt-ltb, le-ltb, lt-leb, leb-false}
use Rattle.lists.specs.Lists.{pick, over}
use Rattle.lists.proofs.Cuts.{over-taken}
use Rattle.picture.specs.Pictures.{Picture, places, value_at}
use Rattle.faults.specs.PictureFault.{first_of, when, picture_fault_of}
use Rattle.picture.specs.Watersheds.{watershed}
use Rattle.picture.specs.Patches.{patch_at}
use Rattle.lists.proofs.Tests.{on_test, pick-in}
use Rattle.p5.specs.Files.{read_file, outcome_number, header_of}
use Rattle.lists.specs.Writing.{Written}
use Rattle.std.proofs.Common.{Result, Ok, Err}
use Rattle.refusals.specs.declared.Refusal.{Refusal}
use Rattle.refusals.specs.Refusals.{number_of}
use Rattle.refusals.proofs.Numbers.{number-some}
use Rattle.p5.specs.declared.header.Header.{Header}
use Rattle.board.specs.declared.query.Queried.{Queried}
use Rattle.faults.specs.Faults.{work_fault, work_fault_of, output_fault}
use Rattle.faults.specs.Steps.{Faultless}
use Rattle.answers.specs.Answers.{answer_of, after_call, work_after}
use Rattle.board.specs.Calls.{QueryAnswer, queried_of, output_fault_of, place_fault_of, ground_of, patch_number, WatershedSays, QuerySays}
use Rattle.faults.proofs.Faults.{first_some, first-none, then-failed, then-none, work_none, output-none, output-enough, place-counted, faultless}
use Rattle.answers.proofs.Calls.{error-left, written-left}
use Rattle.board_c.specs.CalledByC.{pair, read_fault_for_c, header_bytes, ReadForC, work_fault_for_c, watershed_fault_for_c, bytes_after, WatershedForC, place_fault_for_c, PlaceForC}
use Rattle.packing.specs.Packing.{packed}
use Rattle.lists.proofs.Writings.{written-front}
use Rattle.packing.proofs.Packed.{packed-zeros}

-- no fault: the bytes written from the beginning stand over what was there
output-written : (f : ℕ) (bytes o o' : List ℕ) {to : ℕ} → f ≡ 0 → Written 0 bytes o to o' → o' ≡ after_call f (over bytes o) o
output-written f bytes o o' e w = written-front w ∙ written-left f (over bytes o) o e

module _ (f o : List ℕ) where
  read_is : first_of (outcome_number (read_file f)) (when (ltb (length o) 32) 9) ≡ read_fault_for_c f o
  unfolding read_fault_for_c
  read_is = refl

  pub read-room : read_fault_for_c f o ≡ 0 → 32 ≤ length o
  read-room z = ltb-false (length o) 32 (then-none (outcome_number (read_file f)) 8 _ _ read_is z).1

  read-refused : (e : Refusal) → number_of e ≡ read_fault_for_c f o → ReadForC f o o (number_of e)
  read-refused e n = record { number = n; output = error-left (read_fault_for_c f o) e n (over (header_bytes f) o) o }

  -- the file is refused, or the output
  pub read-refused-file : (e : Refusal) → Err e ≡ read_file f → ReadForC f o o (number_of e)
  read-refused-file e n =
      let some = number-some e in
      read-refused e (first_some _ _ _ (ap (λ (r : Result Header Refusal). outcome_number r) n) (omega arith) ∙ read_is)

  module _ (header : Header) (is : Ok header ≡ read_file f) where
    none : 0 ≡ outcome_number (read_file f)
    none = ap (λ (r : Result Header Refusal). outcome_number r) is

    pub read-refused-output : (e : Refusal) → number_of e ≡ when (ltb (length o) 32) 9 → ReadForC f o o (number_of e)
    read-refused-output e n = read-refused e (n ∙ (sym (first-none (outcome_number (read_file f)) _ (sym none)) ∙ read_is))

    pub read_done : (o' : List ℕ) {to : ℕ} → 0 ≡ when (ltb (length o) 32) 9 → Written 0 (pair header.width header.height ++ pair header.largest header.offset) o to o' → ReadForC f o o' 0
    read_done o' {to} z w =
        let fz : read_fault_for_c f o ≡ 0 = sym (z ∙ (sym (first-none (outcome_number (read_file f)) _ (sym none)) ∙ read_is)) in
        record {
          number = sym fz;
          output =
              output-written (read_fault_for_c f o) (header_bytes f) o o' fz
              (subst (λ (r : Result Header Refusal). Written 0 (pair (header_of r).width (header_of r).height ++ pair (header_of r).largest (header_of r).offset) o to o') is w);
        }

-- work of 10 n bytes is work of 5 n entries
half-short : (work m : ℕ) → ltb (work / 2) (5 * m) ≡ ltb work (10 * m)
half-short work m =
    on_test (ltb work (10 * m))
    (λ e. let h = ltb-true work (10 * m) e in lt-ltb (work / 2) (5 * m) (omega arith) ∙ sym e)
    (λ e. let h = ltb-false work (10 * m) e in le-ltb (work / 2) (5 * m) (omega arith) ∙ sym e)

-- the front of what is cleared
zeros-front : (m : ℕ) (l : List ℕ) → take m (over (replicate m 0) l) ≡ replicate m 0
zeros-front m l = over-taken m (replicate m 0) (length-replicate m 0) l

half-work : (p : Picture) (work : ℕ) → work_fault_of p (work / 2) ≡ work_fault_for_c p work
unfolding work_fault work_fault_for_c
half-work p work = ap (λ (b : Bool). first_of (picture_fault_of p) (when b 9)) (half-short work (places p))

module _ (p : Picture) (q : List ℕ) where
  -- room for the 5 n entries, in the bytes and in the 8,000 cells
  pub unpack-room : Faultless p (length q / 2) → (2 * (5 * length p.pixels) ≤ length q) × (5 * length p.pixels ≤ 8000)
  unpack-room t = (omega (arith, t.room), omega (arith, t.size, t.few))

  pub pack-room : Faultless p (length q / 2) → {cells : ℕ} → cells ≡ 8000 → (5 * length p.pixels ≤ cells) × (2 * (5 * length p.pixels) ≤ length q)
  pack-room t e = (omega (arith, (unpack-room t).1), (unpack-room t).0)

  -- the 8,000 cells are work enough for the public call
  local-work : Faultless p (length q / 2) → (cells : List ℕ) → length cells ≡ 8000 → work_fault_of p (length cells) ≡ 0
  local-work t cells e =
      work_none p.adjacency p.width p.height (length p.pixels) (length cells) t.fault (omega (arith, (unpack-room t).1))

  -- the entries that the public call left zero are packed as zero bytes
  bytes_left :
      Faultless p (length q / 2) → (f g : ℕ) (q' cells left : List ℕ) → f ≡ 0 → g ≡ 0 → left ≡ work_after g p cells →
      q' ≡ over (packed (take (5 * length p.pixels) left)) q → q' ≡ bytes_after f p q
  bytes_left t f g q' cells left fz gz c w =
      let m = 5 * places p in
      let d : 2 * m ≡ 10 * places p = omega arith in
      w ∙
      (ap (λ (n : ℕ). over (packed (take (5 * n) left)) q) t.size ∙
      (ap (λ (l : List ℕ). over (packed (take m l)) q) (c ∙ sym (written-left g (over (replicate m 0) cells) cells gz)) ∙
      (ap (λ (l : List ℕ). over l q)
      (ap packed (zeros-front m cells) ∙ (packed-zeros m ∙ ap (λ (k : ℕ). replicate {A = ℕ} k 0) d)) ∙
      written-left f (over (replicate (10 * places p) 0) q) q fz)))

module _ (p : Picture) (o q : List ℕ) where
  -- the fault of the call with half as many entries is that of the bytes
  pub water-fault : output_fault p.adjacency p.width p.height (length p.pixels) (length o) (length q / 2) ≡ watershed_fault_for_c p (length o) (length q)
  unfolding output_fault watershed_fault_for_c
  water-fault = ap (λ (f : ℕ). first_of f (when (ltb (length o) (places p)) 9)) (half-work p (length q))

  pub water-refused : (e : Refusal) → number_of e ≡ output_fault p.adjacency p.width p.height (length p.pixels) (length o) (length q / 2) → WatershedForC p o o q q (number_of e)
  water-refused e n =
      let f = watershed_fault_for_c p (length o) (length q) in
      let g = n ∙ water-fault in
      record {
        number = g;
        output = error-left f e g (over (watershed p).pixels o) o;
        work = error-left f e g (over (replicate (10 * places p) 0) q) q;
      }

  module _ (z : output_fault p.adjacency p.width p.height (length p.pixels) (length o) (length q / 2) ≡ 0) where
    water-enough : (work_fault_of p (length q / 2) ≡ 0) × (places p ≤ length o)
    water-enough = output-enough p.adjacency p.width p.height (length p.pixels) (length q / 2) (length o) z

    pub water-lent : Faultless p (length q / 2)
    water-lent = faultless p (length q / 2) water-enough.0

    -- the public call has no fault with the cells either
    water-inner : (cells : List ℕ) → length cells ≡ 8000 → output_fault_of p o cells ≡ 0
    water-inner cells e =
        let n = length p.pixels in
        output-none p.adjacency p.width p.height n (length cells) (length o) (local-work p q water-lent cells e)
        (omega (arith, water-lent.size, water-enough.1))

    -- so it refuses nothing
    pub water-unrefused : {A : Type 0} (o' cells left : List ℕ) (e : Refusal) → length cells ≡ 8000 → WatershedSays p o o' cells left (answer_of (Err e)) → A
    water-unrefused o' cells left e n w =
        let some = number-some e in let number = w.call.answer.number ∙ water-inner cells n in absurd (omega (arith, some, number))

    -- no fault: what the public call left with the unpacked entries, and what was packed of it
    pub water-done :
        (o' q' cells left : List ℕ) (v : ℕ) → length cells ≡ 8000 → WatershedSays p o o' cells left (answer_of (Ok v)) →
        q' ≡ over (packed (take (5 * length p.pixels) left)) q → WatershedForC p o o' q q' 0
    water-done o' q' cells left v e w c =
        let f = watershed_fault_for_c p (length o) (length q) in
        let fz : f ≡ 0 = sym water-fault ∙ z in
        let g = output_fault_of p o cells in
        let gz = water-inner cells e in
        let new = over (watershed p).pixels o in
        record {
          number = sym fz;
          output = w.output ∙ (sym (written-left g new o gz) ∙ written-left f new o fz);
          work = bytes_left p q water-lent f g q' cells left fz gz w.call.work c;
        }

-- the faults of a place query for C one after the other, as the code decides them
module _ (p : Picture) (out work x : ℕ) where
  pub place-first : (e : Refusal) → number_of e ≡ work_fault_of p (work / 2) → number_of e ≡ place_fault_for_c p out work x
  unfolding place_fault_for_c
  place-first e n =
      let some = number-some e in
      first_some _ _ _ (first_some (work_fault_for_c p work) _ _ (n ∙ half-work p work) (omega arith)) (omega arith)

  module _ (z : 0 ≡ work_fault_of p (work / 2)) where
    pub place-second : (e : Refusal) → number_of e ≡ when (ltb out 16) 9 → number_of e ≡ place_fault_for_c p out work x
    unfolding place_fault_for_c
    place-second e n =
        let some = number-some e in
        first_some _ _ _ (n ∙ sym (first-none (work_fault_for_c p work) _ (sym (z ∙ half-work p work)))) (omega arith)

    pub place-third :
        (n g : ℕ) → n ≡ places p → 0 ≡ when (ltb out 16) 9 → g ≡ when (leb n x) 10 → g ≡ place_fault_for_c p out work x
    unfolding place_fault_for_c
    place-third n g size y e =
        let two : first_of (work_fault_for_c p work) (when (ltb out 16) 9) ≡ 0 =
        first-none (work_fault_for_c p work) _ (sym (z ∙ half-work p work)) ∙ sym y in
        e ∙ (ap (λ (k : ℕ). when (leb k x) 10) size ∙ sym (first-none _ _ two))

  -- no fault: each cause is absent
  pub place-enough : place_fault_for_c p out work x ≡ 0 → (work_fault_of p (work / 2) ≡ 0) × (16 ≤ out) × (x < places p)
  unfolding place_fault_for_c
  place-enough e =
      let y = then-none _ 9 (leb (places p) x) _ refl e in
      let z = then-none (work_fault_for_c p work) 8 (ltb out 16) _ refl y.0 in
      (half-work p work ∙ z.0, ltb-false out 16 z.1, leb-false (places p) x y.1)

-- the number of a ground is the one that it was made of
ground-number : (n : ℕ) → patch_number (ground_of n) ≡ n
ground-number zero = refl
ground-number (suc n) = refl

-- the value and the patch number that an unrefused place query answers
module _ (p : Picture) (x : ℕ) (cells left : List ℕ) (r : QueryAnswer) (s : QuerySays p x cells left r) (z : place_fault_of p cells x ≡ 0) where
  answered-value : r.value ≡ value_at p x
  answered-value =
      ap (λ (u : QueryAnswer). u.value) s.answer ∙
      pick-in (place_fault_of p cells x) 0 (value_at p x) 0 z

  answered-number : patch_number r.ground ≡ patch_at p x
  answered-number =
      ap (λ (u : QueryAnswer). patch_number u.ground) s.answer ∙
      (ground-number (pick (eqb (place_fault_of p cells x) 0) (patch_at p x) 0) ∙
      pick-in (place_fault_of p cells x) 0 (patch_at p x) 0 z)

module _ (p : Picture) (x : ℕ) (o q : List ℕ) where
  pub place-refused : (e : Refusal) → number_of e ≡ place_fault_for_c p (length o) (length q) x → PlaceForC p x o o q q (number_of e)
  place-refused e n =
      let f = place_fault_for_c p (length o) (length q) x in
      record {
        number = n;
        output = error-left f e n (over (pair (value_at p x) (patch_at p x)) o) o;
        work = error-left f e n (over (replicate (10 * places p) 0) q) q;
      }

  module _ (z : place_fault_for_c p (length o) (length q) x ≡ 0) where
    query-enough : (work_fault_of p (length q / 2) ≡ 0) × (16 ≤ length o) × (x < places p)
    query-enough = place-enough p (length o) (length q) x z

    pub place-lent : Faultless p (length q / 2)
    place-lent = faultless p (length q / 2) query-enough.0

    pub place-room : 16 ≤ length o
    place-room = query-enough.1

    -- the public call has no fault with the cells either
    place-inner : (cells : List ℕ) → length cells ≡ 8000 → place_fault_of p cells x ≡ 0
    place-inner cells e =
        let n = length p.pixels in
        sym
        (then-failed _ 9 (leb n x) _ (place-counted p.adjacency p.width p.height n (length cells) x)
        (local-work p q place-lent cells e) (lt-leb n x (omega (arith, place-lent.size, query-enough.2))))

    -- so it refuses nothing
    pub place-unrefused : {A : Type 0} (cells left : List ℕ) (e : Refusal) → length cells ≡ 8000 → QuerySays p x cells left (queried_of (Err e)) → A
    place-unrefused cells left e n s =
        let some = number-some e in
        let number = ap (λ (u : QueryAnswer). u.number) s.answer ∙ place-inner cells n in
        absurd (omega (arith, some, number))

    -- no fault: what the public call answered and left with the unpacked entries, and what was written and packed of it
    pub place-done :
        (o' q' cells left : List ℕ) (u : Queried) (n to : ℕ) → length cells ≡ 8000 → QuerySays p x cells left (queried_of (Ok u)) → n ≡ patch_number u.ground →
        Written 0 (pair u.value n) o to o' → q' ≡ over (packed (take (5 * length p.pixels) left)) q → PlaceForC p x o o' q q' 0
    place-done o' q' cells left u n to e s en w c =
        let f = place_fault_for_c p (length o) (length q) x in
        let gz = place-inner cells e in
        let value = answered-value p x cells left _ s gz in
        let number = en ∙ answered-number p x cells left _ s gz in
        record {
          number = sym z;
          output =
              output-written f (pair (value_at p x) (patch_at p x)) o o' z
              (subst (λ (xs : List ℕ). Written 0 xs o to o') (ap₂ pair value number) w);
          work = bytes_left p q place-lent f (place_fault_of p cells x) q' cells left z gz s.work c;
        }
