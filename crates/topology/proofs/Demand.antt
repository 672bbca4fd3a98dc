-- Demand 3: the watershed keeps every connected part, the tree with its fathers and every pass between minima,
-- and no other picture nowhere above it does.
use mathlib.Core.Path.{◌≡◌, refl, sym, ap, subst, ◌∙◌}
use mathlib.Core.Bool.{true}
use mathlib.Core.List.{List}
use Prim.Native.Nat.{ℕ, ◌-◌, ◌≤◌, ◌<◌}
use native.Mathlib.Omega.{arith}
use lib.ListN.{length, get_or, set, length-set}
use lib.Seq.{ext_get_or, get_or-set_same}
use Rattle.lists.specs.Lists.{range}
use Rattle.picture.specs.Pictures.{Picture, places, value_at, with_pixels, all_bytes}
use Rattle.picture.specs.Watersheds.{lowerable, watershed}
use Rattle.picture.specs.Kept.{nowhere_above, keeps_at, keeps_parts, Kept, Demand-3, OthersFail}
use Rattle.lists.proofs.Tests.{test-false}
use Rattle.lists.proofs.Lists.{all-fails, range-mem}
use Rattle.topology.proofs.Keeping.{keeps-compose}
use Rattle.topology.proofs.Least.{least-sections}
use Rattle.topology.proofs.Adjacency.{Adj, adj-sym}
use Rattle.topology.proofs.Bridge.{lowerable-above, lowerable-lowers, lowers-lowerable, keeps-parts, parts-keeps}
use Rattle.topology.proofs.Accepted.{Accepted, accepted-is, is-accepted, accepted-with, byte_at, value-byte, at_byte, above_at, at_above}
use Rattle.topology.proofs.Water.{Watered, lower-under, lower-keeps, watershed-shape, watershed-watered}
use Rattle.topology.proofs.Passes.{passes_kept}
use Rattle.topology.proofs.Partners.{partner-found, partner-of, fathers-partners, roots-partners, roots-joined}

-- what demand 3 says, of a picture in the same frame that lowering can make and in which it ends
watered-kept : (f : Picture) (ys : List ℕ) → Accepted f → Watered f f.pixels ys → Kept f (with_pixels f ys)
watered-kept f ys ok w =
    record {
      sides = refl;
      accepted = is-accepted a a-ok;
      under = at_above ys f.pixels w.size w.under;
      parts = keeps-parts f ys (λ k b. w.keeps k);
      one-partner = partner-found f ys w.keeps;
      of-each = partner-of f ys w.keeps;
      fathers = λ i j h l e. fathers-partners f ys w.keeps i j h l e a-ok;
      root-partners = roots-joined f ys w.keeps ok a-ok;
      roots = λ i j h l e. roots-partners f ys w.keeps i j h l e ok;
      passes = passes_kept f ys w.keeps;
      least = least;
    }
  where
    a : Picture
    a = with_pixels f ys

    byte : (i : ℕ) → get_or ys i 0 ≤ 255
    byte i = let b = value-byte f ok i in let u = w.under i in omega arith

    size : length ys ≡ places f
    size = w.size ∙ ok.size

    a-ok : Accepted a
    a-ok = accepted-with f ys ok size (at_byte ys byte)

    least :
        (b : List ℕ) → length b ≡ places f → all_bytes b ≡ true → nowhere_above b ys ≡ true →
        keeps_parts f (with_pixels f b) ≡ true → b ≡ ys
    least b e bytes under parts =
        ext_get_or 0 b ys (e ∙ sym size)
        (λ i h.
        let k = get_or b i 0 in
        let small = byte_at b bytes i in
        let above = above_at b ys under i h in
        let s =
        least-sections (places f) (Adj f) (adj-sym f) (value_at f) (value_at a) (value_at (with_pixels f b))
        (λ y c. byte y)
        (λ y c. above_at b ys under y (omega arith))
        (λ k c. w.keeps k)
        (parts-keeps f b parts)
        (λ x k l. w.stuck x l.within (lowers-lowerable a x l.within k l))
        (255 - k) k (omega arith) i
        (record { within = omega arith; low = omega arith })
        in
        let below = s.low in
        omega arith)

-- demand 3 holds: the watershed of an accepted picture has every property that `Kept` names
pub demand-3 : Demand-3
demand-3 f h =
    let ok = accepted-is f h in
    subst (Kept f) (sym (watershed-shape f ok.size)) (watered-kept f (watershed f).pixels ok (watershed-watered f ok.size))

-- what follows of any picture a with what demand 3 says
module _ (f a : Picture) (k : Kept f a) where
  -- every other picture in f's frame that is nowhere above a fails to keep f's parts, at a height from 0 to 255
  pub other-fails : OthersFail f a
  unfolding keeps_parts
  other-fails b e bytes under other =
      let (h, m, g) =
      all-fails (keeps_at f (with_pixels f b)) (range 0 256)
      (test-false (keeps_parts f (with_pixels f b)) (λ p. other (k.least b e bytes under p)))
      in
      let r = range-mem 0 256 m in
      (h, omega arith, g)

  -- nothing in a is lowerable: neither the picture itself nor one lowered pixel will do where more can be lowered
  pub nothing-lowerable : Accepted f → (x : ℕ) → x < places f → lowerable a x ≡ true → ⊥
  nothing-lowerable ok x b l = lowest a.pixels k.sides l
    where
      lowest : (ys : List ℕ) → a ≡ with_pixels f ys → lowerable a x ≡ true → ⊥
      lowest ys e t =
          let g = subst (λ (p : Picture). Kept f p) e k in
          let lo = subst (λ (p : Picture). lowerable p x ≡ true) e t in
          let good = accepted-is (with_pixels f ys) g.accepted in
          let size = good.size in
          let (j, v) = lowerable-above (with_pixels f ys) x b lo in
          let c : x < length ys = omega arith in
          let down = lowerable-lowers (with_pixels f ys) x b j v lo in
          let under = lower-under f ys x j c v in
          let bytes = byte_at ys good.bytes in
          let same =
          g.least (set ys x j) (length-set ys x j ∙ size)
          (at_byte (set ys x j) (λ i. let p = under i in let q = bytes i in omega arith))
          (at_above (set ys x j) ys (length-set ys x j) under)
          (keeps-parts f (set ys x j)
          (λ h r. keeps-compose (places f) (Adj f) (parts-keeps f ys g.parts h r) (lower-keeps f ys x j c down h)))
          in
          let p = ap (λ (zs : List ℕ). get_or zs x 0) same in
          let q = get_or-set_same ys x j 0 c in
          omega arith
