-- The walk of the check over the pixels of a height.
use mathlib.Core.Path.{◌≡◌, refl, sym, ap, subst, ◌∙◌}
use mathlib.Core.Bool.{Bool}
use mathlib.Core.Logic.{◌≢◌}
use mathlib.Core.List.{List}
use Prim.Native.Nat.{ℕ, suc, ◌+◌, ◌≤◌, ◌<◌}
use native.Mathlib.Numerals.{add-one}
use native.Mathlib.Omega.{arith}
use lib.ListN.{length}
use Rattle.picture.specs.Pictures.{Picture, places, value_at}
use Rattle.picture.specs.Geometry.{neighbours_in}
use Rattle.picture.proofs.Neighbours.{Placed}
use Rattle.topology.proofs.Accepted.{Accepted, placed}
use Rattle.tree_laws.proofs.Decided.{Decided}
use Rattle.tree_laws.proofs.Levels.{upto-gap}
use Rattle.tree_laws.proofs.Forests.{Found, Parents}
use Rattle.tree_laws.proofs.Marks.{Names}
use Rattle.tree_laws.proofs.Classes.{classes-upto}
use Rattle.tree_laws.proofs.Joins.{Near, Edge, near-start, near-end}
use Rattle.tree_laws.proofs.Checks.{Differs, Checking, NearBy, EdgeCheckReady, EdgeChecked}

-- x is joined to the first i of its neighbours
pub record PixelChecking (p : Picture) (k x i r : ℕ) (l fs m : List ℕ) : Type 0 where
  pub ok : Accepted p
  pub most : i ≤ length (neighbours_in p x)
  pub by_near : NearBy p k x i r l fs m

-- what the check of a pixel, or of all before x, leaves
abbrev pub Passed : Picture → ℕ → ℕ → List ℕ → List ℕ → List ℕ → Bool → Type 0
Passed p k x l fs m = Decided (Checking p k x l fs m) (Differs p fs m)

pub names_more : {n m s : ℕ} → n ≤ m → Names n s → Names m s
names_more h a = record { root = a.root; node = λ b. let q = a.node b in omega arith }

module _ (p : Picture) (k x : ℕ) where
  pub checking-placed : (l fs m : List ℕ) → Checking p k x l fs m → x < length l → Placed p.width p.height x
  checking-placed l fs m c b =
      placed p c.ok x (let e = c.classes.size in omega arith)

  pub checking-parents : (l fs m : List ℕ) → Checking p k x l fs m → Parents l
  checking-parents l fs m c = c.classes.forest.parents

  -- all places are passed
  pub checking-end : (l fs m : List ℕ) → Checking p k x l fs m → x ≤ places p → length l ≤ x → Checking p k (places p) l fs m
  checking-end l fs m c a b =
      subst (λ (z : ℕ). Checking p k z l fs m) (let s = c.classes.size in let e : x ≡ places p = omega arith in e) c

  pub checked-start : (r : ℕ) (l o fs m : List ℕ) → Checking p k x l fs m → x < length l → value_at p x ≡ k → Found l x r o → PixelChecking p k x 0 r o fs m
  checked-start r l o fs m c b v f =
      record {
        ok = c.ok;
        most = omega arith;
        by_near =
            record {
              fa = c.fa;
              near = near-start p c.ok k x r l o c.fa c.classes (let e = c.classes.size in omega arith) v f;
              agree = c.agree;
            };
      }

  module _ (i r y : ℕ) (l fs m : List ℕ) (a : PixelChecking p k x i r l fs m) (e : Edge p x i y) where
    pub checked-ready : EdgeCheckReady p.pixels k x r y l fs m
    checked-ready =
        record { p = p; j = i; ok = a.ok; is = refl; edge = e; near = a.by_near }

    module _ (q : ℕ) (o : List ℕ) (s : EdgeChecked p.pixels k x r y l fs m q o) where
      pub checked-turn : q < length o → PixelChecking p k x (i + 1) q o fs m
      checked-turn h =
          let z = s.size in
          let b = e.listed in
          record {
            ok = a.ok;
            most = omega arith;
            by_near =
                subst (λ (j : ℕ). NearBy p k x j q o fs m) (sym (add-one i))
                (s.near p i a.ok refl e a.by_near (omega arith));
          }

      pub checked-differs : length o ≤ q → Differs p fs m
      checked-differs h =
          let z = s.size in s.differs p i a.ok refl e a.by_near (omega arith)

  pub checked-end : (i r : ℕ) (l fs m : List ℕ) → PixelChecking p k x i r l fs m → length (neighbours_in p x) ≤ i → Checking p k (x + 1) l fs m
  checked-end i r l fs m a h =
      let n = a.by_near in
      let g = a.most in
      let all : i ≡ length (neighbours_in p x) = omega arith in
      subst (λ (z : ℕ). Checking p k z l fs m) (sym (add-one x))
      (record {
        ok = a.ok;
        fa = n.fa;
        classes = near-end p a.ok k x r l n.fa (subst (λ (j : ℕ). Near p k x j r l n.fa) all n.near);
        agree = n.agree;
      })

  -- a pixel of another value
  pub checked-pass : (l fs m : List ℕ) → Checking p k x l fs m → value_at p x ≢ k → Checking p k (x + 1) l fs m
  checked-pass l fs m c d =
      subst (λ (z : ℕ). Checking p k z l fs m) (sym (add-one x))
      (record {
        ok = c.ok;
        fa = c.fa;
        classes =
            classes-upto p k x (suc x) l c.fa
            (λ y u.
            upto-gap p k x (suc x) y
            (λ z a b h e. let q : z ≡ x = omega arith in d (ap (value_at p) (sym q) ∙ e))
            u)
            c.classes;
        agree = c.agree;
      })
