-- The walk along the chain of a height: its pixels join the classes, a place and a neighbour at a time.
use mathlib.Core.Path.{◌≡◌, refl, sym, ap, subst, ◌∙◌}
use mathlib.Core.List.{List}
use Prim.Native.Nat.{ℕ, suc, ◌+◌, ◌*◌, ◌≤◌, ◌<◌}
use native.Mathlib.Numerals.{add-one}
use native.Mathlib.Omega.{arith}
use lib.ListN.{length, get_or, set, length-set}
use Rattle.picture.specs.Pictures.{Picture, places, value_at}
use Rattle.picture.specs.Geometry.{neighbours_in}
use Rattle.picture.proofs.Neighbours.{Placed}
use Rattle.topology.proofs.Accepted.{placed, places-bound}
use Rattle.tree_laws.proofs.Levels.{Earlier, upto-gap}
use Rattle.tree_laws.proofs.Forests.{Parents, Found, Linked, linked-size}
use Rattle.tree_laws.proofs.Joins.{Edge, edge-touch, edge-within}
use Rattle.tree_laws.proofs.Chains.{map_in, NextOfValue, upto_skip, upto-of}
use Rattle.filling_laws.proofs.FillLevels.{count_state, first_settled}
use Rattle.filling_laws.proofs.FillLinks.{Together}
use Rattle.filling_laws.proofs.FillJoins.{FillClasses, FillAsked, asked-few, fill-upto, RootsSeen, FillNear, fill-near-start, fill-near-end, fill-near-skip, roots-seen, fill-near-same, fill-near-touched, fill-near-linked}

-- x is joined to some of its neighbours, and y is the next
pub record FillEdgeReady (pixels : List ℕ) (s k x r y : ℕ) (l : List ℕ) : Type 0 where
  pub p : Picture
  pub j : ℕ
  pub asked : FillAsked p s
  pub is : p.pixels ≡ pixels
  pub edge : Edge p x j y
  pub near : FillNear p s k x j r l

-- then x is joined to y too
pub record FillEdgeDone (pixels : List ℕ) (s k x r y : ℕ) (l : List ℕ) (q : ℕ) (m : List ℕ) : Type 0 where
  pub size : length m ≡ length l
  pub near :
      (p : Picture) (j : ℕ) → FillAsked p s → p.pixels ≡ pixels → Edge p x j y → FillNear p s k x j r l → FillNear p s k x (suc j) q m

-- what the code sees of the neighbour y
pub record NeighbourSeen (pixels : List ℕ) (s y : ℕ) (l : List ℕ) : Type 0 where
  pub few : s ≤ 1600
  pub pixel : y < length pixels
  pub within : y < length l
  pub parents : Parents l

module _ {pixels : List ℕ} {s k x r y : ℕ} {l : List ℕ} where
  pub neighbour-seen : FillEdgeReady pixels s k x r y l → NeighbourSeen pixels s y l
  neighbour-seen e =
      let (a, b) = edge-within e.p e.asked.ok k x e.j y pixels l e.edge e.is e.near.classes.size in
      record { few = asked-few e.asked; pixel = a; within = b; parents = e.near.classes.forest.parents }

  pub fill-done-skip : (Earlier k x y (get_or pixels y 0) → ⊥) → FillEdgeDone pixels s k x r y l r l
  fill-done-skip c =
      record {
        size = refl;
        near =
            λ p j a e g n.
            fill-near-skip p s a k x j r l n y g (λ u. c (subst (λ (v : List ℕ). Earlier k x y (get_or v y 0)) e u.passed));
      }

  module _ (c : Earlier k x y (get_or pixels y 0)) {m : List ℕ} {q : ℕ} (f : Found l y q m) where
    pub fill-roots : FillEdgeReady pixels s k x r y l → RootsSeen q r m
    fill-roots e =
        let (b, t) = edge-touch e.p e.asked.ok k x e.j y e.edge in
        roots-seen e.p s e.asked k x e.j r l e.near y (upto-of e.p e.is b c) t f

    pub fill-done-same : q ≡ r → FillEdgeDone pixels s k x r y l r m
    fill-done-same h =
        record {
          size = f.walked.size;
          near =
              λ p j a e g n.
              let (b, t) = edge-touch p a.ok k x j y g in
              fill-near-same p s a k x j r l n y (upto-of p e b c) t f g h;
        }

    pub fill-done-touched : {d : ℕ} → d ≡ count_state s → first_settled ≤ get_or m q 0 → FillEdgeDone pixels s k x r y l r (set m r d)
    fill-done-touched {d} w h =
        record {
          size = length-set m r d ∙ f.walked.size;
          near =
              λ p j a e g n.
              let (b, t) = edge-touch p a.ok k x j y g in
              subst (λ (i : ℕ). FillNear p s k x (suc j) r (set m r i)) (sym w)
              (fill-near-touched p s a k x j r l n y (upto-of p e b c) t f g h);
        }

    pub fill-done-linked :
        {d lo : ℕ} {o : List ℕ} → Together s (get_or m q 0) (get_or m r 0) d → get_or m q 0 < first_settled → Linked q r d m o lo →
        FillEdgeDone pixels s k x r y l lo o
    fill-done-linked {d} {lo} w h i =
        record {
          size = linked-size i ∙ f.walked.size;
          near =
              λ p j a e g n.
              let (b, t) = edge-touch p a.ok k x j y g in
              subst (λ (v : List ℕ). FillNear p s k x (suc j) lo v) (sym i.cells)
              (fill-near-linked p s a k x j r l n y (upto-of p e b c) t f h i.order d w g);
        }

-- the pixels of height k before x have joined the classes; x is the next one, or beyond the picture
pub record FillWalk (p : Picture) (s k x : ℕ) (l : List ℕ) : Type 0 where
  pub asked : FillAsked p s
  pub classes : FillClasses p s k k x l
  pub is : x < places p → value_at p x ≡ k

-- one pixel further
pub record FillPixelDone (p : Picture) (s k x : ℕ) (l : List ℕ) : Type 0 where
  pub classes : FillClasses p s k k (suc x) l

-- the pixel x is joined to the first i of its neighbours
pub record FillJoining (p : Picture) (s k x i r : ℕ) (l : List ℕ) : Type 0 where
  pub asked : FillAsked p s
  pub most : i ≤ length (neighbours_in p x)
  pub near : FillNear p s k x i r l

module _ {p : Picture} {s k x : ℕ} where
  pub fill-walk-placed : {l : List ℕ} → FillWalk p s k x l → x < length l → Placed p.width p.height x
  fill-walk-placed w b = placed p w.asked.ok x (let e = w.classes.size in omega arith)

  pub fill-walk-parents : {l : List ℕ} → FillWalk p s k x l → Parents l
  fill-walk-parents w = w.classes.forest.parents

  pub fill-joining-start : {r : ℕ} {l m : List ℕ} → FillWalk p s k x l → x < length l → Found l x r m → FillJoining p s k x 0 r m
  fill-joining-start {r} {l} {m} w b f =
      let c : x < places p = let e = w.classes.size in omega arith in
      record {
        asked = w.asked;
        most = omega arith;
        near = fill-near-start p s w.asked k x r l m w.classes c (w.is c) f;
      }

  pub fill-edge-ready : {i r y : ℕ} {l : List ℕ} → FillJoining p s k x i r l → Edge p x i y → FillEdgeReady p.pixels s k x r y l
  fill-edge-ready {i} a e = record { p = p; j = i; asked = a.asked; is = refl; edge = e; near = a.near }

  pub fill-joining-turn :
      {i r y q : ℕ} {l m : List ℕ} → FillJoining p s k x i r l → Edge p x i y → FillEdgeDone p.pixels s k x r y l q m → FillJoining p s k x (i + 1) q m
  fill-joining-turn {i} {q = q} {m = m} a e d =
      let b = e.listed in
      record {
        asked = a.asked;
        most = omega arith;
        near = subst (λ (j : ℕ). FillNear p s k x j q m) (sym (add-one i)) (d.near p i a.asked refl e a.near);
      }

  pub fill-joining-end : {i r : ℕ} {l : List ℕ} → FillJoining p s k x i r l → length (neighbours_in p x) ≤ i → FillPixelDone p s k x l
  fill-joining-end {i} {r} {l} a b =
      let m = a.most in
      let all : i ≡ length (neighbours_in p x) = omega arith in
      record { classes = fill-near-end p s a.asked k x r l (subst (λ (j : ℕ). FillNear p s k x j r l) all a.near) }

-- the chains of equal values, in the third block of four
pub record Links (p : Picture) (w : List ℕ) : Type 0 where
  pub room : length w ≡ 4 * places p
  pub next : (y : ℕ) → y < places p → NextOfValue p (value_at p y) (suc y) (map_in p w y)

pub links-next : {p : Picture} {w : List ℕ} {k x q : ℕ} → Links p w → x < places p → value_at p x ≡ k → q ≡ map_in p w x → NextOfValue p k (suc x) q
links-next {p} {w} {k} {x} t b v e =
    subst (λ (z : ℕ). NextOfValue p k (suc x) z) (sym e) (subst (λ (j : ℕ). NextOfValue p j (suc x) (map_in p w x)) v (t.next x b))

module _
    {p : Picture} {s k x : ℕ} {l m w : List ℕ} (a : FillWalk p s k x l) (t : Links p w) (b : x < length l) (d : FillPixelDone p s k x m) where
  -- the link of x can be read
  pub fill-walk-bounds : (length m ≤ 1600) × (x < length m) × (2 * length m + x < length w)
  fill-walk-bounds =
      let e = a.classes.size in
      let f = d.classes.size in
      let g = places-bound p a.asked.ok in
      let h = t.room in
      (omega arith, omega arith, omega arith)

  -- on to the next pixel of the chain
  pub fill-walk-next : {q : ℕ} → q ≡ get_or w (2 * length m + x) 0 → FillWalk p s k q m × (x < q)
  fill-walk-next {q} e =
      let c : x < places p = let z = a.classes.size in omega arith in
      let same : 2 * length m + x ≡ 2 * places p + x = let z = d.classes.size in omega arith in
      let n = links-next t c (a.is c) (e ∙ ap (λ (j : ℕ). get_or w j 0) same) in
      let f = n.from in (
        record {
          asked = a.asked;
          classes = fill-upto p s k k (suc x) q m (λ y u. upto_skip p k (suc x) q y n u) d.classes;
          is = n.is;
        },
        omega arith,
      )

-- all pixels of height k have joined
pub record FillJoined (p : Picture) (s k : ℕ) (l : List ℕ) : Type 0 where
  pub asked : FillAsked p s
  pub classes : FillClasses p s k k (places p) l

pub fill-walk-end : {p : Picture} {s k x : ℕ} {l : List ℕ} → FillWalk p s k x l → length l ≤ x → FillJoined p s k l
fill-walk-end {p} {s} {k} {x} {l} a b =
    record {
      asked = a.asked;
      classes =
          fill-upto p s k k x (places p) l
          (λ y u. upto-gap p k x (places p) y (λ z h g. let e = a.classes.size in absurd (omega arith)) u)
          a.classes;
    }
