-- The walk along the chain of one height: each of its pixels joins the classes.
use mathlib.Core.Path.{◌≡◌, refl, sym, subst, ◌∙◌}
use mathlib.Core.Logic.{◌⊎◌, inl, inr, ⊎_elim}
use mathlib.Core.List.{List}
use Prim.Native.Nat.{ℕ, suc, ◌+◌, ◌*◌, ◌≤◌, ◌<◌}
use native.Mathlib.Numerals.{add-one}
use native.Mathlib.Omega.{arith}
use lib.ListN.{length, get_or}
use Rattle.picture.specs.Pictures.{Picture, places, value_at}
use Rattle.picture.specs.Geometry.{neighbours_in}
use Rattle.picture.proofs.Neighbours.{Placed}
use Rattle.topology.proofs.Accepted.{Accepted, placed}
use Rattle.lists.specs.Blocks.{UntouchedOutside}
use Rattle.lists.proofs.Blocks.{untouched-refl, untouched-trans}
use Rattle.tree_laws.proofs.Levels.{upto-gap}
use Rattle.tree_laws.proofs.Forests.{Found, Parents}
use Rattle.tree_laws.proofs.Classes.{Classes, classes-upto}
use Rattle.tree_laws.proofs.Joins.{Near, Edge, near-start, near-end}
use Rattle.tree_laws.proofs.Chains.{fathers_in, map_in, Chained, chained_same, chained-next, classes-skip, EdgeReady, EdgeDone}

-- the pixels of height k before x have joined the classes; x is the next one, or beyond the picture
pub record WalkReady (p : Picture) (k x : ℕ) (l w : List ℕ) : Type 0 where
  pub ok : Accepted p
  pub room : length w ≡ 4 * places p
  pub classes : Classes p k x l (fathers_in p w)
  pub chained : Chained p k 0 (map_in p w)
  pub is : x < places p → value_at p x ≡ k

-- one pixel further
pub record PixelJoined (p : Picture) (k x r : ℕ) (m w v : List ℕ) : Type 0 where
  pub ready : WalkReady p k r m v
  pub more : x < r
  pub block : UntouchedOutside (places p) (places p) w v

-- the pixel x is joined to the first i of its neighbours
pub record Joining (p : Picture) (k x i r : ℕ) (l w v : List ℕ) : Type 0 where
  pub ok : Accepted p
  pub room : length v ≡ 4 * places p
  pub most : i ≤ length (neighbours_in p x)
  pub near : Near p k x i r l (fathers_in p v)
  pub block : UntouchedOutside (places p) (places p) w v

pub ready-parents : {p : Picture} {k x : ℕ} {l w : List ℕ} → WalkReady p k x l w → Parents l
ready-parents r = r.classes.forest.parents

pub chained-block : (p : Picture) (k x b : ℕ) (w v : List ℕ) → Chained p k x (map_in p w) → UntouchedOutside b (places p) w v → (b + places p ≤ 2 * places p) ⊎ (3 * places p ≤ b) → Chained p k x (map_in p v)
chained-block p k x b w v t k' o =
    chained_same p k x (map_in p w) (map_in p v)
    (λ y h. k'.outside (2 * places p + y) (⊎_elim (λ a. inr (omega arith)) (λ a. inl (omega arith)) o))
    t

module _ (p : Picture) (k x : ℕ) where
  pub joining-start : (r : ℕ) (l m w : List ℕ) → WalkReady p k x l w → x < places p → Found l x r m → Joining p k x 0 r m w w
  joining-start r l m w a b f =
      record {
        ok = a.ok;
        room = a.room;
        most = omega arith;
        near = near-start p a.ok k x r l m (fathers_in p w) a.classes b (a.is b) f;
        block = untouched-refl (places p) (places p) w;
      }

  pub edge-ready : (i r y : ℕ) (l w v : List ℕ) → Joining p k x i r l w v → Edge p x i y → EdgeReady p.pixels k x r y l v
  edge-ready i r y l w v a e =
      record {
        p = p;
        j = i;
        ok = a.ok;
        room = a.room;
        is = refl;
        edge = e;
        near = a.near;
      }

  pub joining-turn :
      (i r y q : ℕ) (l m w v u : List ℕ) → Joining p k x i r l w v → Edge p x i y → EdgeDone p.pixels k x r y l v q m u →
      Joining p k x (i + 1) q m w u
  joining-turn i r y q l m w v u a e d =
      let b = e.listed in
      let block = subst (λ (n : ℕ). UntouchedOutside n n v u) a.near.classes.size d.block in
      record {
        ok = a.ok;
        room = block.size ∙ a.room;
        most = omega arith;
        near =
            subst (λ (j : ℕ). Near p k x j q m (fathers_in p u)) (sym (add-one i))
            (d.near p i a.ok refl e a.near);
        block = untouched-trans (places p) (places p) w v u a.block block;
      }

  pub joining-end :
      (i r q : ℕ) (l w v o : List ℕ) → Joining p k x i r l w v → length (neighbours_in p x) ≤ i → WalkReady p k x o w →
      q ≡ get_or v (2 * places p + x) 0 → PixelJoined p k x q l w v
  joining-end i r q l w v o a b s e =
      let t = chained-block p k 0 (places p) w v s.chained a.block (inl (omega arith)) in
      let n = a.near in
      let next = chained-next p k 0 x q (map_in p v) t (omega arith) n.within n.value e in
      let m = a.most in
      let all : i ≡ length (neighbours_in p x) = omega arith in
      record {
        ready =
            record {
              ok = a.ok;
              room = a.room;
              classes =
                  classes-skip p k (suc x) q l (fathers_in p v) next
                  (near-end p a.ok k x r l (fathers_in p v) (subst (λ (j : ℕ). Near p k x j r l (fathers_in p v)) all n));
              chained = t;
              is = next.is;
            };
        more = let f = next.from in omega arith;
        block = a.block;
      }

pub ready-placed : (p : Picture) (k x : ℕ) (l w : List ℕ) → WalkReady p k x l w → x < length l → Placed p.width p.height x
ready-placed p k x l w r b = placed p r.ok x (let e = r.classes.size in omega arith)

-- the chain of a height is done
pub ready-end : (p : Picture) (k x : ℕ) (l w : List ℕ) → WalkReady p k x l w → places p ≤ x → WalkReady p k (places p) l w
ready-end p k x l w r b =
    record {
      ok = r.ok;
      room = r.room;
      classes =
          classes-upto p k x (places p) l (fathers_in p w)
          (λ y u. upto-gap p k x (places p) y (λ z h g. absurd (omega arith)) u)
          r.classes;
      chained = r.chained;
      is = λ h. absurd (omega arith);
    }
