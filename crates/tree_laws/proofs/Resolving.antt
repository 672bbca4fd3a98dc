-- After the last height each father's entry, a pixel, is replaced by the node of the pixel.
use mathlib.Core.Path.{◌≡◌, refl, sym, ap, subst, ◌∙◌}
use mathlib.Core.Logic.{inl, by_cases, ◌≢◌}
use mathlib.Core.List.{List}
use Prim.Native.Nat.{ℕ, suc, ◌+◌, ◌*◌, ◌≤◌, ◌<◌}
use native.Mathlib.Numerals.{add-one}
use native.Mathlib.Decide.{ℕ_discrete}
use native.Mathlib.Omega.{arith}
use lib.ListN.{length, get_or, set, length-set}
use lib.Seq.{get_or-set_same, get_or-set_other}
use Rattle.picture.specs.Pictures.{Picture, places}
use Rattle.picture.specs.Trees.{nodes, node_at, father_of, map_of}
use Rattle.topology.proofs.Accepted.{Accepted, byte_at, places-bound}
use Rattle.topology.proofs.Nodes.{nodes-few}
use Rattle.lists.proofs.Blocks.{untouched-refl, untouched-set}
use Rattle.tree_laws.proofs.Counts.{so-all}
use Rattle.tree_laws.proofs.LastFathers.{LastFather, missing, pixel, last-father}
use Rattle.tree_laws.proofs.Chains.{fathers_in, map_in}
use Rattle.tree_laws.proofs.Listing.{NodesIn, nodes-block}
use Rattle.tree_laws.proofs.Mapped.{Between}

-- the fathers of the first i nodes are resolved
pub record Resolving (p : Picture) (i : ℕ) (w : List ℕ) : Type 0 where
  pub ok : Accepted p
  pub room : length w ≡ 4 * places p
  pub listed : NodesIn p (length (nodes p)) w
  pub map : (x : ℕ) → x < places p → map_in p w x ≡ map_of p x
  pub done : (j : ℕ) → j < i → j < length (nodes p) → fathers_in p w j ≡ father_of p (node_at p j)
  pub left : (j : ℕ) → i ≤ j → j < length (nodes p) → LastFather p (fathers_in p w j) j

-- the entry i is resolved
pub data ResolvedOne (n i : ℕ) (w v : List ℕ) : Type 0 where
  stays : get_or w (n + i) 0 ≡ 65535 → v ≡ w → ResolvedOne n i w v
  moves : get_or w (n + i) 0 ≢ 65535 → v ≡ set w (n + i) (get_or w (2 * n + get_or w (n + i) 0) 0) → ResolvedOne n i w v

-- what the step asks
pub record ResolveBounds (n i : ℕ) (w : List ℕ) : Type 0 where
  pub within : i < n
  pub room : length w ≡ 4 * n
  pub pixel : get_or w (n + i) 0 ≢ 65535 → get_or w (n + i) 0 < n

-- some picture's fathers can be resolved
pub record ResolveReady (n c : ℕ) (w : List ℕ) : Type 0 where
  pub p : Picture
  pub size : n ≡ places p
  pub count : c ≡ length (nodes p)
  pub resolving : Resolving p 0 w

-- the entries of the first i nodes are resolved
pub record ResolveWalk (n c i : ℕ) (w v : List ℕ) : Type 0 where
  pub most : i ≤ c
  pub size : length v ≡ length w
  pub from : (p : Picture) → n ≡ places p → c ≡ length (nodes p) → Resolving p 0 w → Resolving p i v

pub between-resolve : (p : Picture) (c : ℕ) (l w : List ℕ) → Between p 256 c l w → (c ≡ length (nodes p)) × Resolving p 0 w
between-resolve p c l w b =
    let e : c ≡ length (nodes p) = b.count ∙ so-all p in (
      e,
      record {
        ok = b.ok;
        room = b.room;
        listed = subst (λ (i : ℕ). NodesIn p i w) e b.nodes;
        map = λ x h. b.chained.mapped x (record { within = h; passed = inl (let q = byte_at p.pixels b.ok.bytes x in omega arith) });
        done = λ j h g. absurd (omega arith);
        left =
            λ j h g.
            last-father p b.ok b.classes.root b.classes.st (fathers_in p w j) j g
            (b.classes.level.fathers j (let q = so-all p in omega arith));
      },
    )

pub resolve-none : (n c : ℕ) (w : List ℕ) → ResolveWalk n c 0 w w
resolve-none n c w = record { most = omega arith; size = refl; from = λ p e q s. s }

pub resolve-bounds : (n c i : ℕ) (w v : List ℕ) → ResolveReady n c w → ResolveWalk n c i w v → i < c → ResolveBounds n i v
resolve-bounds n c i w v r s h = by r.p r.size (s.from r.p r.size r.count r.resolving) r.count
  where
    by : (p : Picture) → n ≡ places p → Resolving p i v → c ≡ length (nodes p) → ResolveBounds n i v
    by p e g q =
        let few = nodes-few p in
        let room = g.room in
        let at : get_or v (n + i) 0 ≡ fathers_in p v i = ap (λ (m : ℕ). get_or v (m + i) 0) e in
        record { within = omega arith; room = omega arith; pixel = λ d. small at d (g.left i (omega arith) (omega arith)) }
      where
        small : get_or v (n + i) 0 ≡ fathers_in p v i → get_or v (n + i) 0 ≢ 65535 → LastFather p (fathers_in p v i) i → get_or v (n + i) 0 < n
        small at d (missing a b) = absurd (d (at ∙ a))
        small at d (pixel a b) = omega arith

pub resolve-turn : (n c i : ℕ) (w v u : List ℕ) → ResolveWalk n c i w v → i < c → ResolvedOne n i v u → ResolveWalk n c (i + 1) w u
resolve-turn n c i w v u s h t =
    record {
      most = omega arith;
      size = sizes t ∙ s.size;
      from =
          λ p e q g.
          subst (λ (j : ℕ). Resolving p j u) (sym (add-one i))
          (by p (let z = nodes-few p in (omega arith, omega arith)) (s.from p e q g) (subst (λ (m : ℕ). ResolvedOne m i v u) e t));
    }
  where
    sizes : ResolvedOne n i v u → length u ≡ length v
    sizes (stays a b) = ap length b
    sizes (moves a b) = ap length b ∙ length-set v (n + i) (get_or v (2 * n + get_or v (n + i) 0) 0)

    by : (p : Picture) → (i < length (nodes p)) × (length (nodes p) ≤ places p) → Resolving p i v → ResolvedOne (places p) i v u → Resolving p (suc i) u
    by p few g (stays a b) =
        let is = none (g.left i (omega arith) few.0) in
        subst (Resolving p (suc i)) (sym b)
        (record {
          ok = g.ok;
          room = g.room;
          listed = g.listed;
          map = g.map;
          done =
              λ j q k.
              by_cases (ℕ_discrete j i)
              (λ z. subst (λ (m : ℕ). fathers_in p v m ≡ father_of p (node_at p m)) (sym z) is)
              (λ z. g.done j (omega arith) k);
          left = λ j q k. g.left j (omega arith) k;
        })
      where
        none : LastFather p (fathers_in p v i) i → fathers_in p v i ≡ father_of p (node_at p i)
        none (missing x y) = x ∙ sym y
        none (pixel x y) = absurd (let z = places-bound p g.ok in omega arith)
    by p few g (moves a b) =
        let lo = few.0 in
        let hi = few.1 in
        let is = own (g.left i (omega arith) few.0) in
        subst (Resolving p (suc i)) (sym b)
        (record {
          ok = g.ok;
          room = length-set v (places p + i) father ∙ g.room;
          listed =
              nodes-block p (length (nodes p)) (places p) v (set v (places p + i) father) hi (omega arith) (omega arith)
              (untouched-set (places p) (places p) i father v v (omega arith) (untouched-refl (places p) (places p) v))
              g.listed;
          map = λ x k. other (2 * places p + x) (λ z. omega arith) ∙ g.map x k;
          done =
              λ j q k.
              by_cases (ℕ_discrete j i)
              (λ z. subst (λ (m : ℕ). fathers_in p (set v (places p + i) father) m ≡ father_of p (node_at p m)) (sym z) is)
              (λ z. other (places p + j) (λ y. z (omega arith)) ∙ g.done j (omega arith) k);
          left =
              λ j q k.
              subst (λ (m : ℕ). LastFather p m j) (sym (other (places p + j) (λ y. omega arith))) (g.left j (omega arith) k);
        })
      where
        father : ℕ
        father = get_or v (2 * places p + get_or v (places p + i) 0) 0

        other : (j : ℕ) → j ≢ places p + i → get_or (set v (places p + i) father) j 0 ≡ get_or v j 0
        other j z = get_or-set_other v (places p + i) j father 0 z

        own : LastFather p (fathers_in p v i) i → fathers_in p (set v (places p + i) father) i ≡ father_of p (node_at p i)
        own (missing x y) = absurd (a x)
        own (pixel x y) =
            get_or-set_same v (places p + i) father 0 (let z = g.room in let lo = few.0 in let hi = few.1 in omega arith) ∙
            (g.map (fathers_in p v i) x ∙ sym y)

pub resolve-end : (n c i : ℕ) (w v : List ℕ) → ResolveWalk n c i w v → c ≤ i → ResolveWalk n c c w v
resolve-end n c i w v s h = let a = s.most in subst (λ (j : ℕ). ResolveWalk n c j w v) (let e : i ≡ c = omega arith in e) s

pub resolve-move : (n i f : ℕ) (w : List ℕ) → f ≡ get_or w (n + i) 0 → get_or w (n + i) 0 ≢ 65535 → ResolvedOne n i w (set w (n + i) (get_or w (2 * n + f) 0))
resolve-move n i f w e d = moves d (ap (λ (g : ℕ). set w (n + i) (get_or w (2 * n + g) 0)) e)

pub resolve-ready : (p : Picture) (n c : ℕ) (l w : List ℕ) → Between p 256 c l w → n ≡ places p → ResolveReady n c w
resolve-ready p n c l w b e =
    let (q, s) = between-resolve p c l w b in record { p = p; size = e; count = q; resolving = s }

pub resolved : (p : Picture) (n c : ℕ) (l w v : List ℕ) → Between p 256 c l w → n ≡ places p → ResolveWalk n c c w v → (c ≡ length (nodes p)) × Resolving p (length (nodes p)) v
resolved p n c l w v b e s =
    let (q, g) = between-resolve p c l w b in (q, subst (λ (i : ℕ). Resolving p i v) q (s.from p e q g))
