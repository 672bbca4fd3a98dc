-- The walks that number the listed roots of a height and map its pixels; what holds between two heights.
use mathlib.Core.Path.{◌≡◌, refl, sym, ap, subst, ◌∙◌}
use mathlib.Core.Logic.{inl, ⊎_elim, by_cases, ◌≢◌}
use mathlib.Core.List.{List}
use Prim.Native.Nat.{ℕ, suc, ◌+◌, ◌-◌, ◌*◌, ◌≤◌, ◌<◌}
use native.Mathlib.Numerals.{add-one}
use native.Mathlib.Decide.{ℕ_discrete}
use native.Mathlib.Omega.{arith}
use lib.ListN.{length, get_or, set, length-set}
use lib.Seq.{get_or-set_same, get_or-set_other}
use Rattle.picture.specs.Pictures.{Picture, places, value_at}
use Rattle.picture.specs.Trees.{map_of}
use Rattle.topology.proofs.Accepted.{Accepted, places-bound}
use Rattle.topology.proofs.Descent.{under, map-under}
use Rattle.tree_laws.proofs.Levels.{Upto, upto_before, upto_all, upto_next}
use Rattle.tree_laws.proofs.Counts.{so_far, so-places}
use Rattle.lists.specs.Blocks.{UntouchedOutside}
use Rattle.lists.proofs.Blocks.{untouched-refl, untouched-set}
use Rattle.tree_laws.proofs.Forests.{Found, found-root, found-state, Parents}
use Rattle.tree_laws.proofs.Classes.{Classes, classes-found, classes-fathers}
use Rattle.tree_laws.proofs.Chains.{fathers_in, map_in, NextOfValue, After, after-mono, Chained, chained-next, upto_skip, classes-skip}
use Rattle.tree_laws.proofs.Walks.{WalkReady}
use Rattle.tree_laws.proofs.Listing.{firsts_in, NodesIn, nodes-block, Listing, list-start}
use Rattle.tree_laws.proofs.ListWalks.{ListFrom, ListReady}
use Rattle.tree_laws.proofs.Naming.{Naming, Mapping, naming-start, naming-turn, naming-few, naming-end}
use Rattle.tree_laws.proofs.States.{first_node, node_state}

-- the heights below k are done: c nodes, their heights, first places and entries of fathers, the map below, the chains above
pub record Between (p : Picture) (k c : ℕ) (l w : List ℕ) : Type 0 where
  pub ok : Accepted p
  pub room : length w ≡ 4 * places p
  pub count : c ≡ so_far p k
  pub nodes : NodesIn p c w
  pub classes : Classes p k 0 l (fathers_in p w)
  pub chained : Chained p k 0 (map_in p w)

-- some picture's list is whole
pub record NameReady (k c d : ℕ) (l w : List ℕ) : Type 0 where
  pub p : Picture
  pub listing : Listing p k c d (places p) l w

-- the root listed at i has its number
pub record NamedOne (k i : ℕ) (l w m v : List ℕ) : Type 0 where
  pub cells : m ≡ set l (get_or w (3 * length l + i) 0) (node_state i)
  pub work : v ≡ set (set w i k) (length l + i) 65535

-- the listed roots from c on, before i, have their numbers
pub record NameWalk (k c d i : ℕ) (l w m v : List ℕ) : Type 0 where
  pub from : c ≤ i
  pub most : i ≤ d
  pub size : length m ≡ length l
  pub same : length v ≡ length w
  pub naming : (p : Picture) → Listing p k c d (places p) l w → Naming p k c d i m w v

-- what the step asks
pub record NameBounds (i : ℕ) (l w : List ℕ) : Type 0 where
  pub few : length l ≤ 1600
  pub within : i < length l
  pub room : length w ≡ 4 * length l
  pub root : get_or w (3 * length l + i) 0 < length l

pub name-start : (k c d : ℕ) (l w : List ℕ) → NameReady k c d l w → NameWalk k c d c l w l w
name-start k c d l w r =
    record {
      from = omega arith;
      most = r.listing.roots.order;
      size = refl;
      same = refl;
      naming = λ p s. naming-start p k c d (places p) l w s (omega arith);
    }

pub name-bounds : (k c d i : ℕ) (l w m v : List ℕ) → NameReady k c d l w → NameWalk k c d i l w m v → i < d → NameBounds i m v
name-bounds k c d i l w m v r s h = by r.p (s.naming r.p r.listing)
  where
    by : (p : Picture) → Naming p k c d i m w v → NameBounds i m v
    by p n =
        let few = naming-few p k c d i m w v n in
        let a = places-bound p n.cells.joined.ok in
        let e = n.cells.size in
        let z = n.room in
        let f = (n.listed.roots.place i s.from h).within in
        let q = n.rest (3 * places p + i) (λ t. omega arith) (λ t. omega arith) in
        let at : get_or v (3 * length m + i) 0 ≡ get_or v (3 * places p + i) 0 = ap (λ (t : ℕ). get_or v (3 * t + i) 0) e in
        record { few = omega arith; within = omega arith; room = omega arith; root = omega arith }

pub name-turn : (k c d i : ℕ) (l w m v o u : List ℕ) → NameWalk k c d i l w m v → i < d → NamedOne k i m v o u → NameWalk k c d (i + 1) l w o u
name-turn k c d i l w m v o u s h t =
    let f = s.from in
    record {
      from = omega arith;
      most = omega arith;
      size = ap length t.cells ∙ (length-set m (get_or v (3 * length m + i) 0) (node_state i) ∙ s.size);
      same = ap length t.work ∙ (length-set (set v i k) (length m + i) 65535 ∙ (length-set v i k ∙ s.same));
      naming =
          λ p g.
          let n = s.naming p g in
          let at : get_or v (3 * length m + i) 0 ≡ firsts_in p v i = ap (λ (z : ℕ). get_or v (3 * z + i) 0) n.cells.size in
          subst (λ (a : List ℕ). Naming p k c d (i + 1) a w u) (sym t.cells)
          (subst (λ (a : List ℕ). Naming p k c d (i + 1) (set m (get_or v (3 * length m + i) 0) (node_state i)) w a) (sym t.work)
          (subst
          (λ (z : ℕ). Naming p k c d (i + 1) (set m (get_or v (3 * length m + i) 0) (node_state i)) w (set (set v i k) (z + i) 65535))
          (sym n.cells.size)
          (naming-turn p k c d i (get_or v (3 * length m + i) 0) m w v n s.from h at)));
    }

-- the pixels of the height before x are mapped; x is the next, or beyond the picture
pub record MapFrom (p : Picture) (k d x : ℕ) (l w : List ℕ) : Type 0 where
  pub mapping : Mapping p k d x l w
  pub is : x < places p → value_at p x ≡ k

-- some picture's pixels of one height can be mapped from x on
pub record MapReady (x : ℕ) (l w : List ℕ) : Type 0 where
  pub p : Picture
  pub k : ℕ
  pub d : ℕ
  pub from : MapFrom p k d x l w

-- the pixel x gets the node that its root r says, and q is the next pixel
pub record MappedOne (x q : ℕ) (l w m v : List ℕ) : Type 0 where
  pub r : ℕ
  pub found : Found l x r m
  pub work : v ≡ set w (2 * length l + x) (get_or m r 0 - first_node)
  pub next : q ≡ get_or w (2 * length l + x) 0

-- the walk from x has come to y
pub record MapWalk (x : ℕ) (l w : List ℕ) (y : ℕ) (m v : List ℕ) : Type 0 where
  pub size : length m ≡ length l
  pub same : length v ≡ length w
  pub from : (p : Picture) (k d : ℕ) → MapFrom p k d x l w → MapFrom p k d y m v

pub map-none : (x : ℕ) (l w : List ℕ) → MapWalk x l w x l w
map-none x l w = record { size = refl; same = refl; from = λ p k d s. s }

pub map-ready : (x y : ℕ) (l w m v : List ℕ) → MapReady x l w → MapWalk x l w y m v → MapReady y m v
map-ready x y l w m v r s = record { p = r.p; k = r.k; d = r.d; from = s.from r.p r.k r.d r.from }

pub map-parents : (x : ℕ) (l w : List ℕ) → MapReady x l w → Parents l
map-parents x l w r = r.from.mapping.classes.forest.parents

pub map-bounds : (x : ℕ) (l w : List ℕ) → MapReady x l w → length w ≡ 4 * length l
map-bounds x l w r = let a = r.from.mapping.room in let b = r.from.mapping.classes.size in omega arith

module _ (p : Picture) (k d x q : ℕ) (l w m v : List ℕ) (s : MapFrom p k d x l w) (b : x < places p) (t : MappedOne x q l w m v) where
  abbrev g : Mapping p k d x l w
  g = s.mapping

  value : value_at p x ≡ k
  value = s.is b

  at : 2 * length l + x ≡ 2 * places p + x
  at = let e = g.classes.size in omega arith

  next : NextOfValue p k (suc x) q
  next = chained-next p k x x q (map_in p w) g.chained (omega arith) b value (t.next ∙ ap (λ (z : ℕ). get_or w z 0) at)

  work : v ≡ set w (2 * places p + x) (get_or m t.r 0 - first_node)
  work = t.work ∙ ap (λ (z : ℕ). set w z (get_or m t.r 0 - first_node)) at

  room : 2 * places p + x < length w
  room = let e = g.room in omega (arith, b)

  cs : Classes p (suc k) 0 m (fathers_in p w)
  cs = classes-found p (suc k) 0 l (fathers_in p w) g.classes t.found

  says-x : get_or m t.r 0 - first_node ≡ map_of p x
  says-x =
      let f = t.found in
      let r = found-root f g.classes.forest in
      let a = found-state f g.classes.forest in
      let c = g.says x (record { within = b; low = let z = value in omega arith }) in
      let e = ap g.classes.st r in
      let h : map_of p x ≡ under p k x = map-under p x ∙ ap (λ (j : ℕ). under p j x) value in
      omega arith

  mapped-x : map_in p v x ≡ map_of p x
  mapped-x =
      ap (λ (a : List ℕ). get_or a (2 * places p + x) 0) work ∙
      (get_or-set_same w (2 * places p + x) (get_or m t.r 0 - first_node) 0 room ∙ says-x)

  block : UntouchedOutside (2 * places p) (places p) w v
  block = subst (UntouchedOutside (2 * places p) (places p) w) (sym work) (untouched-set (2 * places p) (places p) x (get_or m t.r 0 - first_node) w w b (untouched-refl (2 * places p) (places p) w))

  mapped-other : (y : ℕ) → y ≢ x → map_in p v y ≡ map_in p w y
  mapped-other y e =
      ap (λ (a : List ℕ). get_or a (2 * places p + y) 0) work ∙
      get_or-set_other w (2 * places p + x) (2 * places p + y) (get_or m t.r 0 - first_node) 0 (λ z. e (omega arith))

  pub map-rises : x < q
  map-rises = let f = next.from in omega arith

  pub map-turn : MapFrom p k d q m v
  unfolding cs
  map-turn =
      record {
        mapping =
            record {
              ok = g.ok;
              room = block.size ∙ g.room;
              low = g.low;
              count = g.count;
              nodes = nodes-block p d (2 * places p) w v few (omega arith) (omega arith) block g.nodes;
              classes =
                  classes-fathers p (suc k) 0 m (fathers_in p w) cs (fathers_in p v)
                  (λ i h. let n = g.count in block.outside (places p + i) (inl (omega (arith, few))));
              says = g.says;
              chained = record { mapped = mapped; linked = linked };
            };
        is = next.is;
      }
    where
      few : d ≤ places p
      few = let a = so-places p (suc k) (let c = g.low in omega arith) in let n = g.count in omega arith

      mapped : (y : ℕ) → Upto p k q y → map_in p v y ≡ map_of p y
      mapped y u =
          by_cases (ℕ_discrete y x)
          (λ e. subst (λ (z : ℕ). map_in p v z ≡ map_of p z) (sym e) mapped-x)
          (λ e.
          mapped-other y e ∙
          g.chained.mapped y (upto_before p k x y e (upto_skip p k (suc x) q y next u)))

      linked : (y : ℕ) → After p k q y → NextOfValue p (value_at p y) (suc y) (map_in p v y)
      linked y a =
          let rises = map-rises in
          let e : y ≢ x = λ z. ⊎_elim (λ h. let i = ap (value_at p) z in omega (arith, value)) (λ h. let i = h.1 in omega arith) a.later in
          subst (λ (z : ℕ). NextOfValue p (value_at p y) (suc y) z) (sym (mapped-other y e))
          (g.chained.linked y (after-mono (omega arith) a))

pub map_more : (x y q : ℕ) (l w m v o u : List ℕ) → MapWalk x l w y m v → y < length m → MappedOne y q m v o u → MapWalk x l w q o u
map_more x y q l w m v o u s b t =
    record {
      size = t.found.walked.size ∙ s.size;
      same = ap length t.work ∙ (length-set v (2 * length m + y) (get_or o t.r 0 - first_node) ∙ s.same);
      from =
          λ p k d a.
          let g = s.from p k d a in
          map-turn p k d y q m v o u g (let e = g.mapping.classes.size in omega arith) t;
    }

pub map-less : (y q : ℕ) (m v o u : List ℕ) → MapReady y m v → y < length m → MappedOne y q m v o u → y < q
map-less y q m v o u r b t =
    map-rises r.p r.k r.d y q m v o u r.from (let e = r.from.mapping.classes.size in omega arith) t

-- the whole chain is mapped: on to the next height
pub map-end : (p : Picture) (k d x : ℕ) (l w : List ℕ) → MapFrom p k d x l w → places p ≤ x → Between p (suc k) d l w
map-end p k d x l w s h =
    let g = s.mapping in
    record {
      ok = g.ok;
      room = g.room;
      count = g.count;
      nodes = g.nodes;
      classes = g.classes;
      chained =
          record {
            mapped = λ y u. g.chained.mapped y (upto_all p k x y h (upto_next p k y u));
            linked =
                λ y a.
                g.chained.linked y
                (record { within = a.within; later = inl (⊎_elim (λ i. omega arith) (λ i. let z = i.0 in omega arith) a.later) });
          };
    }

-- the start of a height
pub between-ready : (p : Picture) (k c x : ℕ) (l w : List ℕ) → Between p k c l w → NextOfValue p k 0 x → WalkReady p k x l w
between-ready p k c x l w b n =
    record {
      ok = b.ok;
      room = b.room;
      classes = classes-skip p k 0 x l (fathers_in p w) n b.classes;
      chained = b.chained;
      is = n.is;
    }

-- after the height's pixels have joined, the list begins
pub between-list :
    (p : Picture) (k c x : ℕ) (l w m v : List ℕ) → k ≤ 255 → Between p k c l w → NextOfValue p k 0 x → WalkReady p k (places p) m v → UntouchedOutside (places p) (places p) w v →
    ListFrom p k c c x m v
between-list p k c x l w m v low b n r block =
    let e = b.count in
    let a = so-places p k (omega arith) in
    record {
      listing =
          list-start p k c x m v r low b.count
          (nodes-block p c (places p) w v (omega arith) (omega arith) (omega arith) block b.nodes)
          n;
      is = n.is;
    }

-- the pixels of a chain are mapped
pub record MapWhole (x : ℕ) (l w m v : List ℕ) : Type 0 where
  pub between : (p : Picture) (k d : ℕ) → MapFrom p k d x l w → Between p (k + 1) d m v

pub map_whole : (x y : ℕ) (l w m v : List ℕ) → MapWalk x l w y m v → length m ≤ y → MapWhole x l w m v
map_whole x y l w m v s h =
    record {
      between =
          λ p k d a.
          let g = s.from p k d a in
          subst (λ (j : ℕ). Between p j d m v) (sym (add-one k))
          (map-end p k d y m v g (let e = g.mapping.classes.size in omega arith));
    }

-- the list of a height is numbered: the map begins
pub name-map :
    (p : Picture) (k c d x : ℕ) (l w m v : List ℕ) → Listing p k c d (places p) l w → NameWalk k c d d l w m v → NextOfValue p k 0 x → MapFrom p k d x m v
name-map p k c d x l w m v s n h = record { mapping = naming-end p k c d m w v (n.naming p s) x h; is = h.is }

pub list-ready : {p : Picture} {k c d x : ℕ} {l w : List ℕ} → ListFrom p k c d x l w → ListReady c d x l w
list-ready {p} {k} s = record { p = p; k = k; from = s }

pub name-ready : {p : Picture} {k c d x : ℕ} {l w : List ℕ} → Listing p k c d x l w → x ≡ places p → NameReady k c d l w
name-ready {p} {k} {c} {d} {x} {l} {w} s e = record { p = p; listing = subst (λ (y : ℕ). Listing p k c d y l w) e s }

pub map-from-ready : {p : Picture} {k d x : ℕ} {l w : List ℕ} → MapFrom p k d x l w → MapReady x l w
map-from-ready {p} {k} {d} s = record { p = p; k = k; d = d; from = s }

pub name-end : (k c d i : ℕ) (l w m v : List ℕ) → NameWalk k c d i l w m v → d ≤ i → NameWalk k c d d l w m v
name-end k c d i l w m v s h =
    let a = s.most in subst (λ (j : ℕ). NameWalk k c d j l w m v) (let e : i ≡ d = omega arith in e) s

pub between-same : (p : Picture) (j k c : ℕ) (l w : List ℕ) → Between p j c l w → j ≡ k → Between p k c l w
between-same p j k c l w b e = subst (λ (i : ℕ). Between p i c l w) e b
