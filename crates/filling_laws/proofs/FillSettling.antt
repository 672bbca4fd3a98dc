-- The walk along the chain of a height that settles the classes which count s, and the step from one height to the next.
use mathlib.Core.Path.{◌≡◌, refl, sym, ap, subst, ◌∙◌}
use mathlib.Core.Logic.{inl, inr, by_cases, ◌≢◌}
use mathlib.Core.List.{List}
use Prim.Native.Nat.{ℕ, suc, ◌+◌, ◌*◌, ◌≤◌, ◌<◌}
use native.Mathlib.Decide.{ℕ_discrete, dec_lt}
use native.Mathlib.Numerals.{add-one}
use native.Mathlib.Omega.{arith}
use lib.ListN.{length, get_or, set, length-set}
use mathlib.Core.Bool.{true}
use Rattle.lists.specs.Blocks.{Filled}
use Rattle.lists.proofs.Blocks.{overwritten-entry}
use Rattle.picture.specs.Pictures.{Picture, places, value_at, is_picture}
use Rattle.topology.proofs.Connected.{conn-target}
use Rattle.topology.proofs.Adjacency.{At}
use Rattle.topology.proofs.Accepted.{accepted-is, places-bound}
use Rattle.lists.proofs.Updates.{put, put_same, put_other}
use Rattle.tree_laws.proofs.Forests.{Forest, Parents, Found, found-root, found-state, forest-state}
use Rattle.tree_laws.proofs.Chains.{NextOfValue, upto_skip}
use Rattle.tree_laws.proofs.Buckets.{HeightsBegin, Heads, fits-of}
use Rattle.filling_laws.proofs.FillLevels.{count_state, first_settled, settled_state, fills-next, edges-next}
use Rattle.filling_laws.proofs.FillLinks.{edges-stated, fills-settled}
use Rattle.filling_laws.proofs.FillJoins.{FillClasses, FillAsked, asked-few, fill_start, fill-cells, fill-upto}
use Rattle.filling_laws.proofs.FillWalks.{FillWalk, Links, links-next, FillJoined}

-- the classes of the pixels of value k before x that count s are settled
pub record Settling (p : Picture) (s k x : ℕ) (l : List ℕ) : Type 0 where
  pub asked : FillAsked p s
  pub low : k ≤ 255
  pub classes : FillClasses p s k (suc k) (places p) l
  pub done : (y : ℕ) → y < places p → value_at p y ≡ k → y < x → classes.st (classes.root y) ≢ count_state s

-- in the walk that settles, a settled height is at most k
pub settling-start : {p : Picture} {s k : ℕ} {l : List ℕ} → k ≤ 255 → FillJoined p s k l → Settling p s k 0 l
settling-start low a =
    let c = a.classes in
    let v = c.fills in
    record {
      asked = a.asked;
      low = low;
      classes =
          record {
            root = c.root;
            st = c.st;
            size = c.size;
            forest = c.forest;
            fills =
                record {
                  fixed = v.fixed;
                  later = v.later;
                  settled = λ y t h. let (e, b) = v.settled y t h in (e, omega arith);
                  joined = v.joined;
                  above = v.above;
                  count = v.count;
                  fresh = v.fresh;
                };
            edges = c.edges;
          };
      done = λ y b e h. absurd (omega arith);
    }

-- the class of x is settled if it counts s
pub record SettledOne (s k x : ℕ) (l m : List ℕ) : Type 0 where
  pub size : length m ≡ length l
  pub walk : (p : Picture) → Settling p s k x l → x < places p → value_at p x ≡ k → Settling p s k (suc x) m

module _ {s k x : ℕ} {l m : List ℕ} {r : ℕ} (f : Found l x r m) where
  module _ (p : Picture) (a : Settling p s k x l) (b : x < places p) (v : value_at p x ≡ k) where
    abbrev cs : FillClasses p s k (suc k) (places p) l
    cs = a.classes

    forest : Forest m cs.root cs.st
    forest = f.walked.keeps cs.root cs.st cs.forest

    root-x : cs.root x ≡ r
    root-x = found-root f cs.forest

    state-r : get_or m r 0 ≡ cs.st r
    state-r = found-state f cs.forest

    root-r : cs.root r ≡ r
    root-r = subst (λ (c : ℕ). cs.root c ≡ c) root-x (cs.fills.fixed x b)

    inside : r < length m
    inside = let w = f.walked in let z = w.size in let c = w.within in omega arith

    pub settled-pass : get_or m r 0 ≢ count_state s → Settling p s k (suc x) m
    settled-pass d =
        record {
          asked = a.asked;
          low = a.low;
          classes = fill-cells p s k (suc k) (places p) l m cs f.walked.size forest;
          done =
              λ y c e h.
              by_cases (ℕ_discrete y x)
              (λ q g. d (state-r ∙ (ap cs.st (sym (ap cs.root q ∙ root-x)) ∙ g)))
              (λ q. a.done y c e (omega arith));
        }

    pub settled-set : (d : ℕ) → d ≡ settled_state k → get_or m r 0 ≡ count_state s → Settling p s k (suc x) (set m r d)
    settled-set d w e =
        subst (λ (i : ℕ). Settling p s k (suc x) (set m r i)) (sym w)
        (record {
          asked = a.asked;
          low = a.low;
          classes =
              record {
                root = cs.root;
                st = put cs.st r (settled_state k);
                size = length-set m r (settled_state k) ∙ (f.walked.size ∙ cs.size);
                forest = forest-state m r (settled_state k) cs.root cs.st forest inside root-r (omega arith);
                fills = fills-settled p s k few a.low cs.root cs.st r root-r place full cs.fills;
                edges =
                    edges-stated p s k (suc k) (suc k) cs.root cs.st cs.fills r (settled_state k) (omega arith) root-r place (omega (arith, full, few)) (places p) (omega (arith, few)) cs.edges;
              };
          done =
              λ y c g h.
              by_cases (ℕ_discrete (cs.root y) r)
              (λ q i. let j = put_same cs.st r (settled_state k) (cs.root y) q in omega (arith, i, j, few))
              (λ q i.
              let j = put_other cs.st r (settled_state k) (cs.root y) q in
              by_cases (ℕ_discrete y x)
              (λ z. q (ap cs.root z ∙ root-x))
              (λ z. a.done y c g (omega arith) (sym j ∙ i)));
        })
      where
        few : s ≤ 1600
        few = asked-few a.asked

        full : cs.st r ≡ count_state s
        full = sym state-r ∙ e

        place : At p k r
        place =
            let t : At p k x = record { within = b; low = omega arith } in
            subst (At p k) root-x
            (conn-target (cs.fills.joined x t (subst (λ (c : ℕ). cs.st c < first_settled) (sym root-x) (omega (arith, full, few)))))

  pub settled-one-pass : get_or m r 0 ≢ count_state s → SettledOne s k x l m
  settled-one-pass d =
      record { size = f.walked.size; walk = λ p a b v. settled-pass p a b v d }

  pub settled-one-set : {d : ℕ} → d ≡ settled_state k → get_or m r 0 ≡ count_state s → SettledOne s k x l (set m r d)
  settled-one-set {d} w e =
      record {
        size = length-set m r d ∙ f.walked.size;
        walk = λ p a b v. settled-set p a b v d w e;
      }

-- the walk along the chain that begins at head
pub record SettleReady (s k head : ℕ) (l w : List ℕ) : Type 0 where
  pub p : Picture
  pub settling : Settling p s k 0 l
  pub links : Links p w
  pub first : NextOfValue p k 0 head

-- x is the next of the walk, or beyond the picture
pub record SettleAt (p : Picture) (s k x : ℕ) (m : List ℕ) : Type 0 where
  pub settling : Settling p s k x m
  pub is : x < places p → value_at p x ≡ k

-- the walk has come to x
pub record SettleWalk (s k head x : ℕ) (l w m : List ℕ) : Type 0 where
  pub size : length m ≡ length l
  pub walk : (p : Picture) → Settling p s k 0 l → Links p w → NextOfValue p k 0 head → SettleAt p s k x m

-- all large classes of the height are settled
pub record SettleDone (s k head : ℕ) (l w m : List ℕ) : Type 0 where
  pub size : length m ≡ length l
  pub settled : (p : Picture) → Settling p s k 0 l → Links p w → NextOfValue p k 0 head → Settling p s k (places p) m

pub settling-skip : (p : Picture) (s k a x : ℕ) (l : List ℕ) → NextOfValue p k a x → Settling p s k a l → Settling p s k x l
settling-skip p s k a x l n t =
    record {
      asked = t.asked;
      low = t.low;
      classes = t.classes;
      done = λ y b e h. by_cases (dec_lt y a) (λ g. t.done y b e g) (λ g. absurd (n.gap y (omega arith) h b e));
    }

pub settle-start : {s k head : ℕ} {l w : List ℕ} → SettleWalk s k head head l w l
settle-start {s} {k} {head} {l} {w} =
    record {
      size = refl;
      walk = λ p a t n. record { settling = settling-skip p s k 0 head l n a; is = n.is };
    }

-- what the code sees of the walk at x
pub record SettleSeen (s k x : ℕ) (l w : List ℕ) : Type 0 where
  pub parents : Parents l
  pub few : s ≤ 1600
  pub low : k ≤ 255
  pub cells : length l ≤ 1600
  pub link : 2 * length l + x < length w

module _ {s k head x : ℕ} {l w m : List ℕ} (a : SettleWalk s k head x l w m) (ready : SettleReady s k head l w) where
  -- where the walk is, in the picture of its start
  pub settle-here : SettleAt ready.p s k x m
  settle-here = a.walk ready.p ready.settling ready.links ready.first

  pub settle-seen : x < length m → SettleSeen s k x m w
  settle-seen b =
      let h = settle-here.settling in
      let z = h.classes.size in
      record {
        parents = h.classes.forest.parents;
        few = asked-few h.asked;
        low = h.low;
        cells = let n = places-bound ready.p h.asked.ok in omega arith;
        link = let r = ready.links.room in omega arith;
      }

  module _ (b : x < length m) {o : List ℕ} (t : SettledOne s k x m o) {q : ℕ} (e : q ≡ get_or w (2 * length o + x) 0) where
    pub settle-turn : SettleWalk s k head q l w o
    settle-turn =
        record {
          size = t.size ∙ a.size;
          walk =
              λ p c d n.
              let h = a.walk p c d n in
              let z = h.settling.classes.size in
              let bp : x < places p = omega arith in
              let same : 2 * length o + x ≡ 2 * places p + x = let y = t.size in omega arith in
              let i = links-next d bp (h.is bp) (e ∙ ap (λ (j : ℕ). get_or w j 0) same) in
              record {
                settling = settling-skip p s k (suc x) q o i (t.walk p h.settling bp (h.is bp));
                is = i.is;
              };
        }

    pub settle-more : x < q
    settle-more =
        let h = settle-here in
        let z = h.settling.classes.size in
        let bp : x < places ready.p = omega arith in
        let same : 2 * length o + x ≡ 2 * places ready.p + x = let y = t.size in omega arith in
        let i = (links-next ready.links bp (h.is bp) (e ∙ ap (λ (j : ℕ). get_or w j 0) same)).from in
        omega arith

pub settle-end : {s k head x : ℕ} {l w m : List ℕ} → SettleWalk s k head x l w m → length m ≤ x → SettleDone s k head l w m
settle-end a b =
    record {
      size = a.size;
      settled =
          λ p c d n.
          let h = (a.walk p c d n).settling in
          let z = h.classes.size in
          record {
            asked = h.asked;
            low = h.low;
            classes = h.classes;
            done = λ y i e g. h.done y i e (omega arith);
          };
    }

-- between two heights
pub record FillBetween (p : Picture) (s k : ℕ) (l : List ℕ) : Type 0 where
  pub asked : FillAsked p s
  pub classes : FillClasses p s k k 0 l

pub between-walk : {p : Picture} {s k head : ℕ} {l : List ℕ} → FillBetween p s k l → NextOfValue p k 0 head → FillWalk p s k head l
between-walk {p} {s} {k} {head} {l} a n =
    record {
      asked = a.asked;
      classes = fill-upto p s k k 0 head l (λ y u. upto_skip p k 0 head y n u) a.classes;
      is = n.is;
    }

pub between_next : {p : Picture} {s k : ℕ} {l : List ℕ} → Settling p s k (places p) l → FillBetween p s (k + 1) l
between_next {p} {s} {k} {l} a =
    subst (λ (j : ℕ). FillBetween p s j l) (sym (add-one k))
    (record {
      asked = a.asked;
      classes =
          record {
            root = c.root;
            st = c.st;
            size = c.size;
            forest = c.forest;
            fills = fills-next p a.asked.ok s a.asked.some (asked-few a.asked) k a.low c.root c.st c.fills c.edges empty;
            edges = edges-next p a.asked.ok s a.asked.some (asked-few a.asked) k a.low c.root c.st c.fills c.edges empty;
          };
    })
  where
    c : FillClasses p s k (suc k) (places p) l
    c = a.classes

    empty : (y : ℕ) → At p k y → c.st (c.root y) ≢ count_state s
    empty y t e =
        let f = c.fills.fresh y t e in
        a.done f.at f.within f.value f.within (ap c.st f.is ∙ e)

-- all heights begin: the chains are made, and every place is alone
pub fill_begins :
    {p : Picture} {s : ℕ} {l m w v hs o : List ℕ} → is_picture p ≡ true → 1 ≤ s → s ≤ places p → length w ≡ 4 * places p → length l ≡ places p →
    HeightsBegin p.pixels l w m v hs → Filled 0 (length m) (count_state 1) m o → FillBetween p s 0 o × Links p v × Heads p hs
fill_begins {p} {s} {l} {w = w} {o = o} h some few room size b f =
    let ok = accepted-is p h in
    let fit = fits-of p l w h room size in
    let t = b.between p fit in
    let a : FillAsked p s = record { ok = ok; some = some; few = few } in
    let z = f.kept.size in
    let c = b.size in (
      record {
        asked = a;
        classes = fill_start p s o a (omega arith) (λ y i. overwritten-entry f y (omega arith));
      },
      record {
        room = t.room;
        next = λ y i. t.chained.linked y (record { within = i; later = by_cases (dec_lt 0 (value_at p y)) (λ g. inl g) (λ g. inr (omega arith, omega arith)) });
      },
      b.heads p fit,
    )

pub between-last : {p : Picture} {s k : ℕ} {l : List ℕ} → FillBetween p s k l → k ≤ 256 → 256 ≤ k → FillBetween p s 256 l
between-last {p} {s} {k} {l} a b c = subst (λ (j : ℕ). FillBetween p s j l) (let e : k ≡ 256 = omega arith in e) a
