-- The part of the tree's cells that holds the fathers, lent to the climb.
use Rattle.std.proofs.Common.{◌≡◌, refl, ◌∙◌, List, ℕ, ◌+◌, ◌-◌, ◌*◌, ◌<◌, arith, get_or, take, drop, length-drop, length-take-le, get_or-take, get_or-drop}
use Rattle.topology.proofs.Climb.{Meet, meet-same}
use Rattle.watershed_laws.proofs.Stopping.{Climbs, Meets}
use Rattle.ancestors.specs.Ancestors.{Climbing}

module _ (n : ℕ) (tree : List ℕ) (c : Climbs n tree) (y z : ℕ) (hy : y < n) (hz : z < n) where
  abbrev fathers : List ℕ
  fathers = take (2 * n - n) (drop n tree)

  father-at : (i : ℕ) → i < n → get_or fathers i 0 ≡ get_or tree (n + i) 0
  father-at i h = get_or-take (2 * n - n) (drop n tree) i 0 (omega arith) ∙ get_or-drop n tree i 0

  pub climb-places : Climbing fathers (get_or tree (2 * n + y) 0) (get_or tree (2 * n + z) 0)
  climb-places =
      let f = c.few in
      let size = c.size in
      record {
        count = c.count;
        few = let l = length-drop n tree in let e = length-take-le (2 * n - n) (drop n tree) (omega arith) in omega arith;
        rises = λ i h. rw (father-at i (omega arith)) (c.rises i h);
        first = c.mapped y hy;
        second = c.mapped z hz;
      }

  -- the climb ends at a node, whose height stands in front of the fathers
  pub climb-meets :
      (a b r : ℕ) → a ≡ get_or tree (2 * n + y) 0 → b ≡ get_or tree (2 * n + z) 0 → Meet (λ i. get_or fathers i 0) a b r →
      (r < n) × Meets n tree y z (get_or tree r 0)
  climb-meets a b r ea eb m =
      let f = c.few in
      let (k, h) =
      meet-same c.count (λ i. get_or fathers i 0) (λ i. get_or tree (n + i) 0)
      (λ i l. father-at i (omega arith))
      (λ i l. (c.rises i l).1)
      (c.mapped y hy) (c.mapped z hz) (rw (ea, eb) at m)
      in
      (omega arith, record { first = hy; second = hz; at = record { node = r; meet = k; height = refl } })
