-- The fathers' entries after the last height.
use mathlib.Core.Path.{◌≡◌, sym, ap, ◌∙◌}
use Prim.Native.Nat.{ℕ, ◌-◌, ◌≤◌, ◌<◌}
use native.Mathlib.Omega.{arith}
use lib.ListN.{length}
use Rattle.picture.specs.Pictures.{Picture, places, value_at}
use Rattle.picture.specs.Trees.{nodes, node_at, father_of, map_of}
use Rattle.topology.proofs.Accepted.{Accepted, byte_at}
use Rattle.topology.proofs.Descent.{under_same}
use Rattle.topology.proofs.Grid.{grid-joined}
use Rattle.topology.proofs.Climb.{root_is, last-root}
use Rattle.tree_laws.proofs.Beneath.{beneath-next}
use Rattle.tree_laws.proofs.Levels.{Father, unmet, known}

-- after the last height an entry is missing exactly where the father is
pub data LastFather (p : Picture) (f i : ℕ) : Type 0 where
  missing : f ≡ 65535 → father_of p (node_at p i) ≡ 65535 → LastFather p f i
  pixel : f < places p → father_of p (node_at p i) ≡ map_of p f → LastFather p f i

pub last-father : (p : Picture) → Accepted p → (root st : ℕ → ℕ) (f i : ℕ) → i < length (nodes p) → Father p 256 root st f i → LastFather p f i
last-father p ok root st f i b (known h g) = pixel h g
last-father p ok root st f i b (unmet z h l q t) =
    let all_in : (y : ℕ) → y < places p → value_at p y ≤ 255 = λ y g. byte_at p.pixels ok.bytes y in
    let last : ℕ = length (nodes p) - 1 in
    let top = root_is p ok last (omega arith) (last-root p ok last (omega arith)) in
    let same = under_same p (grid-joined p ok.some 255 all_in z l.within) in
    let w = beneath-next p 255 z in
    let e : last ≡ i = omega arith in
    missing h (ap (λ (j : ℕ). father_of p (node_at p j)) (sym e) ∙ last-root p ok last (omega arith))
