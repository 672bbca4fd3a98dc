-- What the functions of a flood say of the labels, the stack and its height.
use Rattle.std.specs.Prelude.{◌≡◌, ◌≢◌, List, ℕ, ◌+◌, ◌≤◌, length, get_or, set}
use Rattle.picture.specs.Pictures.{Picture}
use Rattle.topology.proofs.Adjacency.{At, Joined}
use Rattle.labelling_laws.proofs.Flood.{unmarked, Flooding}

-- n labels for n pixels, and a stack of height t with room for every place that has no label
pub record Room (n : ℕ) (pixels labels stack : List ℕ) (t : ℕ) : Type 0 where
  pub few : n ≤ 1600
  pub pixel : length pixels ≡ n
  pub label : length labels ≡ n
  pub cells : n ≤ length stack
  pub room : t + unmarked labels ≤ n

-- the place y is marked with c and put on the stack, if it lies in the section at k and has no label
pub data Visited (pixels : List ℕ) (k y c : ℕ) (l stack : List ℕ) (t : ℕ) (m after : List ℕ) (r : ℕ) : Type 0 where
  passed : m ≡ l → after ≡ stack → r ≡ t → (get_or pixels y 0 ≤ k → get_or l y 0 ≢ 0) → Visited pixels k y c l stack t m after r
  marked :
      m ≡ set l y c → after ≡ set stack t y → r ≡ t + 1 → get_or pixels y 0 ≤ k → get_or l y 0 ≡ 0 →
      Visited pixels k y c l stack t m after r

-- every mark takes a place in the room
pub record Moved (l stack : List ℕ) (t : ℕ) (m after : List ℕ) (r : ℕ) : Type 0 where
  pub label : length m ≡ length l
  pub cells : length after ≡ length stack
  pub room : r + unmarked m ≤ t + unmarked l
  pub less : unmarked m ≤ unmarked l

-- a flood that had the edges from q to zs to follow has those to us left
pub record Spread (p : Picture) (k c q : ℕ) (zs us l stack : List ℕ) (t : ℕ) (m after : List ℕ) (r : ℕ) : Type 0 where
  pub moved : Moved l stack t m after r
  pub follows : (s : ℕ) (before : List ℕ) → Flooding p k s c before l stack t q zs → Flooding p k s c before m after r q us

-- x begins a flood with the number c: its component has no labels, and c is no label
pub record Seed (p : Picture) (k x c : ℕ) (l : List ℕ) : Type 0 where
  pub at : At p k x
  pub fresh : (y : ℕ) → Joined p k x y → get_or l y 0 ≡ 0
  pub new : (y : ℕ) → get_or l y 0 ≢ c
