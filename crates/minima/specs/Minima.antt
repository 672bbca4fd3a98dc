-- What the functions that count the minima say of the cells and of the stack that is linked in them.
use Rattle.std.specs.Prelude.{◌≡◌, ◌≢◌, List, [], ◌∷◌, ℕ, ◌+◌, ◌-◌, ◌≤◌, ◌<◌, length, get_or}
use Rattle.picture.specs.Pictures.{Picture, places, value_at}
use Rattle.topology.proofs.Adjacency.{Adj}
use Rattle.labelling_laws.proofs.Zones.{Zone, ZoneFlooding}
use Rattle.labelling_laws.proofs.ZoneScan.{unvisited, Scanned}
use Rattle.minima.specs.declared.Stack.{Stack}

-- a cell for each pixel, and few of them
pub record CellEach (pixels cells : List ℕ) : Type 0 where
  pub few : length pixels ≤ 1600
  pub size : length cells ≡ length pixels

-- a stack with room for every place that is not visited
pub record ZoneRoom (pixels cells : List ℕ) (s : Stack) : Type 0 where
  pub sizes : CellEach pixels cells
  pub link : s.top ≢ 65535
  pub room : s.height + unvisited cells ≤ length pixels

-- every visit takes a place in the room
pub record ZoneMoved (cells : List ℕ) (s : Stack) (after : List ℕ) (r : Stack) : Type 0 where
  pub size : length after ≡ length cells
  pub link : r.top ≢ 65535
  pub room : r.height + unvisited after ≤ s.height + unvisited cells
  pub less : unvisited after ≤ unvisited cells

-- the stack without its top x
abbrev pub popped : List ℕ → ℕ → Stack → Stack
popped cells x s = record { top = get_or cells x 0; height = s.height - 1; low = s.low }

-- the flood of the zone of x with its stack, while the edges from q to the places zs are followed
abbrev pub ZoneFloods : Picture → ℕ → ℕ → List ℕ → List ℕ → Stack → ℕ → List ℕ → Type 0
ZoneFloods p k x before cells s q zs = ZoneFlooding p k x before cells s.top s.height s.low q zs

-- the edge to y is followed in every flood that has it next
pub record Visit (pixels : List ℕ) (k y : ℕ) (cells : List ℕ) (s : Stack) (after : List ℕ) (r : Stack) : Type 0 where
  pub moved : ZoneMoved cells s after r
  pub follows :
      (p : Picture) (x q : ℕ) (before zs : List ℕ) → p.pixels ≡ pixels → y < places p → Adj p q y →
      ZoneFloods p k x before cells s q (y ∷ zs) → ZoneFloods p k x before after r q zs

-- a flood that had the edges from q to zs to follow has those to us left
pub record ZoneSpread (p : Picture) (k q : ℕ) (zs us cells : List ℕ) (s : Stack) (after : List ℕ) (r : Stack) : Type 0 where
  pub moved : ZoneMoved cells s after r
  pub follows : (x : ℕ) (before : List ℕ) → ZoneFloods p k x before cells s q zs → ZoneFloods p k x before after r q us

-- the top is taken off the stack and all its edges are followed
pub record ZoneTurn (p : Picture) (k : ℕ) (cells : List ℕ) (s : Stack) (after : List ℕ) (r : Stack) : Type 0 where
  pub moved : ZoneMoved cells (popped cells s.top s) after r
  pub follows : (x : ℕ) (before : List ℕ) → ZoneFloods p k x before cells s x [] → ZoneFloods p k x before after r x []

-- nothing of the zone of x is visited
pub record ZoneSeed (p : Picture) (x : ℕ) (cells : List ℕ) : Type 0 where
  pub fresh : (y : ℕ) → Zone p (value_at p x) x y → get_or cells y 0 ≡ 65535

-- r minima begin before x, whose zones are visited
pub record Counting (p : Picture) (x r : ℕ) (cells : List ℕ) : Type 0 where
  pub size : length cells ≡ places p
  pub scanned : Scanned p x r cells
