-- What the public calls promise: the answer, and what they leave in each lent slice.
-- p the picture, o output, q work, r the answer; a prime: after the call.
use Rattle.std.specs.Prelude.{◌≡◌, List, ℕ, zero, suc, eqb, length, Result, Ok, Err}
use Rattle.lists.specs.Lists.{pick}
use Rattle.picture.specs.Pictures.{Picture, value_at}
use Rattle.picture.specs.Components.{components}
use Rattle.picture.specs.Labels.{labels}
use Rattle.picture.specs.Watersheds.{lowerable, watershed}
use Rattle.faults.specs.Faults.{output_fault, place_fault, touch_fault, size_fault}
use Rattle.picture.specs.Filling.{filled}
use Rattle.picture.specs.Patches.{patch_at, touched_patch}
use Rattle.refusals.specs.declared.Refusal.{Refusal}
use Rattle.refusals.specs.Refusals.{number_of}
use Rattle.answers.specs.Answers.{Answer, work_after, WorkSays, OutputSays}
use Rattle.board.specs.declared.query.Ground.{Ground}
use Rattle.board.specs.declared.query.Ground.TheVariants as G
use Rattle.board.specs.declared.query.Queried.{Queried}

-- the fault of a call that lends output and work
abbrev pub output_fault_of : Picture → List ℕ → List ℕ → ℕ
output_fault_of p o q =
    output_fault p.adjacency p.width p.height (length p.pixels) (length o) (length q)

-- the fault of a call that lends work and names a place
abbrev pub place_fault_of : Picture → List ℕ → ℕ → ℕ
place_fault_of p q x = place_fault p.adjacency p.width p.height (length p.pixels) (length q) x

-- the fault of a touch by a handbook
abbrev pub touch_fault_of : ℕ → Picture → List ℕ → ℕ → ℕ
touch_fault_of handbook p q x =
    touch_fault handbook p.adjacency p.width p.height (length p.pixels) (length q) x

-- the fault of a call that lends output and work and names a least size of parts
abbrev pub size_fault_of : Picture → ℕ → List ℕ → List ℕ → ℕ
size_fault_of p s o q =
    size_fault p.adjacency p.width p.height (length p.pixels) (length o) (length q) s

-- the labels of the section at height k, and the number of its components
abbrev pub LabelsSay : Picture → ℕ → List ℕ → List ℕ → List ℕ → List ℕ → Answer → Type 0
LabelsSay p k o o' q q' r = OutputSays (output_fault_of p o q) p (length (components p k)) (labels p k) o o' q q' r

-- the pixels of the watershed
abbrev pub WatershedSays : Picture → List ℕ → List ℕ → List ℕ → List ℕ → Answer → Type 0
WatershedSays p o o' q q' r = OutputSays (output_fault_of p o q) p 0 (watershed p).pixels o o' q q' r

-- the pixels of the picture with its dark parts of fewer than s pixels filled
abbrev pub FillSays : Picture → ℕ → List ℕ → List ℕ → List ℕ → List ℕ → Answer → Type 0
FillSays p s o o' q q' r = OutputSays (size_fault_of p s o q) p 0 (filled p s).pixels o o' q q' r

-- 1 if the pixel at the place x is lowerable, else 0
abbrev pub LowerableSays : Picture → ℕ → List ℕ → List ℕ → Answer → Type 0
LowerableSays p x q q' r = WorkSays (place_fault_of p q x) (pick (lowerable p x) 1 0) p q q' r

-- where a place lies by its patch number: 0 is the line
abbrev pub ground_of : ℕ → Ground
ground_of zero = G.Line
ground_of (suc n) = G.Patch (suc n)

-- the patch number of where a place lies, 0 for the line
abbrev pub patch_number : Ground → ℕ
patch_number G.Line = 0
patch_number (G.Patch n) = n

-- the answer of a place query: the number of a refusal, or 0 with the pixel's value and where it lies
pub record QueryAnswer : Type 0 where
  pub number : ℕ
  pub value : ℕ
  pub ground : Ground

-- the answer of a place query: the number 0 with what was found, or a refusal's number with the value 0 and the line
abbrev pub queried_of : Result Queried Refusal → QueryAnswer
queried_of (Ok q) = let ground : Ground = q.ground in record { number = 0; value = q.value; ground = ground }
queried_of (Err e) = let ground : Ground = G.Line in record { number = number_of e; value = 0; ground = ground }

-- the answer of a place query: number, value, and the line or the patch
abbrev pub QueryIs : ℕ → ℕ → ℕ → QueryAnswer → Type 0
QueryIs f v n r = let ground : Ground = ground_of n in r ≡ record { number = f; value = v; ground = ground }

-- a call with the fault f that answers the value v and the patch number n, 0 for the line; on a refusal the value is 0 and the ground the line
pub record QueriedSays (f v n : ℕ) (p : Picture) (q q' : List ℕ) (r : QueryAnswer) : Type 0 where
  pub answer : QueryIs f (pick (eqb f 0) v 0) (pick (eqb f 0) n 0) r
  pub work : q' ≡ work_after f p q

-- the pixel's value and the line or the patch's number
abbrev pub QuerySays : Picture → ℕ → List ℕ → List ℕ → QueryAnswer → Type 0
QuerySays p x q q' r = QueriedSays (place_fault_of p q x) (value_at p x) (patch_at p x) p q q' r

-- the pixel's value and the patch that a touch belongs to by a handbook, or the line
abbrev pub TouchSays : ℕ → Picture → ℕ → List ℕ → List ℕ → QueryAnswer → Type 0
TouchSays handbook p x q q' r =
    QueriedSays (touch_fault_of handbook p q x) (value_at p x) (touched_patch handbook p x) p q q' r
