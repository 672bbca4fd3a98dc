-- What the call that lists the patches promises to C: a list of numbers for each figure.
-- p the picture, zs hs ds cs rs the lists of sizes, heights, depths, column sums and row sums, q work, r the answer; a prime: after the call.
use Rattle.std.specs.Prelude.{◌≡◌, List, map, ℕ, min, length}
use Rattle.lists.specs.Lists.{over}
use Rattle.picture.specs.Pictures.{Picture}
use Rattle.picture.specs.Patches.{Patch, patches}
use Rattle.patch_lists.specs.PatchLists.{list_fault}
use Rattle.answers.specs.Answers.{Answer}
use Rattle.answers.specs.Answers.{after_call, WorkSays}

-- the least length of the five lists
abbrev pub shortest : List ℕ → List ℕ → List ℕ → List ℕ → List ℕ → ℕ
shortest zs hs ds cs rs = min (min (length zs) (length hs)) (min (length ds) (min (length cs) (length rs)))

-- the fault of the call: 9 also if a list has fewer entries than there are patches
abbrev pub figures_fault : Picture → List ℕ → List ℕ → List ℕ → List ℕ → List ℕ → List ℕ → ℕ
figures_fault p zs hs ds cs rs q = list_fault p (shortest zs hs ds cs rs) (length q)

-- what the call with the fault f leaves in the list of one figure of the patches: the figures in front of what was there
abbrev pub figures_after : ℕ → Picture → (Patch → ℕ) → List ℕ → List ℕ
figures_after f p figure l = after_call f (over (map figure (patches p)) l) l

-- the figures of the patches by number, a list each, and how many patches there are; all as it was after a refusal
pub record FiguresSay (p : Picture) (zs zs' hs hs' ds ds' cs cs' rs rs' q q' : List ℕ) (r : Answer) : Type 0 where
  pub call : WorkSays (figures_fault p zs hs ds cs rs q) (length (patches p)) p q q' r
  pub sizes : zs' ≡ figures_after (figures_fault p zs hs ds cs rs q) p (λ x. x.size) zs
  pub heights : hs' ≡ figures_after (figures_fault p zs hs ds cs rs q) p (λ x. x.height) hs
  pub depths : ds' ≡ figures_after (figures_fault p zs hs ds cs rs q) p (λ x. x.depth) ds
  pub columns : cs' ≡ figures_after (figures_fault p zs hs ds cs rs q) p (λ x. x.columns) cs
  pub rows : rs' ≡ figures_after (figures_fault p zs hs ds cs rs q) p (λ x. x.rows) rs
