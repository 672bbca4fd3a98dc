-- All cells filled.
use Rattle.std.proofs.Common.{◌≡◌, ℕ, ◌<◌, List, length, get_or, sym, ◌∙◌, arith, ⊎_elim, zero-add}
use Rattle.std.proofs.lemmas.List.{get_or_past}
use Rattle.lists.specs.Blocks.{Filled}

-- a list all of whose entries are v is filled with it from the front
pub filled-all : (v : ℕ) (l m : List ℕ) → length m ≡ length l → ((y : ℕ) → y < length m → get_or m y 0 ≡ v) → Filled 0 (length l) v l m
filled-all v l m e f =
    record {
      kept =
          record {
            size = e;
            outside = λ j h. ⊎_elim (λ a. absurd (omega arith)) (λ a. get_or_past m j 0 (omega arith) ∙ sym (get_or_past l j 0 (omega arith))) h;
          };
      inside = λ i h. rw zero-add (f i (omega arith));
    }
