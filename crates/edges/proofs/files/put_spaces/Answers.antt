-- `edges::files::put_spaces` meets its contract.
use Rattle.std.proofs.Common.{subst, List, ℕ}
use Rattle.std.proofs.lemmas.List.{take-replicate}
use Rattle.lists.specs.Writing.{Written}
use Rattle.edges.proofs.files.put_spaces.Goals as goal

pub returns : goal.returns
returns c =
    let p = c.put_bytes in
    subst (λ (xs : List ℕ). Written c.args.at xs c.args.out.now p.result p.new.out) (take-replicate c.args.count 2500 32 c.requires.0) p.ensures
