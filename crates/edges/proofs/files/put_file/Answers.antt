-- `edges::files::put_file` meets its contract.
use Rattle.std.proofs.Common.{subst, ℕ, arith}
use Rattle.std.proofs.lemmas.List.{length-replicate}
use Rattle.lists.specs.Writing.{Written}
use Rattle.lists.proofs.Writings.{written_then, written-length}
use Rattle.edges.specs.EdgeFiles.{edge_pixels}
use Rattle.edges.proofs.files.put_file.Goals as goal

pub returns : goal.returns
returns c =
    let p = c.put_bytes-first.ensures in
    let q = c.put_spaces-second.ensures in
    let t = c.put_numbers-third.ensures in
    let u = c.put_pixels in
    let v =
    subst (λ (n : ℕ). Written c.put_numbers-third.result (edge_pixels n c.args.count) c.put_numbers-third.new.out u.result u.new.out)
    c.values_of.ensures.value
    u.ensures
    in
    let r = length-replicate {A = ℕ} c.args.spaces 32 in
    let k = written-length (omega (arith, p.end, c.requires.5)) p in
    let l = written-length (omega (arith, p.end, q.end, c.requires.5)) q in
    written_then (omega arith) p
    (written_then (omega (arith, p.end, c.requires.5)) q (written_then (omega (arith, p.end, q.end, c.requires.5)) t.0 v))
