-- `faults::raster` meets its contract: 7, then the fault of sides and length, else the raster.
use Rattle.std.proofs.Common.{sym, ◌∙◌, ap, ℕ, get_or, ◌≤◌, arith}
use Rattle.std.proofs.lemmas.Result.{err_from_is_err_and}
use Rattle.picture.specs.Pictures.{picture_of}
use Rattle.topology.proofs.Accepted.{at_byte}
use Rattle.faults.proofs.Accepted.{adjacency-named, adjacency-other, no-sides-fault, fault-adjacency, fault-sides, named-accepted}
use Rattle.faults.proofs.Faults.{refused}
use Rattle.faults.proofs.picture_fault.raster.Goals as goal

pub returns-in_err-adjacency : goal.returns-in_err-adjacency
returns-in_err-adjacency c =
    let p = err_from_is_err_and c.from_residual.result c.from_residual.ensures.1 in
    let e = c.in_err-adjacency.ensures in
    rw (p.1, p.2, e.0) (refused _ _ _ (sym (fault-adjacency _ _ _ _ (adjacency-other _ e.1 e.2))))

pub returns-in_err-sides : goal.returns-in_err-sides
returns-in_err-sides c =
    let p = err_from_is_err_and c.from_residual-in_err-sides.result c.from_residual-in_err-sides.ensures.1 in
    rw (p.1, p.2) (refused _ _ _ (c.in_err-sides.ensures ∙ sym (fault-sides _ _ _ _ (adjacency-named _ _ c.in_ok-adjacency.ensures))))

pub invariant_of-grid : goal.invariant_of-grid
invariant_of-grid c = record { sides = (no-sides-fault _ _ _ (sym c.in_ok-sides.ensures)).sides }

pub invariant_of-result : goal.invariant_of-result
invariant_of-result c =
    let bytes : (i : ℕ) → get_or c.args.pixels.now i 0 ≤ 255 = λ i. let q = c.type_inv.pixels i in omega arith in
    record { accepted = named-accepted c.in_ok-adjacency.adjacency c.args.width c.args.height c.args.pixels.now (sym c.in_ok-sides.ensures) (at_byte _ bytes) }

pub returns : goal.returns
returns c =
    record {
      fault = c.in_ok-sides.ensures ∙ sym (fault-sides _ _ _ _ (adjacency-named _ _ c.in_ok-adjacency.ensures));
      raster = ap (λ (a : ℕ). picture_of a c.args.width c.args.height c.args.pixels.now) c.in_ok-adjacency.ensures;
    }
