-- `watershed::run::lower_place` meets its contract: the place stays and was not lowerable, or falls, and its neighbours become candidates.
use Rattle.std.proofs.Common.{[], refl, ◌∙◌, arith, length-set}
use Rattle.geometry.specs.Rasters.{on}
use Rattle.watershed_laws.proofs.Stopping.{around-places}
use Rattle.watershed_laws.proofs.WinnerTree.{winner-fallen}
use Rattle.topology.proofs.Accepted.{places-bound}
use Rattle.watershed_laws.proofs.Running.{lowered-stays, lowered-made}
use Rattle.watershed.proofs.Around.{around-front}
use Rattle.watershed.proofs.run.lower_place.Goals as goal

pub lowest-low-requires : goal.lowest-low-requires
lowest-low-requires c =
    let f = on c.args.grid [] in
    let ok = c.requires.running.accepted in
    rw ok.size (around-places f _ _ _ (around-front f _ _ _ _ ok.some c.neighbours-count.ensures), c.requires.within)

pub stop_at-stop-requires : goal.stop_at-stop-requires
stop_at-stop-requires c =
    let f = on c.args.grid [] in
    let run = c.requires.running in
    let ok = run.accepted in
    rw ok.size (
      run.climbs,
      places-bound _ ok,
      refl,
      rw ok.size at c.lowest-low.ensures.within,
      around-places f _ _ _ (around-front f _ _ _ _ ok.some c.neighbours-count.ensures),
    )

pub make_candidates-requires : goal.make_candidates-requires
make_candidates-requires c =
    let f = on c.args.grid [] in
    let run = c.requires.running in
    let ok = run.accepted in
    let few = places-bound _ ok in
    rw ok.size (
      record {
        winner = winner-fallen _ _ _ run.winner _ _ c.requires.within (omega arith) c.requires.unset;
        few = few;
        pixels = length-set _ _ _ ∙ ok.size;
        cells = run.leaves;
      },
      around-places f _ _ _ (around-front f _ _ _ _ ok.some c.neighbours-count.ensures),
    )

-- what the loops over the neighbours have found is said of the places of the frame, and of the value of the place
pub returns-then-stop-k : goal.returns-then-stop-k
returns-then-stop-k c =
    let f = on c.args.grid [] in
    let ok = c.requires.running.accepted in
    let value = c.from-k.ensures in
    rw ok.size
    (lowered-made f _ _ _ _ c.requires _ _ _ _ (around-front f _ _ _ _ ok.some c.neighbours-count.ensures) (rw ok.size at c.lowest-low.ensures)
    (rw (ok.size, value) at c.stop_at-stop.ensures) (rw value at c.if-stop-k.true) _ (rw (ok.size, value) at c.make_candidates.ensures))

pub returns-else-stop-k : goal.returns-else-stop-k
returns-else-stop-k c =
    let f = on c.args.grid [] in
    let ok = c.requires.running.accepted in
    let value = c.from-k.ensures in
    lowered-stays f _ _ _ _ c.requires _ _ _ _ (around-front f _ _ _ _ ok.some c.neighbours-count.ensures) (rw ok.size at c.lowest-low.ensures)
    (rw (ok.size, value) at c.stop_at-stop.ensures) (rw value at c.if-stop-k.false)
