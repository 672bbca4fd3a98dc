-- `watershed::run::lower_all` meets its contract. The invariant is Running with the watershed unchanged, the measure that of TurnDone.
use Rattle.std.proofs.Common.{[], refl, sym, ap, ◌∙◌, arith}
use Rattle.picture.specs.Pictures.{Picture}
use Rattle.geometry.specs.Rasters.{on}
use Rattle.topology.proofs.Accepted.{accepted-is, places-bound, places-some}
use Rattle.watershed_laws.proofs.Turns.{running-start, running-end}
use Rattle.watershed.proofs.BuiltTree.{tree-holds}
use Rattle.watershed.proofs.run.lower_all.Goals as goal

pub build_winners-requires : goal.build_winners-requires
build_winners-requires c =
    let p = on c.args.grid c.args.out.now in
    let ok = accepted-is p c.requires.0 in
    rw ok.size (omega (arith, c.split_at_mut-tree.ensures.back_len, c.requires.1, ok.size), places-some p ok, places-bound p ok, refl)

pub bounds-cells-1 : goal.bounds-cells-1
bounds-cells-1 c =
    let p = on c.args.grid c.args.out.now in
    let ok = accepted-is p c.requires.0 in
    omega (arith, c.build_winners.ensures.size, places-some p ok, ok.size)

pub loop-winner-init : goal.loop-winner-init
loop-winner-init c =
    let p = on c.args.grid c.args.out.now in
    let ok = accepted-is p c.requires.0 in
    let cut = c.split_at_mut-tree.ensures in
    let holds = tree-holds p _ _ (rw ok.size at cut.front_len) (rw cut.value at c.requires.2) in
    (running-start (on c.args.grid []) _ _ _ ok holds (rw ok.size at c.build_winners.ensures), refl, refl)

pub returns : goal.returns
returns c =
    let i = c.loop-winner.invariant in
    let same = sym (running-end (on c.args.grid []) _ _ _ i.0 (sym i.1 ∙ c.loop-winner-test.false)) ∙ i.2 in
    ap (λ (p : Picture). p.pixels) same
