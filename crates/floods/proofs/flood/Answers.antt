-- `floods::flood` meets its contract. The invariant is FloodRun; twice the unmarked places with the stack's height fall.
use mathlib.Core.Path.{◌≡◌}
use Prim.Native.Nat.{suc, ◌-◌}
use native.Mathlib.Omega.{arith}
use Rattle.geometry.specs.Rasters.{picture}
use Rattle.picture.proofs.Neighbours.{placed-other}
use Rattle.floods.proofs.Floods.{seed-some, run-start, run-top, run_room, run-turn, run_end}
use Rattle.floods.proofs.flood.Goals as goal

pub loop-t-init : goal.loop-t-init
loop-t-init c =
    run-start (picture c.args.raster.now) _ _ _ _ _ c.requires.1 c.requires.2

pub spread-t-requires : goal.spread-t-requires
spread-t-requires c =
    let t = c.loop-t.t in
    let e : t ≡ suc (t - 1) = omega arith in
    let below = run-top ((picture c.args.raster.now)) _ _ _ _ _ _ _ t (t - 1) e c.loop-t.invariant in
    let b = c.from.ensures in (
      placed-other c.requires.0 (omega arith),
      run_room ((picture c.args.raster.now)) _ _ _ _ _ _ _ t (t - 1) e c.loop-t.invariant,
      seed-some ((picture c.args.raster.now)) _ _ _ _ c.requires.2,
    )

pub loop-t-preserved : goal.loop-t-preserved
loop-t-preserved c =
    let t = c.loop-t.t in
    let e : t ≡ suc (t - 1) = omega arith in
    run-turn ((picture c.args.raster.now)) _ _ _ _ _ _ _ t (t - 1) e c.loop-t.invariant _ _ _ _
    c.requires.0.some
    c.from.ensures
    c.spread-t.ensures

pub returns : goal.returns
returns c =
    let e : c.loop-t.t ≡ 0 = omega arith in
    run_end ((picture c.args.raster.now)) _ _ _ _ _ _ _ _ c.requires.2 e c.loop-t.invariant
