-- `filling::whole::fill_exactly` meets its contract: the chains, the heights, the values.
use Rattle.std.proofs.Common.{rules, arith, sym, ◌∙◌}
use Rattle.geometry.specs.Rasters.{picture}
use Rattle.tree_laws.proofs.Buckets.{chain-ready}
use Rattle.filling_laws.proofs.FillSettling.{fill_begins}
use Rattle.filling_laws.proofs.FillValues.{between-settled}
use Rattle.filling.proofs.Begun.{filled-all}
use Rattle.filling.proofs.whole.fill_exactly.Goals as goal

pub chain-requires : goal.chain-requires
chain-requires c =
    let raster = c.args.raster.now in
    let s = c.requires.out_len in
    chain-ready (picture raster) _ _ raster.accepted s.1 s.2

pub fill_heights-requires : goal.fill_heights-requires
fill_heights-requires c =
    let (some, few) = c.requires.size in
    let s = c.requires.out_len in
    fill_begins c.args.raster.now.accepted some few s.1 s.2 c.chain.ensures (filled-all _ _ _ c.fill.auto.self (search rules))

-- after all heights every class is settled
pub write_values-requires : goal.write_values-requires
write_values-requires c =
    let settled = between-settled c.fill_heights.ensures (omega arith) in
    (record { p = _; s = _; all = settled }, c.requires.out_len.0 ∙ sym settled.size)

pub returns : goal.returns
returns c = c.write_values.ensures.values _ _ (between-settled c.fill_heights.ensures (omega arith))
