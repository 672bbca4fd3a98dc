-- `tree::build::build_exactly` meets its contract.
use Rattle.tree.proofs.Trees.{tree-resolved}
use Rattle.geometry.specs.Rasters.{picture}
use Rattle.tree_laws.proofs.Resolving.{resolve-ready, resolved}
use Rattle.tree_laws.proofs.Buckets.{chain-ready, fits-of}
use Rattle.tree.proofs.build.build_exactly.Goals as goal

pub chain-requires : goal.chain-requires
chain-requires c =
    chain-ready (picture c.args.raster.now) _ _ c.args.raster.now.accepted c.requires.0 c.requires.1

pub levels-c-requires : goal.levels-c-requires
levels-c-requires c =
    let f = fits-of (picture c.args.raster.now) _ _ c.args.raster.now.accepted c.requires.0 c.requires.1 in
    let b = c.chain.ensures in
    (b.between _ f, b.heads _ f)

pub resolve_fathers-requires : goal.resolve_fathers-requires
resolve_fathers-requires c =
    let b = c.levels-c.ensures in
    resolve-ready _ _ _ _ _ b b.classes.size

pub returns : goal.returns
returns c =
    let b = c.levels-c.ensures in
    let s = resolved _ _ _ _ _ _ b b.classes.size c.resolve_fathers.ensures in
    (s.0, tree-resolved _ _ s.1)
