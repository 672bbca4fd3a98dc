-- `lent_tree::pass` meets its contract.
use Rattle.std.proofs.Common.{arith}
use Rattle.lent_tree.proofs.Passes.{pass-bounds, pass-climb, pass-top, pass_of}
use Rattle.lent_tree.proofs.pass.Goals as goal

pub nearest_common_ancestor-top-requires : goal.nearest_common_ancestor-top-requires
nearest_common_ancestor-top-requires c = rw (c.from-b.ensures, c.from-a.ensures) (pass-climb _ _ _ _ _ _ c.requires)

pub bounds-raster-x : goal.bounds-raster-x
bounds-raster-x c = (pass-bounds _ _ _ _ _ _ c.requires).0

pub bounds-raster-y : goal.bounds-raster-y
bounds-raster-y c = (pass-bounds _ _ _ _ _ _ c.requires).1

pub bounds-tree-top : goal.bounds-tree-top
bounds-tree-top c =
    pass-top _ _ _ _ _ _ c.requires _ (rw (c.from-b.ensures, c.from-a.ensures) at c.nearest_common_ancestor-top.ensures)

pub returns : goal.returns
returns c =
    pass_of _ _ _ _ _ _ _ _ (rw (c.from-b.ensures, c.from-a.ensures) at c.nearest_common_ancestor-top.ensures) (omega arith)
