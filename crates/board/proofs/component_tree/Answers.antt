-- `board::component_tree` meets its contract: what is left to show of its end.
use Rattle.std.proofs.Common.{arith, sym, ap, ◌∙◌}
use Rattle.picture.specs.Pictures.{places}
use Rattle.geometry.specs.Rasters.{picture}
use Rattle.topology.proofs.Nodes.{nodes-few}
use Rattle.board.specs.Trees.{tree_fault_of}
use Rattle.board.proofs.Built.{tree-done}
use Rattle.board.proofs.component_tree.Goals as goal

pub overflow_cast-result : goal.overflow_cast-result
overflow_cast-result c =
    let room = c.in_ok-raster.ensures.room in
    let few = nodes-few (picture c.in_ok-raster.raster) in
    record { fits = omega (arith, room, few, c.build_lists-count.ensures.tree_handed.count) }

pub returns : goal.returns
unfolding tree_fault_of
returns c =
    let lends = c.in_ok-raster.ensures in
    let t = c.build_lists-count.ensures in
    tree-done _ _ _ _ _ _ _ _ _ _ _ _ _ _ lends.admits.raster (sym lends.admits.fault) (sym lends.room.0 ∙ ap places lends.admits.raster) t.tree_handed t.heights_after t.fathers_after t.firsts_after t.map_after
    c.clear_work.ensures
