-- `board_c::watershed_bytes` meets its contract: a refusal leaves all as it was, and else the public call and the packing leave what is said.
use Rattle.std.proofs.Common.{sym}
use Rattle.std.proofs.lemmas.Result.{err_from_is_err_and}
use Rattle.picture.specs.Pictures.{Picture, picture_of}
use Rattle.board_c.proofs.ForC.{water-refused, water-unrefused, water-done}
use Rattle.board_c.proofs.watershed_bytes.Goals as goal

pub returns-in_err-with_output : goal.returns-in_err-with_output
returns-in_err-with_output c =
    let p = err_from_is_err_and c.from_residual.result c.from_residual.ensures.1 in
    rw (p.1, p.2) (water-refused _ _ _ _ c.in_err-with_output.ensures.admits.fault)

pub returns-in_err-watershed_of : goal.returns-in_err-watershed_of
returns-in_err-watershed_of c =
    let pictured : Picture = picture_of c.args.adjacency c.args.width c.args.height c.args.pixels.now in
    let none = sym c.in_ok-with_output.ensures.admits.fault in
    water-unrefused pictured c.args.out.now c.args.work.now none _ _ _ _ c.unpack.auto.cells c.in_err-watershed_of.ensures

pub returns : goal.returns
returns c =
    let pictured : Picture = picture_of c.args.adjacency c.args.width c.args.height c.args.pixels.now in
    let none = sym c.in_ok-with_output.ensures.admits.fault in
    water-done pictured c.args.out.now c.args.work.now none _ _ _ _ _ c.unpack.auto.cells c.in_ok-watershed_of.ensures c.pack.ensures
