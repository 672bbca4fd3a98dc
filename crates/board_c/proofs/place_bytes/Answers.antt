-- `board_c::place_bytes` meets its contract: a refusal leaves all as it was, and else the public call, the writer and the packing leave what is said.
use Rattle.std.proofs.Common.{sym, ap, ◌∙◌, length}
use Rattle.std.proofs.lemmas.Result.{err_from_is_err_and}
use Rattle.picture.specs.Pictures.{Picture, picture_of, places}
use Rattle.board_c.proofs.ForC.{place-first, place-second, place-third, place-refused, place-unrefused, place-done}
use Rattle.board_c.proofs.place_bytes.Goals as goal

pub returns-in_err-with_work : goal.returns-in_err-with_work
returns-in_err-with_work c =
    let p = err_from_is_err_and c.from_residual.result c.from_residual.ensures.1 in
    rw (p.1, p.2) (place-refused _ _ _ _ _ (place-first _ _ _ _ _ c.in_err-with_work.ensures.admits.fault))

pub returns-in_err-room : goal.returns-in_err-room
returns-in_err-room c =
    let p = err_from_is_err_and c.from_residual-in_err-room.result c.from_residual-in_err-room.ensures.1 in
    rw (p.1, p.2) (place-refused _ _ _ _ _ (place-second _ _ _ _ c.in_ok-with_work.ensures.admits.fault _ c.in_err-room.ensures))

pub returns-in_err-place_inside : goal.returns-in_err-place_inside
returns-in_err-place_inside c =
    let p = err_from_is_err_and c.from_residual-in_err-place_inside.result c.from_residual-in_err-place_inside.ensures.1 in
    let lends = c.in_ok-with_work.ensures in
    let size = sym lends.room.0 ∙ ap places lends.admits.raster in
    rw (p.1, p.2) (place-refused _ _ _ _ _ (place-third _ _ _ _ lends.admits.fault _ _ size c.in_ok-room.ensures c.in_err-place_inside.ensures))

pub returns-in_err-queried : goal.returns-in_err-queried
returns-in_err-queried c =
    let pictured : Picture = picture_of c.args.adjacency c.args.width c.args.height c.args.pixels.now in
    let lends = c.in_ok-with_work.ensures in
    let size = sym lends.room.0 ∙ ap places lends.admits.raster in
    let none = sym (place-third pictured (length c.args.out.now) (length c.args.work.now) c.args.place lends.admits.fault _ _ size c.in_ok-room.ensures c.in_ok-place_inside.ensures) in
    place-unrefused pictured c.args.place c.args.out.now c.args.work.now none _ _ _ c.unpack.auto.cells c.in_err-queried.ensures

pub returns : goal.returns
returns c =
    let pictured : Picture = picture_of c.args.adjacency c.args.width c.args.height c.args.pixels.now in
    let lends = c.in_ok-with_work.ensures in
    let size = sym lends.room.0 ∙ ap places lends.admits.raster in
    let none = sym (place-third pictured (length c.args.out.now) (length c.args.work.now) c.args.place lends.admits.fault _ _ size c.in_ok-room.ensures c.in_ok-place_inside.ensures) in
    place-done pictured c.args.place c.args.out.now c.args.work.now none _ _ _ _ _ _ _ c.unpack.auto.cells c.in_ok-queried.ensures
    (c.from-2.ensures ∙ c.patch_number.ensures) (rw c.from.ensures at c.put_pair.ensures) c.pack.ensures
