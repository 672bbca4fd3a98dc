-- The cells in front are the neighbours, and a raster has a pixel a place.
use Rattle.std.proofs.Common.{◌≡◌, eqb, ◌||◌, List, ℕ, length, take, drop, eqb-true}
use Rattle.std.proofs.Math.Seq.{take-append_seam}
use Rattle.lists.proofs.Tests.{and_left, and_right}
use Rattle.picture.specs.Pictures.{places, side_fits, is_picture}
use Rattle.picture.proofs.Neighbours.{Listed}
use Rattle.geometry.specs.Adjacencies.{adjacency_number}
use Rattle.geometry.specs.Rasters.{picture}
use Rattle.geometry.specs.declared.raster.Raster.{Raster}

-- the cells in front of the count are the places that are listed
pub listed-front : (ns cells after : List ℕ) (r : ℕ) → Listed ns cells r after → take r after ≡ ns
listed-front ns cells after r h = rw (h.count, h.whole) (take-append_seam ns (drop (length ns) cells))

-- a raster has a pixel a place
pub raster-size : (r : Raster) → length r.pixels.now ≡ places (picture r)
unfolding is_picture
raster-size r =
    let a = adjacency_number r.grid.adjacency in
    let sides = and_right (eqb a 4 || eqb a 8) _ r.accepted in
    let high = and_right (side_fits r.grid.width) _ sides in
    let full = and_right (side_fits r.grid.height) _ high in
    eqb-true _ _ (and_left (eqb (length r.pixels.now) (places (picture r))) _ full)
