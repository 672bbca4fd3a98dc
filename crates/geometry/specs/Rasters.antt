-- The picture of a raster, and the places of a grid.
use Rattle.std.specs.Prelude.{List, ℕ}
use Rattle.picture.specs.Pictures.{Picture, picture_of}
use Rattle.picture.proofs.Neighbours.{Placed}
use Rattle.geometry.specs.Adjacencies.{adjacency_number}
use Rattle.geometry.specs.declared.grid.Grid.{Grid}
use Rattle.geometry.specs.declared.raster.Raster.{Raster}

-- the picture with these pixels on a grid
abbrev pub on : Grid → List ℕ → Picture
on grid xs = picture_of (adjacency_number grid.adjacency) grid.width grid.height xs

-- the picture of a raster
abbrev pub picture : Raster → Picture
picture raster = on raster.grid raster.pixels.now

-- x is a place of a grid
abbrev pub IsPlace : Grid → ℕ → Type 0
IsPlace grid x = Placed grid.width grid.height x
