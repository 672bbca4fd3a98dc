-- A picture has at most 1,600 pixels: the parts of local arrays that are lent for it.
use Rattle.std.proofs.Common.{◌≡◌, ℕ, ◌*◌, ◌≤◌, length, take, replicate, arith}
use Rattle.std.proofs.lemmas.List.{length-replicate}
use Rattle.geometry.specs.declared.raster.Raster.{Raster}
use Rattle.geometry.specs.Rasters.{picture}
use Rattle.topology.proofs.Accepted.{pixels-few}
use Rattle.answers.proofs.Calls.{lent_length}

module _ (x : Raster) where
  pub raster-few : length x.pixels.now ≤ 1600
  raster-few = pixels-few (picture x) x.accepted

  -- one entry for each pixel, and five
  pub one_lent : length x.pixels.now ≡ length (take (length x.pixels.now) (replicate {A = ℕ} 1600 0))
  one_lent = lent_length (length x.pixels.now) (replicate {A = ℕ} 1600 0) (omega (arith, raster-few, length-replicate {A = ℕ} 1600 0))

  pub five-lent : 5 * length x.pixels.now ≡ length (take (5 * length x.pixels.now) (replicate {A = ℕ} 8000 0))
  five-lent = lent_length (5 * length x.pixels.now) (replicate {A = ℕ} 8000 0) (omega (arith, raster-few, length-replicate {A = ℕ} 8000 0))
