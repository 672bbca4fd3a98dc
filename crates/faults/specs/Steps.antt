-- What is known where there is no fault, and what the functions that admit a picture answer.
use Rattle.std.specs.Prelude.{◌≡◌, true, ℕ, ◌*◌, ◌≤◌, length, Result, IfOk}
use Rattle.picture.specs.Pictures.{Picture, places, is_picture}
use Rattle.faults.specs.PictureFault.{picture_fault_of}
use Rattle.refusals.specs.declared.Refusal.{Refusal}
use Rattle.refusals.specs.Refusals.{fault_of}
use Rattle.geometry.specs.declared.raster.Raster.{Raster}
use Rattle.geometry.specs.Rasters.{picture}

-- no fault of a picture's arguments and work: n pixels, at most 1,600, and 5 n entries of work at least
pub record Faultless (p : Picture) (work : ℕ) : Type 0 where
  pub fault : picture_fault_of p ≡ 0
  pub size : length p.pixels ≡ places p
  pub few : places p ≤ 1600
  pub room : 5 * length p.pixels ≤ work

-- no fault, and the picture is accepted
pub record Admitted (p : Picture) (work : ℕ) : Type 0 where
  pub faultless : Faultless p work
  pub picture : is_picture p ≡ true

-- a call of a picture with some fault: the picture as a raster where there is none, else a refusal with its number
pub record Admits (p : Picture) (f : ℕ) (r : Result Raster Refusal) : Type 0 where
  pub fault : fault_of r ≡ f
  pub raster : IfOk r (λ x. picture x ≡ p)
