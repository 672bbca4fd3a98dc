-- The fault of a call's arguments, from numbers and lengths alone: 14, then 7, 3, 8, then 9, then 10 or 13.
use Rattle.std.specs.Prelude.{Bool, ◌||◌, not, ℕ, ◌*◌, eqb, ltb, leb, length}
use Rattle.picture.specs.Pictures.{Picture}
use Rattle.faults.specs.PictureFault.{first_of, when, picture_fault}

-- the fault of a picture's arguments, then 9 for work of fewer than 5 n entries
unfoldable pub work_fault : ℕ → ℕ → ℕ → ℕ → ℕ → ℕ
work_fault a w h l work = first_of (picture_fault a w h l) (when (ltb work (5 * (w * h))) 9)

-- the same of a picture and work
abbrev pub work_fault_of : Picture → ℕ → ℕ
work_fault_of p work = work_fault p.adjacency p.width p.height (length p.pixels) work

-- the fault of a picture's arguments and work, then 9 for output or lent lists of fewer than n entries
unfoldable pub output_fault : ℕ → ℕ → ℕ → ℕ → ℕ → ℕ → ℕ
output_fault a w h l out work = first_of (work_fault a w h l work) (when (ltb out (w * h)) 9)

-- the fault of a picture's arguments and work, then 10 for a place that is n or more
unfoldable pub place_fault : ℕ → ℕ → ℕ → ℕ → ℕ → ℕ → ℕ
place_fault a w h l work x = first_of (work_fault a w h l work) (when (leb (w * h) x) 10)

-- 14 for a handbook that is neither 4 nor 5, then the fault of a call that names a place
unfoldable pub touch_fault : ℕ → ℕ → ℕ → ℕ → ℕ → ℕ → ℕ → ℕ
touch_fault handbook a w h l work x =
    first_of (when (not (eqb handbook 4 || eqb handbook 5)) 14) (place_fault a w h l work x)

-- a least size is 0 or above n
abbrev pub size_unfit : ℕ → ℕ → Bool
size_unfit n s = eqb s 0 || ltb n s

-- the fault of a picture's arguments, work and output, then 13 for an unfit least size
unfoldable pub size_fault : ℕ → ℕ → ℕ → ℕ → ℕ → ℕ → ℕ → ℕ
size_fault a w h l out work s = first_of (output_fault a w h l out work) (when (size_unfit (w * h) s) 13)
