-- The number and the place of each refusal.
use Rattle.std.specs.Prelude.{ℕ, Result, Ok, Err}
use Rattle.refusals.specs.declared.Refusal.{Refusal}
use Rattle.refusals.specs.declared.Refusal.TheVariants.{NotP5, Malformed, SideOutside, LargestOutside, CountDiffers, PixelAbove, AdjacencyUnknown, LengthDiffers, MemoryShort, PlaceOutside, NotTheTree, InputTooLong, SizeOutside, HandbookUnknown}

-- the number of a refusal
abbrev pub number_of : Refusal → ℕ
number_of NotP5 = 1
number_of (Malformed x) = 2
number_of SideOutside = 3
number_of LargestOutside = 4
number_of CountDiffers = 5
number_of (PixelAbove x) = 6
number_of AdjacencyUnknown = 7
number_of LengthDiffers = 8
number_of MemoryShort = 9
number_of PlaceOutside = 10
number_of NotTheTree = 11
number_of InputTooLong = 12
number_of SizeOutside = 13
number_of HandbookUnknown = 14

-- the place that a refusal names: of the first unfit byte, or of the first pixel above the largest sample; else 0
abbrev pub place_of : Refusal → ℕ
place_of NotP5 = 0
place_of (Malformed x) = x
place_of SideOutside = 0
place_of LargestOutside = 0
place_of CountDiffers = 0
place_of (PixelAbove x) = x
place_of AdjacencyUnknown = 0
place_of LengthDiffers = 0
place_of MemoryShort = 0
place_of PlaceOutside = 0
place_of NotTheTree = 0
place_of InputTooLong = 0
place_of SizeOutside = 0
place_of HandbookUnknown = 0

-- the fault of an answer: 0, or the number of its refusal
abbrev pub fault_of : {A : Type 0} → Result A Refusal → ℕ
fault_of (Ok a) = 0
fault_of (Err e) = number_of e
