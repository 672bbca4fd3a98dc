-- The number of a refusal is not 0.
use Rattle.std.proofs.Common.{◌≤◌, arith}
use Rattle.refusals.specs.declared.Refusal.{Refusal}
use Rattle.refusals.specs.declared.Refusal.TheVariants.{NotP5, Malformed, SideOutside, LargestOutside, CountDiffers, PixelAbove, AdjacencyUnknown, LengthDiffers, MemoryShort, PlaceOutside, NotTheTree, InputTooLong, SizeOutside, HandbookUnknown}
use Rattle.refusals.specs.Refusals.{number_of}

pub number-some : (e : Refusal) → 1 ≤ number_of e
number-some NotP5 = omega arith
number-some (Malformed x) = omega arith
number-some SideOutside = omega arith
number-some LargestOutside = omega arith
number-some CountDiffers = omega arith
number-some (PixelAbove x) = omega arith
number-some AdjacencyUnknown = omega arith
number-some LengthDiffers = omega arith
number-some MemoryShort = omega arith
number-some PlaceOutside = omega arith
number-some NotTheTree = omega arith
number-some InputTooLong = omega arith
number-some SizeOutside = omega arith
number-some HandbookUnknown = omega arith
