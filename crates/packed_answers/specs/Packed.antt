-- How an answer is packed into one number of 64 bits.
use Rattle.std.specs.Prelude.{ℕ, ◌/◌, ◌%◌}
use Rattle.answers.specs.Answers.{Answer}
use Rattle.board.specs.declared.query.Ground.{Ground}
use Rattle.board.specs.Calls.{QueryAnswer, ground_of, patch_number}
use Rattle.saving.specs.Calls.{Saved}

-- 2 to the power 32: the refusal's number stands above 32 bits
abbrev pub two_to_32 : ℕ
two_to_32 = 4294967296

-- 2 to the power 16: in the answer for a place the pixel's value stands above 16 bits, in that of saving the place of 6
abbrev pub two_to_16 : ℕ
two_to_16 = 65536

-- the answer in a number: the refusal above 32 bits, the value in them
abbrev pub answer_in : ℕ → Answer
answer_in r = record { number = r / two_to_32; value = r % two_to_32 }

-- the answer for a place in a number: the refusal above 32 bits, the pixel's value above 16 bits, the patch's number in those, 0 for the line
abbrev pub queried_in : ℕ → QueryAnswer
queried_in r =
    let ground : Ground = ground_of (r % two_to_16) in
    record { number = r / two_to_32; value = r % two_to_32 / two_to_16; ground = ground }

-- an answer for a place with its ground told by the patch's number: the same, but for a patch of number 0, which no call answers
abbrev pub ground_by_number : QueryAnswer → QueryAnswer
ground_by_number a =
    let ground : Ground = ground_of (patch_number a.ground) in
    record { number = a.number; value = a.value; ground = ground }

-- the answer of saving in a number: the refusal above 32 bits, its place above 16 bits, the count of bytes in those
abbrev pub saved_in : ℕ → Saved
saved_in r = record { number = r / two_to_32; place = r % two_to_32 / two_to_16; count = r % two_to_16 }
