-- The digits but the last, then the last.
use Rattle.std.proofs.Common.{arith}
use Rattle.lists.proofs.Writings.{written-length}
use Rattle.text.proofs.NumbersWritten.{number-one, number_more, number-room, number-some, number-fewer}
use Rattle.text.proofs.+put_number.Goals as goal

pub put-requires : goal.put-requires
put-requires t c =
    let l = number-some c.args.n (omega arith) in
    omega arith

pub returns-then-n-lt10 : goal.returns-then-n-lt10
returns-then-n-lt10 t c = number-one c.args.n (omega arith) c.put.ensures

pub put_number-next-requires : goal.put_number-next-requires
put_number-next-requires t c = let l = number-fewer c.args.n in (omega arith, omega arith)

pub put-requires-else-n-lt10 : goal.put-requires-else-n-lt10
put-requires-else-n-lt10 t c =
    let l = number-room c.args.n (omega arith) in
    let w = c.put_number-next.ensures in
    let e = w.end in
    let k = written-length (omega arith) w in
    omega arith

pub returns-else-n-lt10 : goal.returns-else-n-lt10
returns-else-n-lt10 t c = number_more c.args.n (omega arith) (omega arith) c.put_number-next.ensures c.put-else-n-lt10.ensures
