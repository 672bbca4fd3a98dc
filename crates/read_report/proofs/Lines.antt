-- How much room a line of 32-bit numbers needs.
use Rattle.std.proofs.Common.{List, [], ◌∷◌, ℕ, suc, ◌*◌, ◌<◌, ◌≤◌, arith, length, get_or}
use Rattle.text.specs.Decimal.{fields}
use Rattle.text.proofs.Decimals.{decimal-length, last-length, next-length}

-- each number has at most ten digits, and one byte behind it
pub line-room : (ns : List ℕ) → 1 ≤ length ns → ((i : ℕ) → get_or ns i 0 < 4294967296) → length (fields ns) ≤ 11 * length ns
line-room [] l h = absurd (omega arith)
line-room (n ∷ []) l h = omega (arith, decimal-length 9 n (omega (arith, h 0)), last-length n)
line-room (n ∷ m ∷ ns) l h =
    omega (
      arith,
      decimal-length 9 n (omega (arith, h 0)),
      next-length n m ns,
      line-room (m ∷ ns) (omega arith) (λ i. h (suc i)),
    )
