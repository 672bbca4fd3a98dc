-- An accepted file has at most 1,600 pixels, and more bytes than pixels.
use Rattle.std.proofs.Common.{◌≡◌, sym, ap, ◌∙◌, List, ℕ, ◌≤◌, ◌<◌, arith, length, drop, length-append, mul-le-mul, Ok}
use Rattle.p5.specs.declared.header.Header.{Header}
use Rattle.p5.specs.Files.{read_file, outcome_number, header_of}
use Rattle.p5.specs.Shapes.{Headed, Accepts}
use Rattle.p5.proofs.Accepted.{accepted}
use Rattle.p5.proofs.Shape.{headed-rest}
use Rattle.board.specs.Pixels.{pixels_of}
use Rattle.board.proofs.Pixels.{pixels-read}

-- a header has at least one byte
headed-longer : {f rest : List ℕ} {h : Header} → Headed f h rest → length rest < length f
headed-longer k = rw k.bytes (simp length-append (omega arith))

module _ (f : List ℕ) {h : Header} (e : read_file f ≡ Ok h) where
  accepts : Accepts f h
  accepts = (accepted f h).0 e

  pixels-rest : pixels_of f ≡ accepts.pixels
  pixels-rest = sym (pixels-read f (ap outcome_number e)) ∙ ap (λ r. drop (header_of r).offset f) e ∙ headed-rest f h _ accepts.headed

  pub pixels-few : length (pixels_of f) ≤ 1600
  pixels-few = omega (arith, ap length pixels-rest, accepts.count, mul-le-mul accepts.width.1 accepts.height.1)

  pub pixels-fewer : length (pixels_of f) < length f
  pixels-fewer = omega (arith, ap length pixels-rest, headed-longer accepts.headed)
