-- The walk begins behind the letters.
use Rattle.p5.specs.Headers.{walk}
use Rattle.p5.proofs.header.walk_header.Goals as goal

pub returns : goal.returns
unfolding walk
returns c =
    let h = c.header.ensures in
    rw (c.new.ensures.0, c.new.ensures.1) at h
