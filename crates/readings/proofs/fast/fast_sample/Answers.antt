-- `fast_sample`: the test selects the case, and each result stands for its definition.
use mathlib.Core.Path.{refl, sym}
use native.Mathlib.Omega.{arith}
use Rattle.readings.specs.Readings.{fast_of}
use Rattle.readings.proofs.Raised.{after_same}
use Rattle.readings.proofs.fast.fast_sample.Goals as goal

pub returns-then-bit_of : goal.returns-then-bit_of
unfolding fast_of
returns-then-bit_of c = let a = c.args in rw (← c.bit_of.ensures, c.if-bit_of.true) (refl, sym (after_same a.raised a.bytes.now a.bytes.now (omega arith) refl))

pub returns : goal.returns
unfolding fast_of
returns c =
    rw (← c.bit_of.ensures, c.if-bit_of.false, ← c.band.ensures.0, ← c.trip_at-at.ensures.0)
    (rw (c.fast_flag.ensures.1) (let h = c.put.ensures.0 in grind arith))
