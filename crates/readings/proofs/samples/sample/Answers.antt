-- `sample`: the two tests select the case, and each result stands for its definition.
use mathlib.Core.Path.{refl, sym}
use native.Mathlib.Omega.{arith}
use Rattle.readings.specs.Readings.{sampled_of}
use Rattle.readings.proofs.Raised.{after_same, after_from, stored_raised}
use Rattle.readings.proofs.samples.sample.Goals as goal

pub returns-then-bit_of-2 : goal.returns-then-bit_of-2
unfolding sampled_of
returns-then-bit_of-2 c =
    let stored = c.store_reading in
    let x = c.reading-x in
    let k = c.number-k in
    let a = c.args in
    let same = rw (← stored.ensures) at (stored_raised a.bytes.now k.result x.result.value k.ensures.1) in
    rw (← c.bit_of.ensures, c.if-bit_of.true, ← c.bit_of-then-bit_of.ensures, c.if-bit_of-2.true, ← x.ensures.0, ← x.ensures.1, ← k.ensures.0)
    (stored.ensures, (c.taken-value.ensures, sym (after_same a.raised a.bytes.now stored.new.bytes (omega arith) same)))

pub returns-then-bit_of : goal.returns-then-bit_of
unfolding sampled_of
returns-then-bit_of c =
    let stored = c.store_reading in
    let x = c.reading-x in
    let k = c.number-k in
    let a = c.args in
    let same = rw (← stored.ensures) at (stored_raised a.bytes.now k.result x.result.value k.ensures.1) in
    rw (
      ← c.bit_of.ensures,
      c.if-bit_of.true,
      ← c.bit_of-then-bit_of.ensures,
      c.if-bit_of-2.false,
      ← x.ensures.0,
      ← x.ensures.1,
      ← k.ensures.0,
      ← stored.ensures,
      ← c.limits_of-limits.ensures,
    )
    (c.flag-flagged.ensures.0, (c.taken-value.ensures, after_from _ _ stored.new.bytes a.bytes.now c.flag-flagged.new.bytes same c.flag-flagged.ensures.1))

pub returns : goal.returns
unfolding sampled_of
returns c =
    let a = c.args in
    rw (← c.bit_of.ensures, c.if-bit_of.false)
    (refl, (refl, sym (after_same a.raised a.bytes.now a.bytes.now (omega arith) refl)))
