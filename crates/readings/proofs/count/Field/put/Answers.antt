-- `put`: the field is put, and the number goes on by its 1 bits.
use mathlib.Core.Path.{refl, ◌∙◌}
use native.Mathlib.Omega.{arith}
use lib.ListN.{get_or}
use Rattle.readings.proofs.Numbers.{four_most, field_lt, field_put}
use Rattle.readings.proofs.Raised.{after_field}
use Rattle.readings.proofs.count.Field.put.Goals as goal

pub overflow_add-bytes : goal.overflow_add-bytes
overflow_add-bytes c =
    let a = c.args in
    let s = a.self in
    let x = get_or a.bytes.now s.byte 0 in
    let put = field_put s.low s.width x a.f c.of-old.result s.fits c.requires c.of-old.ensures.0 in
    omega (arith, field_lt s.low s.width x a.f s.fits (c.fits-bytes s.byte) c.requires)

pub ones_of_two-more-requires : goal.ones_of_two-more-requires
ones_of_two-more-requires c = let s = c.args.self in four_most _ s.width c.requires s.narrow.1

pub returns : goal.returns
returns c =
    let a = c.args in
    let s = a.self in
    let x = get_or a.bytes.now s.byte 0 in
    let size = c.told-bytes in
    let on =
    after_field a.raised s.byte s.width s.low a.f a.bytes.now s.flags.0 s.flags.1 (omega arith) s.narrow.0 s.narrow.1 s.fits
    (c.fits-bytes s.byte) c.requires in
    rw (field_put s.low s.width x a.f c.of-old.result s.fits c.requires c.of-old.ensures.0)
    (refl, c.go_on.ensures ∙ rw (← c.ones_of_two-more.ensures, ← c.of-old.ensures.0, ← c.ones_of_two-cleared.ensures) at on)
