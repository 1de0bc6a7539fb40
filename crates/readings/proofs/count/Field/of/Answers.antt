-- `of`: a field of at most two bits.
use Prim.Native.Nat.{◌*◌, ◌/◌, ◌%◌, ◌^◌}
use mathlib.Core.Path.{◌≡◌, refl}
use native.Mathlib.Nat.{mod-lt}
use native.Mathlib.Omega.{arith}
use lib.Pow.{pow_pos}
use Rattle.std.proofs.lemmas.Nat.{one_shl}
use Rattle.readings.proofs.Numbers.{four_most}
use Rattle.readings.proofs.count.Field.of.Goals as goal

pub returns : goal.returns
returns c =
    let s = c.args.self in
    let e : 1 * 2 ^ s.width % 256 ≡ 2 ^ s.width = one_shl s.width 8 (omega arith) in
    rw e (refl, four_most _ s.width (mod-lt (c.args.x / 2 ^ s.low) (pow_pos s.width)) s.narrow.1)
