-- `set_pins`: 6Eh is no flag, so the number of raised flags stays.
use native.Mathlib.Omega.{arith}
use lib.Seq.{get_or-set_other}
use Rattle.memory.specs.Access.{with_pins}
use Rattle.readings.proofs.Raised.{raised_same, after_same}
use Rattle.device.proofs.DeviceMut.set_pins.Goals as goal

pub returns-clause-device : goal.returns-clause-device
returns-clause-device c =
    let b = c.args.self.now.bytes.now in
    let x = c.from.result in
    let same = raised_same (with_pins b x) b (λ p lo hi. get_or-set_other b 0x6E p x 0 (λ z. omega arith)) in
    rw (c.set_pins.ensures, ← c.from.ensures, after_same c.args.self.now.internal.raised b (with_pins b x) (omega arith) same)
