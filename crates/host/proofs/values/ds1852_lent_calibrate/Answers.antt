-- `ds1852_lent_calibrate`: R is no NaN, so its bits are its own.
use mathlib.Core.Path.{sym, ◌∙◌}
use native.Mathlib.Omega.{arith}
use Rattle.calibration.proofs.Never.{numbers_given}
use Rattle.host.proofs.values.ds1852_lent_calibrate.Goals as goal

pub float_to_bits-received : goal.float_to_bits-received
float_to_bits-received c =
    let r = c.from in
    let g = rw (sym c.calibrate.ensures ∙ c.in-Ok.is) at (numbers_given c.args.lent.now r.result (omega (arith, r.type_inv))) in
    rw g tt
