-- `received`: where a later coefficient is none, not all are finite.
use Rattle.std.proofs.Common.{◌∙◌, refl, sym}
use Rattle.calibration.specs.declared.received.TheConstants.{LATER}
use Rattle.calibration.proofs.Patterns.{later_infinite, none_infinite}
use Rattle.calibration.proofs.received.received.Goals as goal

pub returns-in_err-y-2 : goal.returns-in_err-y-2
returns-in_err-y-2 c =
    let none = none_infinite _ _ (sym c.coefficient-in-loop-i.ensures ∙ c.in_err-y-2.was) in
    let fails = later_infinite c.args.lower.now LATER c.loop-i.i-index none refl c.loop-i-test.true in
    rw fails c.from_residual-in_err-y-2.ensures
