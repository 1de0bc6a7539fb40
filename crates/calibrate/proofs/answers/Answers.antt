-- `answers`: a value that is given is a number, and a refusal one of 17 to 19.
use Rattle.std.proofs.Common.{sym, ◌∙◌, arith}
use Rattle.calibration.proofs.Checked.{calibrate_returns, refused_number}
use Rattle.calibration.proofs.Never.{numbers_given}
use Rattle.calibrate.proofs.answers.Goals as goal

pub show-requires : goal.show-requires
show-requires g c =
    rw (sym c.calibrate.ensures ∙ c.in-Ok.is) at (numbers_given c.args.lower.now c.in-Some.line.raws (omega arith))

pub refuse-requires : goal.refuse-requires
refuse-requires g c =
    refused_number c.args.lower.now _ _
    (((calibrate_returns c.args.lower.now c.in-Some.line.raws).exactly _ _).0 (sym c.calibrate.ensures ∙ c.in-Err.is))
