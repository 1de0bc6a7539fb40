-- `read_line`: a number that is read is one more turn of `Reading`.
use Rattle.std.proofs.Common.{arith}
use Rattle.calibrate.proofs.Reading.{reading_step}
use Rattle.calibrate.proofs.rows.read_line.Goals as goal

pub loop-k-preserved : goal.loop-k-preserved
loop-k-preserved c =
    reading_step _ _ _ _ c.loop-k.invariant (grind arith) _ c.read_number.ensures _ c.in_ok-number.was c.in_ok-get.field-0.now _ _ (omega arith) (grind arith) (grind arith) c.end_of.ensures (grind arith)
