-- `read_line`: the loop is the reading of `Reading`.
use Rattle.calibrate.proofs.Reading.{Reading}
use Rattle.calibrate.proofs.rows.read_line.Given as goal

abbrev pub invariant-loop-k : goal.invariant-loop-k
invariant-loop-k l = Reading l.text l.raw-items l.at l.k
