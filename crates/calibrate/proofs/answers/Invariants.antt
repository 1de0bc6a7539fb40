-- `answers`: a line leaves less of the text, so the lines end and their number fits.
use Rattle.std.proofs.Common.{◌+◌, ◌≤◌, length}
use Rattle.calibrate.proofs.answers.Given as goal

abbrev pub invariant-loop-rest : goal.invariant-loop-rest
invariant-loop-rest g l = l.number + length l.rest ≤ length l.text + 1

abbrev pub decreases-loop-rest : goal.decreases-loop-rest
decreases-loop-rest g l = length l.rest
