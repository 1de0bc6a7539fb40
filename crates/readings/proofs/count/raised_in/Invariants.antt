-- `raised_in`: the bytes so far are counted, each with at most eight.
use mathlib.Core.Path.{◌≡◌}
use Prim.Native.Nat.{◌≤◌, ◌*◌}
use Rattle.readings.specs.Raised.{raised_from}
use Rattle.readings.proofs.count.raised_in.Given as goal

abbrev pub invariant-loop-x : goal.invariant-loop-x
invariant-loop-x l = (l.count ≤ 8 * l.x-index) × (l.count ≡ raised_from l.x-index l.bytes)
