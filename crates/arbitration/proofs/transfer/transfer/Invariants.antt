-- `transfer`: the device has received the events so far.
use Rattle.std.proofs.Common.{◌≡◌}
use Rattle.device.specs.State.{device_at, SameLine}
use Rattle.device.specs.Run.{ran_of}
use Rattle.arbitration.proofs.transfer.transfer.Given as goal

abbrev pub invariant-loop-event : goal.invariant-loop-event
invariant-loop-event l = SameLine l.initial.device l.device × (device_at l.device ≡ ran_of (device_at l.initial.device) l.yielded)
