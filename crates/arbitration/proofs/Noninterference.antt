-- Demand 3 for two hosts on one line, from demand 3: up to its E a transfer leaves the memory, and so the entry.
-- Assumes nothing.
use mathlib.Core.Path.{◌≡◌, refl}
use lib.ListN.{length, take}
use lib.Seq.{take-length}
use Rattle.device.specs.Run.{after_of}
use Rattle.device.specs.Secrecy.{Stranger}
use Rattle.device.specs.declared.Device.{Device}
use Rattle.device.proofs.Secrecy.{noninterference_before}
use Rattle.arbitration.specs.Arbitration.{events_of, arbitrate_of}
use Rattle.arbitration.specs.Noninterference.{TransferNoninterference}
use Rattle.arbitration.proofs.Events.{events_leave}

-- whether the entry equals a password is a matter of the memory
unauthenticated_by : (d e : Device) → e.memory ≡ d.memory → Stranger d → Stranger e
unauthenticated_by d e q s = record { not1 = rw q s.not1; not2 = rw q s.not2 }

pub transfer_noninterference : TransferNoninterference
unfolding arbitrate_of
transfer_noninterference a b m n ra rb q sa sb =
    let rs = events_of m n in
    let leaves = events_leave m n in
    let s = noninterference_before a b rs ra rb q (λ k h. (unauthenticated_by a (after_of a (take k rs)) (leaves k a h) sa, unauthenticated_by b (after_of b (take k rs)) (leaves k b h) sb)) in
    let whole = take-length rs in
    record {
      outcome = refl;
      events = s;
      alike = rw whole at (s.alike (length rs));
      kept_a = rw whole at (s.kept_a (length rs));
      kept_b = rw whole at (s.kept_b (length rs));
    }
