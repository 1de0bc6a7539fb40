-- Demand 3 for two hosts on one line: two devices and the same two messages. "Traffic settled this way is a list of events like any other for
-- the closed bytes". (As one more kind of call, among single events and logs: specs/Secrecy of crate event_log)
use Rattle.std.specs.Prelude.{◌≡◌, List, ℕ}
use Rattle.device.specs.Secrecy.{Alike, stored_of, Stranger, Reached, Secure}
use Rattle.device.specs.declared.Device.{Device}
use Rattle.arbitration.specs.Arbitration.{events_of, arbitrate_of}

-- what is found: the same outcome; the events settled are a list as in demand 3, so that the two are alike and every stored byte of either is
-- kept after each of them; and so after the call
pub record IndistinguishableTransfer (a b : Device) (m n : List ℕ) : Type 0 where
  pub outcome : (arbitrate_of a m n).outcome ≡ (arbitrate_of b m n).outcome
  pub events : Secure a b (events_of m n)
  pub alike : Alike (arbitrate_of a m n).device (arbitrate_of b m n).device
  pub kept_a : stored_of (arbitrate_of a m n).device ≡ stored_of a
  pub kept_b : stored_of (arbitrate_of b m n).device ≡ stored_of b

-- the statement. The entry is asked for at the beginning alone: a transfer can change it only by its E, and the entry from before decides what
-- that stores
abbrev pub TransferNoninterference : Type 0
TransferNoninterference =
    (a b : Device) (m n : List ℕ)
    → Reached a → Reached b → Alike a b
    → Stranger a → Stranger b
    → IndistinguishableTransfer a b m n
