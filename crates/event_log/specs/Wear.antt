-- Document 02, 2.8, for whatever a host calls of a device that it keeps: the write cycles of single events, logs and two hosts on one line, in any
-- mix and number. The statements.
use Rattle.std.specs.Prelude.{ℕ, ◌+◌, ◌*◌, ◌≤◌, ◌≡◌, Ok, Err, List, [], ◌∷◌, ◌++◌, length}
use Rattle.letters.specs.declared.Raw.{Raw}
use Rattle.device.specs.Calls.{apply_of}
use Rattle.device.specs.Run.{after_of}
use Rattle.device.specs.Measured.{Cycled}
use Rattle.device.specs.Wear.{cycles_begun, write_cycles}
use Rattle.device.specs.declared.Device.{Device}
use Rattle.arbitration.specs.Arbitration.{arbitrate_of}
use Rattle.event_log.specs.Run.{Outcome, run_of}
use Rattle.event_log.specs.Secrecy.{Call, Single, Log, Arbitrate, called_of, after_calls, events_in}

-- the number of a call: of a single event, and of two hosts on one line, by busy before and after it, of a log what its run returns
unfoldable pub call_cycles : Device → Call → ℕ
call_cycles d (Single r) = cycles_begun d.internal.busy (apply_of d r).device.internal.busy
call_cycles d (Log log b) = (run_of d log (length b)).cycles
call_cycles d (Arbitrate m n) = cycles_begun d.internal.busy (arbitrate_of d m n).device.internal.busy

-- of calls one after the other: the sum
unfoldable pub calls_cycles : Device → List Call → ℕ
calls_cycles d [] = 0
calls_cycles d (c ∷ cs) = call_cycles d c + calls_cycles (called_of d c) cs

-- the events that a call ran: a log that is refused ran none
abbrev pub unless_refused : Outcome → List Raw → List Raw
unless_refused (Ok size) rs = rs
unless_refused (Err r) rs = []

unfoldable pub events_run : Device → Call → List Raw
events_run d (Single r) = r ∷ []
events_run d (Log log b) = unless_refused (run_of d log (length b)).outcome (events_in (Log log b))
events_run d (Arbitrate m n) = events_in (Arbitrate m n)

unfoldable pub all_events_run : Device → List Call → List Raw
all_events_run d [] = []
all_events_run d (c ∷ cs) = events_run d c ++ all_events_run (called_of d c) cs

-- the sum is the number of write cycles of the events that the calls ran, and these lead where the calls lead
abbrev pub CallsWear : Type 0
CallsWear =
    (d : Device) (cs : List Call)
    → (calls_cycles d cs ≡ write_cycles d (all_events_run d cs)) × (after_calls d cs ≡ after_of d (all_events_run d cs))

-- so the bound holds of it, from a start or a C
abbrev pub CallsWearBound : Type 0
CallsWearBound = (d : Device) (cs : List Call) → Cycled d → 6 * calls_cycles d cs ≤ length (all_events_run d cs) + 1
