-- Demand 3 for whatever a host calls of a device that it keeps: single events, logs and, by 2.9, two hosts on one line, in any mix and number.
-- The words.
use Rattle.std.specs.Prelude.{ℕ, ◌≡◌, List, [], ◌∷◌, map, length, take, drop}
use Rattle.letters.specs.Letters.{raw_of}
use Rattle.letters.specs.declared.Raw.{Raw}
use Rattle.device.specs.Calls.{Reply, apply_of}
use Rattle.device.specs.Run.{after_of}
use Rattle.device.specs.Secrecy.{Alike, stored_of, Stranger, Reached}
use Rattle.device.specs.declared.Device.{Device}
use Rattle.arbitration.specs.Arbitration.{Arbitration, events_of, arbitrate_of}
use Rattle.event_log.specs.Log.{Read, Events, Stopped, read_of}
use Rattle.event_log.specs.Run.{Outcome, run_of, buffer_of}

-- a call: a single event; a log with an answer buffer; two messages of hosts that start together (2.9). A call that a request adds joins here
pub data Call : Type 0 where
  Single : Raw → Call
  Log : (log buffer : List ℕ) → Call
  Arbitrate : (first second : List ℕ) → Call

-- what comes back from it: the reply; the outcome, the number of write cycles (2.8) and the contents of the whole buffer; who survives, or the
-- refusal
pub data Result : Type 0 where
  Replied : Reply → Result
  Ran : Outcome → (cycles : ℕ) → (buffer : List ℕ) → Result
  Arbitrated : Arbitration → Result

unfoldable pub result_of : Device → Call → Result
result_of d (Single r) = Replied (apply_of d r).reply
result_of d (Log log b) = Ran (run_of d log (length b)).outcome (run_of d log (length b)).cycles (buffer_of d log b)
result_of d (Arbitrate m n) = Arbitrated (arbitrate_of d m n).outcome

-- the device after it
unfoldable pub called_of : Device → Call → Device
called_of d (Single r) = (apply_of d r).device
called_of d (Log log b) = (run_of d log (length b)).device
called_of d (Arbitrate m n) = (arbitrate_of d m n).device

-- calls one after the other: the device after them, and their results one by one
unfoldable pub after_calls : Device → List Call → Device
after_calls d [] = d
after_calls d (c ∷ cs) = after_calls (called_of d c) cs

unfoldable pub results_of : Device → List Call → List Result
results_of d [] = []
results_of d (c ∷ cs) = result_of d c ∷ results_of (called_of d c) cs

-- the events of a call: those of a log that is read to its end, also where their answers then have no room; a log that is not read to its end
-- has none; S, the survivor's bytes and E of two messages that are not refused
unfoldable pub raws_in : Read → List Raw
raws_in (Events es) = map raw_of es
raws_in (Stopped why n) = []

unfoldable pub events_in : Call → List Raw
events_in (Single r) = r ∷ []
events_in (Log log b) = raws_in (read_of log)
events_in (Arbitrate m n) = events_of m n

-- those of the first of the calls
unfoldable pub first_events : List Call → List Raw
first_events [] = []
first_events (c ∷ cs) = events_in c

-- each moment of calls cs: after the first n of them (m = 0), and after each event inside the next one (the first m of its events)
abbrev pub moment_of : Device → List Call → ℕ → ℕ → Device
moment_of d cs n m = after_of (after_calls d (take n cs)) (take m (first_events (drop n cs)))

-- what is found of devices a and b and calls cs: the same results, call by call; and at each moment the two are alike, and every stored byte
-- of either is as at the beginning
pub record SecureCalls (a b : Device) (cs : List Call) : Type 0 where
  pub results : results_of a cs ≡ results_of b cs
  pub alike : (n m : ℕ) → Alike (moment_of a cs n m) (moment_of b cs n m)
  pub kept_a : (n m : ℕ) → stored_of (moment_of a cs n m) ≡ stored_of a
  pub kept_b : (n m : ℕ) → stored_of (moment_of b cs n m) ≡ stored_of b

-- the statement, about the whole list: the entry equals neither password at any moment, the beginning among them
abbrev pub CallsSecrecy : Type 0
CallsSecrecy =
    (a b : Device) (cs : List Call)
    → Reached a → Reached b → Alike a b
    → ((n m : ℕ) → Stranger (moment_of a cs n m) × Stranger (moment_of b cs n m))
    → SecureCalls a b cs
