-- Document 02, 2.8, over calls: each call's number is that of the events that it ran.
-- Assumes nothing.
use Prim.Native.Nat.{ℕ, ◌+◌, ◌≤◌}
use mathlib.Core.Path.{◌≡◌, refl, sym, ap, ap₂, ◌∙◌}
use mathlib.Core.Bool.{Bool, true, false}
use Rattle.std.specs.Prelude.{Ok, Err}
use mathlib.Core.List.{List, [], ◌∷◌, map}
use native.Mathlib.Nat.{add-zero}
use native.Mathlib.Omega.{arith}
use lib.Dec.{leb}
use lib.ListN.{length, length-map}
use Rattle.letters.specs.Letters.{raw_of}
use Rattle.letters.specs.declared.Event.{Event}
use Rattle.letters.specs.declared.Raw.{Raw}
use Rattle.device.specs.Run.{after_of, answers_of}
use Rattle.device.specs.Measured.{Cycled}
use Rattle.device.specs.Wear.{write_cycles}
use Rattle.device.specs.declared.Device.{Device}
use Rattle.device.proofs.Runs.{after_append, InRange, as_raw}
use Rattle.device.proofs.Wear.{wear_bound, wear_most, cycles_append, cycles_once}
use Rattle.arbitration.specs.Arbitration.{events_of, arbitrate_of}
use Rattle.arbitration.proofs.Events.{events_stay}
use Rattle.event_log.specs.Log.{Read, Events, Stopped, read_of}
use Rattle.event_log.specs.Run.{Outcome, text_of, ran_by, run_of}
use Rattle.event_log.specs.Secrecy.{Call, Single, Log, Arbitrate, called_of, after_calls, raws_in, events_in}
use Rattle.event_log.specs.Wear.{call_cycles, calls_cycles, unless_refused, events_run, all_events_run, CallsWear, CallsWearBound}
use Rattle.event_log.specs.declared.Ran.{Ran}
use Rattle.event_log.proofs.Results.{ended}
use Rattle.event_log.proofs.Lengths.{events_most}
use Rattle.event_log.proofs.RoundTrip.{read_known}

-- what a run returns, by the events rs that it was given
abbrev RunsAs : Device → List Raw → Ran → Type 0
RunsAs d rs r =
    (r.cycles ≡ write_cycles d (unless_refused r.outcome rs)) × (r.device ≡ after_of d (unless_refused r.outcome rs))

ended_runs : (d : Device) (es : List Event) (fits : Bool) → InRange es → RunsAs d (map raw_of es) (ended d es fits)
unfolding write_cycles after_of
ended_runs d es true k = (refl, sym (as_raw d k).device)
ended_runs d es false k = (refl, refl)

log_runs : (d : Device) (log : List ℕ) (room : ℕ) (o : Read) → read_of log ≡ o → RunsAs d (raws_in o) (ran_by d room o)
unfolding raws_in ran_by write_cycles after_of
log_runs d log room (Events es) e = ended_runs d es (leb (length (text_of (answers_of d es))) room) (read_known log es e)
log_runs d log room (Stopped why n) e = (refl, refl)

run_runs : (d : Device) (log : List ℕ) (room : ℕ) → RunsAs d (raws_in (read_of log)) (run_of d log room)
unfolding run_of
run_runs d log room = log_runs d log room (read_of log) refl

call_runs : (d : Device) (c : Call) → (call_cycles d c ≡ write_cycles d (events_run d c)) × (called_of d c ≡ after_of d (events_run d c))
unfolding call_cycles events_run called_of events_in write_cycles after_of arbitrate_of
call_runs d (Single r) = (sym (add-zero _), refl)
call_runs d (Log log b) = run_runs d log (length b)
call_runs d (Arbitrate m n) = (sym (cycles_once (events_of m n) d (events_stay m n)), refl)

pub calls_wear : CallsWear
unfolding calls_cycles all_events_run after_calls write_cycles after_of
calls_wear d [] = (refl, refl)
calls_wear d (c ∷ cs) =
    let one = call_runs d c in
    let rest = calls_wear (called_of d c) cs in
    let rs = events_run d c in
    let ss = all_events_run (called_of d c) cs in (
      ap₂ (λ (m n : ℕ). m + n) one.0 (rest.0 ∙ ap (λ (x : Device). write_cycles x ss) one.1) ∙ sym (cycles_append rs ss d),
      rest.1 ∙ ap (λ (x : Device). after_of x ss) one.1 ∙ sym (after_append rs ss d),
    )

pub calls_wear_bound : CallsWearBound
calls_wear_bound d cs h = rw (calls_wear d cs).0 (wear_bound d (all_events_run d cs) h)

-- ---- the greatest number of a run

-- a log has at most 5,461 events, read to its end or not
few_raws : (log : List ℕ) (o : Read) (y : Outcome) → read_of log ≡ o → length (unless_refused y (raws_in o)) ≤ 5461
unfolding raws_in
few_raws log (Events es) (Ok size) e = omega (arith, length-map es raw_of, events_most log es e)
few_raws log (Events es) (Err r) e = omega arith
few_raws log (Stopped why n) (Ok size) e = omega arith
few_raws log (Stopped why n) (Err r) e = omega arith

-- so a run has at most 911 write cycles, whatever the device, and at most 910 from a start or a C
pub run_cycles_most : (d : Device) (log : List ℕ) (room : ℕ) → ((run_of d log room).cycles ≤ 911) × (Cycled d → (run_of d log room).cycles ≤ 910)
run_cycles_most d log room =
    let y = (run_of d log room).outcome in
    let rs = unless_refused y (raws_in (read_of log)) in
    let n = (run_runs d log room).0 in
    let few = few_raws log (read_of log) y refl in
    (omega (arith, wear_most d rs), λ h. omega (arith, wear_bound d rs h))
