-- Demand 3 for the calls of a host, from demand 3: each call's events are a list of it, and after the call the device is where they left it,
-- or where it was.
-- Assumes nothing.
use Prim.Native.Nat.{ℕ, zero, suc}
use mathlib.Core.Path.{◌≡◌, refl, sym, ap, ap₂, ◌∙◌}
use mathlib.Core.Bool.{Bool, true, false, cond}
use Rattle.std.specs.Prelude.{Ok, Ok}
use mathlib.Core.List.{List, [], ◌∷◌, map}
use native.Mathlib.Omega.{arith}
use lib.Dec.{leb}
use lib.ListN.{length, take}
use lib.Seq.{take-length, take-nil, drop-nil}
use Rattle.letters.specs.Letters.{raw_of}
use Rattle.letters.specs.declared.Event.{Event}
use Rattle.letters.specs.declared.Raw.{Raw}
use Rattle.device.specs.Calls.{Reply, apply_of}
use Rattle.device.specs.Run.{after_of, replies_of, ran_of, answers_of}
use Rattle.device.specs.Wear.{write_cycles}
use Rattle.device.specs.Secrecy.{Alike, stored_of, Reached, later}
use Rattle.device.specs.declared.Device.{Device}
use Rattle.device.specs.declared.Answer.{Answer}
use Rattle.device.proofs.Runs.{reached_after, as_raw}
use Rattle.device.proofs.Secrecy.{secrecy}
use Rattle.device.proofs.Wear.{cycles_alike}
use Rattle.arbitration.specs.Arbitration.{events_of, arbitrate_of}
use Rattle.event_log.specs.Log.{Read, Events, Stopped, read_of}
use Rattle.event_log.specs.Run.{text_of, ran_by, run_of, buffer_by, buffer_of}
use Rattle.event_log.specs.Secrecy.{Call, Single, Log, Arbitrate, Result, Replied, result_of, called_of, after_calls, results_of, raws_in, events_in, first_events, moment_of, CallsSecrecy}
use Rattle.event_log.proofs.Flags.{reached_run}
use Rattle.event_log.proofs.Results.{ended}
use Rattle.event_log.proofs.RoundTrip.{read_known}

same_answers : (xs ys : List Answer) → map {B = Reply} Ok xs ≡ map {B = Reply} Ok ys → xs ≡ ys
same_answers [] [] q = refl
same_answers [] (y ∷ ys) q = let z : ◌≡◌ {A = ℕ} 0 1 = cc in absurd (omega arith)
same_answers (x ∷ xs) [] q = let z : ◌≡◌ {A = ℕ} 0 1 = cc in absurd (omega arith)
same_answers (x ∷ xs) (y ∷ ys) q =
    let h : x ≡ y = cc in
    let t : map {B = Reply} Ok xs ≡ map {B = Reply} Ok ys = cc in
    rw (h, same_answers xs ys t)

-- ---- one call

-- of two devices before a call and after it: the same result, and each is where the first n of its events left it (all of them, or none)
record SameCall (a b : Device) (c : Call) : Type 0 where
  result : result_of a c ≡ result_of b c
  events : ℕ
  after_a : called_of a c ≡ after_of a (take events (events_in c))
  after_b : called_of b c ≡ after_of b (take events (events_in c))

-- the outcome and the number of write cycles, by whether the answers of either fit
ended_same : (a b : Device) (es : List Event) (f g : Bool) → f ≡ g
    → answers_of a es ≡ answers_of b es → write_cycles a (map raw_of es) ≡ write_cycles b (map raw_of es)
    → ((ended a es f).outcome ≡ (ended b es g).outcome) × ((ended a es f).cycles ≡ (ended b es g).cycles)
ended_same a b es f true e y n = rw e (ap (λ (ys : List Answer). Ok (length (text_of ys))) y, n)
ended_same a b es f false e y n = rw e (refl, refl)

-- how many events of a run are kept, by whether the answers fit
abbrev kept_events : List Raw → Bool → ℕ
kept_events rs fits = cond fits (length rs) 0

ended_after : (d : Device) (es : List Event) (fits : Bool) → after_of d (map raw_of es) ≡ ran_of d es
    → (ended d es fits).device ≡ after_of d (take (kept_events (map raw_of es) fits) (map raw_of es))
unfolding after_of
ended_after d es true q = rw (take-length (map raw_of es)) (sym q)
ended_after d es false q = refl

-- the same of a log, by what was read of it
record SameRun (a b : Device) (buffer : List ℕ) (o : Read) : Type 0 where
  outcome : (ran_by a (length buffer) o).outcome ≡ (ran_by b (length buffer) o).outcome
  cycles : (ran_by a (length buffer) o).cycles ≡ (ran_by b (length buffer) o).cycles
  answers : buffer_by a buffer o ≡ buffer_by b buffer o
  events : ℕ
  after_a : (ran_by a (length buffer) o).device ≡ after_of a (take events (raws_in o))
  after_b : (ran_by b (length buffer) o).device ≡ after_of b (take events (raws_in o))

same_run : (a b : Device) (log buffer : List ℕ) (o : Read) → read_of log ≡ o
    → replies_of a (raws_in o) ≡ replies_of b (raws_in o) → write_cycles a (raws_in o) ≡ write_cycles b (raws_in o) → SameRun a b buffer o
unfolding raws_in after_of ran_by buffer_by
same_run a b log buffer (Events es) e r n =
    let k = read_known log es e in
    let x = as_raw a k in
    let y = as_raw b k in
    let same = same_answers (answers_of a es) (answers_of b es) (sym x.replies ∙ r ∙ y.replies) in
    let fits_by : List Answer → Bool = λ ys. leb (length (text_of ys)) (length buffer) in
    let alike = ap fits_by same in
    let both = ended_same a b es (fits_by (answers_of a es)) (fits_by (answers_of b es)) alike same n in
    record {
      outcome = both.0;
      cycles = both.1;
      answers = rw same;
      events = kept_events (map raw_of es) (fits_by (answers_of b es));
      after_a =
          ended_after a es (fits_by (answers_of a es)) x.device
          ∙ ap (λ (f : Bool). after_of a (take (kept_events (map raw_of es) f) (map raw_of es))) alike;
      after_b = ended_after b es (fits_by (answers_of b es)) y.device;
    }
same_run a b log buffer (Stopped why line) e r n = record { outcome = refl; cycles = refl; answers = refl; events = 0; after_a = refl; after_b = refl }

same_call : (a b : Device) (c : Call) → replies_of a (events_in c) ≡ replies_of b (events_in c) → write_cycles a (events_in c) ≡ write_cycles b (events_in c)
    → SameCall a b c
unfolding result_of called_of events_in after_of replies_of run_of buffer_of arbitrate_of
same_call a b (Single r) e n =
    let q : (apply_of a r).reply ≡ (apply_of b r).reply = cc in
    record { result = ap Replied q; events = 1; after_a = refl; after_b = refl }
same_call a b (Log log buffer) e n =
    let s = same_run a b log buffer (read_of log) refl e n in
    record { result = rw (s.outcome, s.cycles, s.answers); events = s.events; after_a = s.after_a; after_b = s.after_b }
same_call a b (Arbitrate m n) e k =
    let rs = events_of m n in
    record { result = refl; events = length rs; after_a = rw (take-length rs); after_b = rw (take-length rs) }

reached_call : (d : Device) (c : Call) → Reached d → Reached (called_of d c)
unfolding called_of arbitrate_of
reached_call d (Single r) h = later d r h
reached_call d (Log log buffer) h = reached_run d log (length buffer) h
reached_call d (Arbitrate m n) h = reached_after (events_of m n) d h

-- ---- the list

pub moment_none : (d : Device) (n m : ℕ) → moment_of d [] n m ≡ d
unfolding after_calls first_events after_of
moment_none d n m = rw (take-nil {A = Call} n, drop-nil {A = Call} n, take-nil {A = Raw} m)

pub calls_secrecy : CallsSecrecy
unfolding after_calls results_of first_events
calls_secrecy a b [] ra rb q s =
    record {
      results = refl;
      alike = λ n m. rw (moment_none a n m, moment_none b n m) q;
      kept_a = λ n m. ap stored_of (moment_none a n m);
      kept_b = λ n m. ap stored_of (moment_none b n m);
    }
calls_secrecy a b (c ∷ cs) ra rb q s =
    let first = secrecy a b (events_in c) ra rb q (s 0) in
    let call = same_call a b c first.replies (cycles_alike a b (events_in c) first) in
    let k = call.events in
    let rest = calls_secrecy (called_of a c) (called_of b c) cs (reached_call a c ra) (reached_call b c rb) (rw (call.after_a, call.after_b) (first.alike k)) (λ n m. s (suc n) m) in
    record {
      results = ap₂ {C = List Result} (λ y ys. y ∷ ys) call.result rest.results;
      alike = λ n m. elim n as (λ j. Alike (moment_of a (c ∷ cs) j m) (moment_of b (c ∷ cs) j m)) [ zero ↦ first.alike m | suc n ↦ rest.alike n m ];
      kept_a = λ n m. elim n as (λ j. stored_of (moment_of a (c ∷ cs) j m) ≡ stored_of a) [ zero ↦ first.kept_a m | suc n ↦ rest.kept_a n m ∙ ap stored_of call.after_a ∙ first.kept_a k ];
      kept_b = λ n m. elim n as (λ j. stored_of (moment_of b (c ∷ cs) j m) ≡ stored_of b) [ zero ↦ first.kept_b m | suc n ↦ rest.kept_b n m ∙ ap stored_of call.after_b ∙ first.kept_b k ];
    }
