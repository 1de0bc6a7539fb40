-- The hypotheses of demand 3 over calls are met, by two devices that differ in every closed byte and by calls of each kind; and the condition
-- on the entry is needed inside a log as well.
use Prim.Native.Nat.{ℕ, zero, suc}
use mathlib.Core.Path.{◌≡◌, refl, sym, ap, ◌∙◌}
use mathlib.Core.Bool.{Bool, true, ◌&&◌}
use Rattle.std.specs.Prelude.{Ok, Err}
use mathlib.Core.List.{List, [], ◌∷◌, ◌++◌}
use native.Mathlib.Omega.{arith}
use lib.ListN.{get_or, replicate}
use Rattle.memory.specs.Bytes.{with_bit, mask_of}
use Rattle.memory.specs.Access.{place_of, level_of, class_of, writable_at, read_at}
use Rattle.memory.specs.Page.{put_of}
use Rattle.memory.specs.Power.{cycled_bytes}
use Rattle.memory.specs.Image.{image_bytes, image_memory}
use Rattle.memory.proofs.Bools.{and_true}
use Rattle.readings.specs.Readings.{flagged_of, sampled_of, fast_of}
use Rattle.letters.specs.Letters.{kind_of, decode_of, raw_of}
use Rattle.lines.specs.Numbers.{scan_from, number_of, decimal}
use Rattle.lines.specs.Rows.{expect, valued, channelled, row_at, row_text}
use Rattle.device.specs.Bus.{address_of, rest_of, reading_at, started_of, listened_of, gathered_of, stopped_at}
use Rattle.device.specs.Calls.{apply_of}
use Rattle.device.specs.Run.{after_of, ran_of, answers_of}
use Rattle.device.specs.Secrecy.{Alike, Stranger, Reached}
use Rattle.device.specs.declared.Device.{Device}
use Rattle.device.proofs.Runs.{each_time, any_time}
use Rattle.device.proofs.Traffic.{S, E, B, R, C, A, I, write, read_from}
use Rattle.device.proofs.Witness.{quiet, stranger, one, two, reached_one, reached_two, alike_two}
use Rattle.arbitration.specs.Line.{bits_from, bits_of, hosts_after, winner_of}
use Rattle.arbitration.specs.Arbitration.{begins, outcome_of, events_of, arbitrate_of}
use Rattle.event_log.specs.Lines.{judged_by, line_of}
use Rattle.event_log.specs.Log.{more, followed, unless_empty, lines_of, read_of}
use Rattle.event_log.specs.Write.{write_of}
use Rattle.event_log.specs.Run.{answer_line, lines_from, ran_by, run_of}
use Rattle.event_log.specs.Secrecy.{Call, Single, Log, Arbitrate, Result, Replied, Ran, Arbitrated, result_of, called_of, after_calls, results_of, raws_in, events_in, first_events, moment_of, SecureCalls}
use Rattle.event_log.proofs.Secrecy.{calls_secrecy, moment_none}

-- a test of the device that is met at each moment of calls
unfoldable each_moment : (Device → Bool) → Device → List Call → Bool
each_moment t d [] = t d
each_moment t d (c ∷ cs) = each_time t d (events_in c) && each_moment t (called_of d c) cs

any_moment : (t : Device → Bool) (cs : List Call) (d : Device) → each_moment t d cs ≡ true → (n m : ℕ) → t (moment_of d cs n m) ≡ true
unfolding each_moment after_calls first_events
any_moment t [] d e n m = rw (moment_none d n m) e
any_moment t (c ∷ cs) d e zero m = any_time t (events_in c) d (and_true (each_time t d (events_in c)) (each_moment t (called_of d c) cs) e).0 m
any_moment t (c ∷ cs) d e (suc n) m = any_moment t cs (called_of d c) (and_true (each_time t d (events_in c)) (each_moment t (called_of d c) cs) e).1 n m

-- a start and a wrong first byte; a log that selects table 01h and reads it, whose answers fit, and one whose answers have no room; a log
-- with a line that is no event; two hosts of which the first selects table 02h, and two that are refused; then a sample
abbrev pub calls : List Call
calls =
    Single S
    ∷ Single (B 0x00)
    ∷ Log (write_of (write 0x7F (1 ∷ []) ++ (E ∷ []) ++ read_from 0x80 ++ (R 1 ∷ []))) (replicate 96 0)
    ∷ Log (write_of (A 0 0x1900 ∷ I 18 ∷ [])) (replicate 5 0)
    ∷ Log (83 ∷ 10 ∷ []) (replicate 8 0)
    ∷ Arbitrate (0xA2 ∷ 0x7F ∷ 2 ∷ []) (0xA2 ∷ 0x80 ∷ [])
    ∷ Arbitrate (0xA2 ∷ []) (0xA2 ∷ 0x80 ∷ [])
    ∷ Single (A 0 0x1900)
    ∷ []

both_quiet : (each_moment quiet one calls && each_moment quiet two calls) ≡ true
unfolding each_moment each_time called_of events_in raws_in run_of ran_by read_of lines_of unless_empty followed more line_of judged_by write_of lines_from answer_line row_at row_text expect valued channelled scan_from number_of decimal ran_of answers_of raw_of place_of level_of class_of writable_at read_at with_bit mask_of put_of cycled_bytes image_bytes image_memory flagged_of sampled_of fast_of address_of rest_of reading_at started_of listened_of gathered_of stopped_at kind_of decode_of apply_of arbitrate_of events_of outcome_of begins winner_of hosts_after bits_of bits_from after_of
both_quiet = refl

-- at no moment does the entry of either equal a password
pub strangers : (n m : ℕ) → Stranger (moment_of one calls n m) × Stranger (moment_of two calls n m)
strangers n m =
    let q = and_true (each_moment quiet one calls) (each_moment quiet two calls) both_quiet in
    (stranger (moment_of one calls n m) (any_moment quiet calls one q.0 n m), stranger (moment_of two calls n m) (any_moment quiet calls two q.1 n m))

pub met : SecureCalls one two calls
met = calls_secrecy one two calls reached_one reached_two alike_two strangers

-- ---- the condition on the entry is needed inside a log

-- a log: password 1 of the first device entered and table 01h selected, its first byte read, and a power cycle, after which the entry equals
-- no password of either
abbrev enters : Call
enters = Log (write_of (write 0x7B (1 ∷ 2 ∷ 3 ∷ 4 ∷ 1 ∷ []) ++ (E ∷ []) ++ read_from 0x80 ++ (R 1 ∷ C ∷ []))) (replicate 128 0)

size_of : Result → ℕ
size_of (Replied y) = 0
size_of (Ran (Ok n) cycles b) = n
size_of (Ran (Err r) cycles b) = 0
size_of (Arbitrated x) = 0

-- nine answer lines of six bytes and seven of seven, where the byte is 00h; the second device gives 255, which has two digits more
record Leaked : Type 0 where
  one_size : size_of (result_of one enters) ≡ 103
  two_size : size_of (result_of two enters) ≡ 105
  one_quiet : (quiet one && quiet (called_of one enters)) ≡ true
  two_quiet : (quiet two && quiet (called_of two enters)) ≡ true

leaked : Leaked
unfolding size_of result_of called_of run_of ran_by read_of lines_of unless_empty followed more line_of judged_by write_of lines_from answer_line row_at row_text expect valued channelled scan_from number_of decimal ran_of answers_of place_of level_of class_of writable_at read_at with_bit mask_of put_of cycled_bytes image_bytes image_memory address_of rest_of reading_at started_of listened_of gathered_of stopped_at kind_of decode_of
leaked = record { one_size = refl; two_size = refl; one_quiet = refl; two_quiet = refl }

-- before and after the log, not inside it
between : (d : Device) → (quiet d && quiet (called_of d enters)) ≡ true → (n : ℕ) → Stranger (moment_of d (enters ∷ []) n 0)
unfolding after_calls first_events after_of
between d q zero = stranger d (and_true (quiet d) (quiet (called_of d enters)) q).0
between d q (suc n) = rw (moment_none (called_of d enters) n 0) (stranger (called_of d enters) (and_true (quiet d) (quiet (called_of d enters)) q).1)

-- with the condition asked between the calls alone the statement is false
pub inside_needed : ((a b : Device) (cs : List Call) → Reached a → Reached b → Alike a b
    → ((n : ℕ) → Stranger (moment_of a cs n 0) × Stranger (moment_of b cs n 0)) → SecureCalls a b cs) → ⊥
unfolding results_of
inside_needed claim =
    let f = claim one two (enters ∷ []) reached_one reached_two alike_two (λ n. (between one leaked.one_quiet n, between two leaked.two_quiet n)) in
    let same = ap (λ (l : List Result). size_of (get_or l 0 (Ran (Ok 0) 0 []))) f.results in
    omega (arith, sym leaked.one_size ∙ same ∙ leaked.two_size)
