-- Demand 1 at C's numbers, from demand 1 for what the calls return in Rattle.
-- Assumes nothing.
use Prim.Native.Nat.{ℕ, ◌+◌, ◌*◌, ◌/◌, ◌%◌, ◌^◌, ◌<◌, ◌≤◌}
use mathlib.Core.Path.{◌≡◌, refl, sym, ap}
use mathlib.Core.Logic.{⊎_elim, inl, inr, ◌≢◌}
use mathlib.Core.Bool.{cond}
use mathlib.Core.Option.{Option, none, some}
use mathlib.Core.List.{List}
use native.Mathlib.Omega.{arith}
use lib.Dec.{eqb}
use lib.ListN.{length}
use borrow.Author.Tests.{ne_eqb}
use Rattle.std.specs.Prelude.{Result, Ok, Err, IsOk}
use Rattle.memory.specs.Refusals.{number_of, refused, Refuses, Returns}
use Rattle.memory.specs.declared.Refused.{Refused}
use Rattle.memory.proofs.Bools.{true_false}
use Rattle.memory.specs.declared.Refusal.{Refusal}
use Rattle.memory.specs.declared.Refusal.TheVariants.{LogTooLong, BrokenLine, OutsideRange, NoRoom, ImageSize, AselByte, MemorySize, Checksum, Coefficient, MessageLength, FirstByteOdd, MessagePrefix}
use Rattle.memory.proofs.Returns.{returns_by}
use Rattle.letters.specs.declared.Raw.{Raw}
use Rattle.device.specs.Calls.{Reply, start_of, apply_of, StartRefused, image_size, asel_byte, EventRefused, outside_range}
use Rattle.device.proofs.SingleEvent.{start_returns, event_returns}
use Rattle.event_log.specs.Run.{Outcome, run_of, buffer_of}
use Rattle.event_log.specs.Write.{written_of}
use Rattle.event_log.specs.Refused.{WriteRefused, event_outside, text_too_long, no_text_room}
use Rattle.event_log.proofs.Refused.{run_returns, write_returns}
use Rattle.event_log.proofs.LineCount.{refused_line}
use Rattle.arbitration.specs.Arbitration.{Arbitration, arbitrate_of, ArbitrateRefused, message_length, first_byte_odd, message_prefix}
use Rattle.arbitration.proofs.Returned.{arbitrate_returns}
use Rattle.calibration.specs.Calibration.{calibrated_of, CalibrateRefused, memory_size, checksum, coefficient}
use Rattle.calibration.specs.declared.Raws.{Raws}
use Rattle.calibration.specs.declared.Values.{Values}
use Rattle.calibration.proofs.Checked.{calibrate_returns}
use Rattle.host.specs.State.{Lent, device_of}
use Rattle.host.specs.Numbers.{start_number, reply_number, arbitration_number, outcome_number}
use Rattle.host.specs.Calls.{start_call, apply_call, run_call, cycles_call, arbitrate_call}
use Rattle.host.specs.Values.{Five, five_after, calibrated_number}
use Rattle.host.specs.Returned.{says_number, says_line, HostStartReturns, HostEventReturns, HostRunReturns, HostWriteReturns, HostCalibrateReturns, HostArbitrateReturns}
use Rattle.host.proofs.Told.{refusal_low, answer_high, winner_within, rest_in, refusal_back, rest_back}
use Rattle.host.proofs.Fits.{run_fits, write_fits}

-- ---- the refusal of a number

refusal_at : ℕ → Option Refusal
refusal_at n =
    cond (eqb n 11) (some LogTooLong)
    (cond (eqb n 12) (some BrokenLine)
    (cond (eqb n 13) (some OutsideRange)
    (cond (eqb n 14) (some NoRoom)
    (cond (eqb n 15) (some ImageSize)
    (cond (eqb n 16) (some AselByte)
    (cond (eqb n 17) (some MemorySize)
    (cond (eqb n 18) (some Checksum)
    (cond (eqb n 19) (some Coefficient)
    (cond (eqb n 20) (some MessageLength)
    (cond (eqb n 21) (some FirstByteOdd)
    (cond (eqb n 22) (some MessagePrefix) none)))))))))))

refusal_at_lem : (why : Refusal) → refusal_at (number_of why) ≡ some why
unfolding refusal_at
refusal_at_lem LogTooLong = refl
refusal_at_lem BrokenLine = refl
refusal_at_lem OutsideRange = refl
refusal_at_lem NoRoom = refl
refusal_at_lem ImageSize = refl
refusal_at_lem AselByte = refl
refusal_at_lem MemorySize = refl
refusal_at_lem Checksum = refl
refusal_at_lem Coefficient = refl
refusal_at_lem MessageLength = refl
refusal_at_lem FirstByteOdd = refl
refusal_at_lem MessagePrefix = refl

refusal_none : (n : ℕ) → ((why : Refusal) → n ≢ number_of why) → refusal_at n ≡ none
unfolding refusal_at
refusal_none n h =
    rw (
      ne_eqb n 11 (h LogTooLong),
      ne_eqb n 12 (h BrokenLine),
      ne_eqb n 13 (h OutsideRange),
      ne_eqb n 14 (h NoRoom),
      ne_eqb n 15 (h ImageSize),
      ne_eqb n 16 (h AselByte),
      ne_eqb n 17 (h MemorySize),
      ne_eqb n 18 (h Checksum),
      ne_eqb n 19 (h Coefficient),
      ne_eqb n 20 (h MessageLength),
      ne_eqb n 21 (h FirstByteOdd),
      ne_eqb n 22 (h MessagePrefix),
    )

-- with a line
at_line : ℕ → Option Refusal → Option Refused
at_line line none = none
at_line line (some why) = some (refused why line)

-- ---- from what a call returns to its number

module _ {R : Type 0} {answers : R → Type 0} {says_in : Refusal → ℕ → R} {when : Refusal → ℕ → Type 0} {left : Type 0} {result : R}
    (F : Returns answers (λ why line x. x ≡ says_in why line) when left result) (code : R → ℕ) where
  number_returns : {answers' : ℕ → Type 0} {says : Refusal → ℕ → ℕ → Type 0} {left' : Type 0} (told : ℕ → Option Refused)
      → (answers result → answers' (code result)) → (answers' (code result) → told (code result) ≡ none)
      → ((why : Refusal) (line : ℕ) → when why line → says why line (code (says_in why line)))
      → ((why : Refusal) (line : ℕ) → says why line (code result) → told (code result) ≡ some (refused why line))
      → (Refuses when → left') → Returns answers' says when left' (code result)
  number_returns told a n w s k =
      returns_by told n s (⊎_elim (λ x. inl (a x)) (λ x. inr x) F.either) (λ why line x. rw ((F.exactly why line).1 x) (w why line x)) k

-- ---- the calls whose refusals have line 0

number_told : ℕ → Option Refused
number_told n = at_line 0 (refusal_at n)

number_tells : (n : ℕ) (why : Refusal) (line : ℕ) → says_number why line n → number_told n ≡ some (refused why line)
unfolding number_told at_line
number_tells n why line s = rw (s.0, refusal_at_lem why, s.1)

number_none : (n : ℕ) → ((why : Refusal) → n ≢ number_of why) → number_told n ≡ none
unfolding number_told at_line
number_none n h = rw (refusal_none n h)

zero_none : (n : ℕ) → n ≡ 0 → number_told n ≡ none
zero_none n h = number_none n (λ why e. omega (arith, (refusal_low why).0))

start_zero : (image : List ℕ) (why : Refusal) (line : ℕ) → StartRefused image why line → line ≡ 0
start_zero image why line (image_size h) = refl
start_zero image why line (asel_byte h g) = refl

pub host_start_returns : HostStartReturns
unfolding start_call
host_start_returns l image =
    let F = start_returns image in
    number_returns F start_number number_told (λ a. ap start_number a) (zero_none (start_number (start_of image)))
    (λ why line x. (refl, start_zero image why line x)) (number_tells (start_number (start_of image)))
    (λ r. rw ((F.exactly r.why r.line).1 r.circumstance))

event_zero : (e : Raw) (why : Refusal) (line : ℕ) → EventRefused e why line → line ≡ 0
event_zero e why line (outside_range h) = refl

answer_number_lem : (y : Reply) → IsOk y → 256 ≤ reply_number y
answer_number_lem (Ok a) h = answer_high a
answer_number_lem (Err e) h = true_false (sym h)

pub host_event_returns : HostEventReturns
unfolding apply_call
host_event_returns l e =
    let F = event_returns (device_of l) e in
    let y = (apply_of (device_of l) e).reply in
    number_returns F reply_number number_told (answer_number_lem y)
    (λ h. number_none (reply_number y) (λ why q. omega (arith, (refusal_low why).1)))
    (λ why line x. (refl, event_zero e why line x)) (number_tells (reply_number y))
    (λ r. rw ((F.exactly r.why r.line).1 r.circumstance))

calibrate_zero : (l : List ℕ) (why : Refusal) (line : ℕ) → CalibrateRefused l why line → line ≡ 0
calibrate_zero l why line (memory_size h) = refl
calibrate_zero l why line (checksum h g) = refl
calibrate_zero l why line (coefficient h g f) = refl

given_number : (x : Result Values Refused) → IsOk x → calibrated_number x ≡ 0
given_number (Ok v) h = refl
given_number (Err e) h = true_false (sym h)

pub host_calibrate_returns : HostCalibrateReturns
host_calibrate_returns held l raws =
    let F = calibrate_returns l raws in
    let x = calibrated_of l raws in
    number_returns F calibrated_number number_told (given_number x) (zero_none (calibrated_number x))
    (λ why line w. (refl, calibrate_zero l why line w)) (number_tells (calibrated_number x))
    (λ r. rw ((F.exactly r.why r.line).1 r.circumstance))

arbitrate_zero : (m n : List ℕ) (why : Refusal) (line : ℕ) → ArbitrateRefused m n why line → line ≡ 0
arbitrate_zero m n why line (message_length h) = refl
arbitrate_zero m n why line (first_byte_odd s h) = refl
arbitrate_zero m n why line (message_prefix s e b) = refl

won_number : (x : Arbitration) → IsOk x → (1 ≤ arbitration_number x) × (arbitration_number x ≤ 3)
won_number (Ok w) h = winner_within w
won_number (Err e) h = true_false (sym h)

pub host_arbitrate_returns : HostArbitrateReturns
unfolding arbitrate_call
host_arbitrate_returns l m n =
    let F = arbitrate_returns (device_of l) m n in
    let x = (arbitrate_of (device_of l) m n).outcome in
    number_returns F arbitration_number number_told (won_number x)
    (λ h. number_none (arbitration_number x) (λ why q. omega (arith, (refusal_low why).0)))
    (λ why line w. (refl, arbitrate_zero m n why line w)) (number_tells (arbitration_number x))
    (λ r. rw ((F.exactly r.why r.line).1 r.circumstance))

-- ---- the run and the writer

line_told : ℕ → Option Refused
line_told n = at_line (n % 2 ^ 32) (refusal_at (n / 2 ^ 32))

line_tells : (n : ℕ) (why : Refusal) (line : ℕ) → says_line why line n → line_told n ≡ some (refused why line)
unfolding line_told at_line
line_tells n why line s = rw (s.0, refusal_at_lem why, s.1)

line_none : (n : ℕ) → n < 2 ^ 32 → line_told n ≡ none
unfolding line_told at_line refusal_at
line_none n h = let e : n / 2 ^ 32 ≡ 0 = omega (arith, h) in rw e

done_number : (o : Outcome) → rest_in o < 2 ^ 32 → IsOk o → outcome_number o < 2 ^ 32
done_number (Ok size) h d = h
done_number (Err e) h d = true_false (sym d)

line_says : (why : Refusal) (line : ℕ) → line < 2 ^ 32 → says_line why line (number_of why * 2 ^ 32 + line)
line_says why line h = (refusal_back (Err (refused why line)) h, rest_back (Err (refused why line)) h)

pub host_run_returns : HostRunReturns
unfolding run_call cycles_call
host_run_returns l log b =
    let d = device_of l in
    let F = run_returns d log b in
    let o = (run_of d log (length b)).outcome in
    number_returns F outcome_number line_told (done_number o (run_fits d log (length b))) (line_none (outcome_number o))
    (λ why line x. line_says why line (omega (arith, (refused_line d log (length b) why line x).1))) (line_tells (outcome_number o))
    (λ r. let e = (F.exactly r.why r.line).1 r.circumstance in (rw e, ((F.keeps r).1.1, rw e)))

write_zero : (rs : List Raw) (room : ℕ) (why : Refusal) (line : ℕ) → WriteRefused rs room why line → line < 2 ^ 32
write_zero rs room why line (event_outside h) = omega arith
write_zero rs room why line (text_too_long h g) = omega arith
write_zero rs room why line (no_text_room h g f) = omega arith

pub host_write_returns : HostWriteReturns
host_write_returns rs b =
    let F = write_returns rs b in
    let o = written_of rs (length b) in
    number_returns F outcome_number line_told (done_number o (write_fits rs (length b))) (line_none (outcome_number o))
    (λ why line x. line_says why line (write_zero rs (length b) why line x)) (line_tells (outcome_number o)) F.keeps

-- ---- by the number alone: what a refused call leaves

left_by : {answers : ℕ → Type 0} {says : Refusal → ℕ → ℕ → Type 0} {when : Refusal → ℕ → Type 0} {left : Type 0} {n : ℕ}
    → Returns answers says when left n → (answers n → ⊥) → left
left_by F h = ⊎_elim (λ a. absurd (h a)) F.keeps F.either

pub left_start : (s : Lent) (image : List ℕ) → (start_call s image).number ≢ 0 → (start_call s image).left ≡ s
left_start s image h = left_by (host_start_returns s image) h

pub left_apply : (s : Lent) (r : Raw) → (apply_call s r).number < 256 → (apply_call s r).left ≡ s
left_apply s r h = left_by (host_event_returns s r) (λ a. omega (arith, h))

pub left_run : (s : Lent) (log b : List ℕ) → 2 ^ 32 ≤ (run_call s log (length b)).number → (run_call s log (length b)).left ≡ s
left_run s log b h = (left_by (host_run_returns s log b) (λ a. omega (arith, h))).0

pub left_answers : (s : Lent) (log b : List ℕ) → 2 ^ 32 ≤ (run_call s log (length b)).number → buffer_of (device_of s) log b ≡ b
left_answers s log b h = (left_by (host_run_returns s log b) (λ a. omega (arith, h))).1.0

pub left_cycles : (s : Lent) (log b : List ℕ) → 2 ^ 32 ≤ (run_call s log (length b)).number → cycles_call s log (length b) ≡ none
left_cycles s log b h = (left_by (host_run_returns s log b) (λ a. omega (arith, h))).1.1

pub left_calibrate : (held : Five) (l : List ℕ) (raws : Raws) → calibrated_number (calibrated_of l raws) ≢ 0 → five_after held (calibrated_of l raws) ≡ held
left_calibrate held l raws h = left_by (host_calibrate_returns held l raws) h

pub left_arbitrate : (s : Lent) (m n : List ℕ) → 3 < (arbitrate_call s m n).number → (arbitrate_call s m n).left ≡ s
left_arbitrate s m n h = left_by (host_arbitrate_returns s m n) (λ a. omega (arith, h))
