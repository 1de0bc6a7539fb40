-- Document 02, 2.8: six times the number of write cycles is at most the events plus one, from a start or a C.
-- Assumes nothing.
use Prim.Native.Nat.{ℕ, suc, ◌+◌, ◌-◌, ◌*◌, ◌/◌, ◌%◌, ◌≤◌}
use mathlib.Core.Path.{◌≡◌, refl, sym, ap, ap₂, ◌∙◌}
use mathlib.Core.Logic.{◌≢◌}
use mathlib.Core.Bool.{Bool, true, false, cond, not, ◌&&◌, ◌||◌}
use mathlib.Core.List.{List, [], ◌∷◌, ◌++◌, map}
use native.Mathlib.Omega.{arith}
use lib.Dec.{eqb}
use lib.ListN.{length, take}
use Rattle.memory.specs.Bytes.{one_if, within, with_bit, low_at}
use Rattle.memory.specs.Access.{level_in}
use Rattle.memory.proofs.Bools.{and_true, true_false}
use Rattle.letters.specs.Letters.{Decoded, Known, OutOfRange, UnknownLetter, decode_of, raw_of}
use Rattle.letters.specs.declared.Event.{Event}
use Rattle.letters.specs.declared.Event.TheVariants.{Start, Stop, Byte, Read, WriteDone, PowerCycle, PinsSet, Sample, FastSample}
use Rattle.letters.specs.declared.Raw.{Raw}
use Rattle.device.specs.Bus.{address_in, held_of, cycle_begins, reading_at, has_high, started_of, listened_of, gathered_of, byte_in, read_in, stopped_at}
use Rattle.device.specs.Step.{step_of}
use Rattle.device.specs.Calls.{applied_to, apply_of}
use Rattle.device.specs.Run.{after_of, ran_of}
use Rattle.device.specs.Secrecy.{Secure}
use Rattle.device.specs.Busy.{ends_busy_by, none_ends_busy, BusyAfter}
use Rattle.device.specs.Measured.{Cycled, by_start, by_cycle}
use Rattle.device.specs.Wear.{cycles_begun, write_cycles, progress_in, progress_of, WearInvariant, WearBound}
use Rattle.device.specs.declared.Phase.{Phase}
use Rattle.device.specs.declared.Phase.TheVariants.{Idle, Listening, Addressed, Writing, Reading, ReadingLow}
use Rattle.device.specs.declared.Applied.{Applied}
use Rattle.device.specs.declared.Device.{Device}
use Rattle.device.proofs.Steps.{byte_kept, clock_kept}
use Rattle.device.proofs.Busy.{busy_begins, still_by, stays_busy}
use Rattle.device.proofs.Runs.{one_raw, InRange, none, more}

-- ---- one event

-- an event after which the device is busy only if it was before begins no write cycle
pub none_begun : (was is : Bool) → (is ≡ true → was ≡ true) → cycles_begun was is ≡ 0
none_begun true is h = refl
none_begun false true h = true_false (sym (h refl))
none_begun false false h = refl

-- only a stop begins one
pub only_stop : (d : Device) (e : Event) → e ≢ Stop → cycles_begun d.internal.busy (step_of d e).device.internal.busy ≡ 0
only_stop d e h = none_begun d.internal.busy (step_of d e).device.internal.busy (λ b. was_busy e h ((busy_begins d e).0 b))
  where
    was_busy : (e : Event) → e ≢ Stop → BusyAfter d e → d.internal.busy ≡ true
    was_busy Start h b = b
    was_busy Stop h b = absurd (h refl)
    was_busy (Byte v) h b = b
    was_busy (Read last) h b = b
    was_busy WriteDone h b = absurd b
    was_busy PowerCycle h b = absurd b
    was_busy (PinsSet p) h b = b
    was_busy (Sample c raw) h b = b
    was_busy (FastSample c v) h b = b

progress_within : (p : Phase) → (1 ≤ progress_in p) × (progress_in p ≤ 5)
progress_within Idle = (omega arith, omega arith)
progress_within Listening = (omega arith, omega arith)
progress_within Addressed = (omega arith, omega arith)
progress_within (Writing mask) = go (eqb mask 0)
  where
    go : (b : Bool) → (1 ≤ cond b 4 5) × (cond b 4 5 ≤ 5)
    go true = (omega arith, omega arith)
    go false = (omega arith, omega arith)
progress_within Reading = (omega arith, omega arith)
progress_within (ReadingLow low) = (omega arith, omega arith)

listened_progress : (ours even : Bool) → progress_in (cond ours (cond even Addressed Reading) Idle) ≤ 3
listened_progress true true = omega arith
listened_progress true false = omega arith
listened_progress false even = omega arith

byte_progress : (p : Phase) (d : Device) (v : ℕ) → d.internal.phase ≡ p → progress_in (byte_in p d v).device.internal.phase ≤ suc (progress_in p)
unfolding listened_of gathered_of
byte_progress Idle d v e = rw e (omega arith)
byte_progress Listening d v e = listened_progress (not d.internal.busy && eqb (v / 2 * 2) (address_in d.memory)) (eqb (v % 2) 0)
byte_progress Addressed d v e = omega arith
byte_progress (Writing mask) d v e = go (eqb mask 0) (eqb (with_bit (d.internal.pointer % 8) mask) 0)
  where
    go : (b c : Bool) → cond c 4 5 ≤ suc (cond b 4 5)
    go true true = omega arith
    go true false = omega arith
    go false true = omega arith
    go false false = omega arith
byte_progress Reading d v e = rw e (omega arith)
byte_progress (ReadingLow low) d v e = omega arith

clocked_progress : (last high : Bool) (low : ℕ) → progress_in (cond last Idle (cond high (ReadingLow low) Reading)) ≤ 2
clocked_progress true high low = omega arith
clocked_progress false true low = omega arith
clocked_progress false false low = omega arith

read_progress : (p : Phase) (l : ℕ) (d : Device) (last : Bool) → d.internal.phase ≡ p → progress_in (read_in p l d last).device.internal.phase ≤ suc (progress_in p)
unfolding reading_at
read_progress Idle l d last e = rw e (omega arith)
read_progress Listening l d last e = rw e (omega arith)
read_progress Addressed l d last e = rw e (omega arith)
read_progress (Writing mask) l d last e = rw e (omega arith)
read_progress Reading l d last e = clocked_progress last (has_high d.internal.pointer) (low_at d.memory.bytes d.internal.pointer)
read_progress (ReadingLow low) l d last e = clocked_progress last (has_high d.internal.pointer) (low_at d.memory.bytes d.internal.pointer)

-- a stop begins a write cycle only where data are held
stop_progress : (p : Phase) (was : Bool) (a : ℕ) → let is = was || cycle_begins (held_of p) a in 6 * cycles_begun was is + (1 - one_if is) ≤ suc (progress_in p - one_if was)
stop_progress p true a = omega arith
stop_progress Idle false a = omega arith
stop_progress Listening false a = omega arith
stop_progress Addressed false a = omega arith
stop_progress (Writing mask) false a = go (eqb mask 0) (within 0x60 0x7F a)
  where
    go : (none low : Bool) → let is = not none && not low in 6 * cycles_begun false is + (1 - one_if is) ≤ suc (cond none 4 5 - 0)
    go true low = omega arith
    go false true = omega arith
    go false false = omega arith
stop_progress Reading false a = omega arith
stop_progress (ReadingLow low) false a = omega arith

-- an event adds at most one to six times the number and the progress: the step law
abbrev Adds : Device → Device → Type 0
Adds d next = 6 * cycles_begun d.internal.busy next.internal.busy + progress_of next ≤ suc (progress_of d)

-- an event that leaves busy as it was
adds_by : (d next : Device) → next.internal.busy ≡ d.internal.busy → progress_in next.internal.phase ≤ suc (progress_in d.internal.phase) → Adds d next
adds_by d next e h =
    let none = none_begun d.internal.busy next.internal.busy (λ b. sym e ∙ b) in
    let same = ap one_if e in
    omega arith

-- one that ends it
adds_free : (was : Bool) (p q : ℕ) → q ≤ p → 6 * cycles_begun was false + (q - one_if false) ≤ suc (p - one_if was)
adds_free true p q h = omega arith
adds_free false p q h = omega arith

step_adds : (d : Device) (e : Event) → Adds d (step_of d e).device
unfolding started_of stopped_at
step_adds d Start = let h = (progress_within d.internal.phase).0 in adds_by d (started_of d) refl (omega arith)
step_adds d Stop = stop_progress d.internal.phase d.internal.busy d.internal.pointer
step_adds d (Byte v) = let p = d.internal.phase in adds_by d (step_of d (Byte v)).device (byte_kept p d v).busy (byte_progress p d v refl)
step_adds d (Read last) =
    let p = d.internal.phase in
    let l = level_in d.memory in
    adds_by d (step_of d (Read last)).device (clock_kept p l d last).busy (read_progress p l d last refl)
step_adds d WriteDone = let n = progress_in d.internal.phase in adds_free d.internal.busy n n (omega arith)
step_adds d PowerCycle = adds_free d.internal.busy (progress_in d.internal.phase) 1 (progress_within d.internal.phase).0
step_adds d (PinsSet p) = adds_by d (step_of d (PinsSet p)).device refl (omega arith)
step_adds d (Sample c raw) = adds_by d (step_of d (Sample c raw)).device refl (omega arith)
step_adds d (FastSample c v) = adds_by d (step_of d (FastSample c v)).device refl (omega arith)

-- a refused one leaves the device
raw_adds : (d : Device) (x : Decoded) → Adds d (applied_to d x).device
raw_adds d (Known e) = step_adds d e
raw_adds d OutOfRange = adds_by d d refl (omega arith)
raw_adds d UnknownLetter = adds_by d d refl (omega arith)

-- ---- the list

along : (rs : List Raw) (d : Device) → 6 * write_cycles d rs + progress_of (after_of d rs) ≤ length rs + progress_of d
unfolding write_cycles after_of apply_of
along [] d = omega arith
along (r ∷ rs) d =
    let next = (applied_to d (decode_of r)).device in
    let one = raw_adds d (decode_of r) in
    let rest = along rs next in
    omega arith

pub wear_invariant : WearInvariant
wear_invariant d rs = along rs d

started_progress : (d : Device) → Cycled d → progress_of d ≡ 1
started_progress d (by_start image h) = refl
started_progress d (by_cycle e h) = refl

pub wear_bound : WearBound
wear_bound d rs c =
    let h = wear_invariant d rs in
    let e = started_progress d c in
    omega arith

-- from any device
pub wear_most : (d : Device) (rs : List Raw) → 6 * write_cycles d rs ≤ length rs + 5
wear_most d rs =
    let h = wear_invariant d rs in
    let most = (progress_within d.internal.phase).1 in
    omega arith

-- ---- lists one after another, and events in range

pub cycles_append : (xs ys : List Raw) (d : Device) → write_cycles d (xs ++ ys) ≡ write_cycles d xs + write_cycles (after_of d xs) ys
unfolding write_cycles after_of
cycles_append [] ys d = omega arith
cycles_append (x ∷ xs) ys d =
    let next = (apply_of d x).device in
    let h = cycles_append xs ys next in
    omega arith

-- without W and C it is by busy before the list and after it
begun_once : (was then is : Bool) → (was ≡ true → then ≡ true) → (then ≡ true → is ≡ true) → cycles_begun was then + cycles_begun then is ≡ cycles_begun was is
begun_once true true is f g = refl
begun_once true false is f g = true_false (sym (f refl))
begun_once false true true f g = refl
begun_once false true false f g = true_false (sym (g refl))
begun_once false false is f g = omega arith

pub cycles_once : (rs : List Raw) (d : Device) → none_ends_busy rs ≡ true → write_cycles d rs ≡ cycles_begun d.internal.busy (after_of d rs).internal.busy
unfolding write_cycles after_of apply_of none_ends_busy
cycles_once [] d h = sym (none_begun d.internal.busy d.internal.busy (λ b. b))
cycles_once (r ∷ rs) d h =
    let x = decode_of r in
    let next = (applied_to d x).device in
    let c = and_true (not (ends_busy_by x)) (none_ends_busy rs) h in
    ap (λ (n : ℕ). cycles_begun d.internal.busy next.internal.busy + n) (cycles_once rs next c.1)
    ∙ begun_once d.internal.busy next.internal.busy (after_of next rs).internal.busy (still_by d x c.0) (stays_busy rs next c.1)

-- the same number over events in range
unfoldable pub cycles_in : Device → List Event → ℕ
cycles_in d [] = 0
cycles_in d (e ∷ es) = cycles_begun d.internal.busy (step_of d e).device.internal.busy + cycles_in (step_of d e).device es

pub cycles_in_append : (xs ys : List Event) (d : Device) → cycles_in d (xs ++ ys) ≡ cycles_in d xs + cycles_in (ran_of d xs) ys
unfolding cycles_in ran_of
cycles_in_append [] ys d = omega arith
cycles_in_append (x ∷ xs) ys d =
    let next = (step_of d x).device in
    let h = cycles_in_append xs ys next in
    omega arith

pub cycles_raw : {es : List Event} (d : Device) → InRange es → write_cycles d (map raw_of es) ≡ cycles_in d es
unfolding write_cycles cycles_in
cycles_raw d none = refl
cycles_raw d (more e es q h) =
    ap (λ (x : Applied). cycles_begun d.internal.busy x.device.internal.busy + write_cycles x.device (map raw_of es)) (one_raw d e q)
    ∙ ap (λ (n : ℕ). cycles_begun d.internal.busy (step_of d e).device.internal.busy + n) (cycles_raw (step_of d e).device h)

-- ---- two devices

-- the number goes by the busy marks alone, so two devices that are alike at each moment have the same
cycles_agree : (rs : List Raw) (a b : Device) → ((n : ℕ) → (after_of a (take n rs)).internal.busy ≡ (after_of b (take n rs)).internal.busy)
    → write_cycles a rs ≡ write_cycles b rs
unfolding write_cycles after_of
cycles_agree [] a b h = refl
cycles_agree (r ∷ rs) a b h = ap₂ (λ x y. x + y) (ap₂ cycles_begun (h 0) (h 1)) (cycles_agree rs (apply_of a r).device (apply_of b r).device (λ n. h (suc n)))

pub cycles_alike : (a b : Device) (rs : List Raw) → Secure a b rs → write_cycles a rs ≡ write_cycles b rs
cycles_alike a b rs s = cycles_agree rs a b (λ n. ap (λ (d : Device). d.internal.busy) (s.alike n).equal)
