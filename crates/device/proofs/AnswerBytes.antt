-- A device that is started from an image of bytes holds bytes, and the value of each of its answers is a byte.
-- Assumes nothing.
use Prim.Native.Nat.{ℕ, zero, suc, ◌+◌, ◌*◌, ◌/◌, ◌%◌, ◌<◌, ◌≤◌}
use mathlib.Core.Path.{◌≡◌, refl}
use mathlib.Core.Bool.{Bool, true, false, cond, not, ◌&&◌}
use mathlib.Core.Option.{get_or}
use mathlib.Core.List.{List, ◌∷◌, map}
use native.Mathlib.Omega.{arith}
use lib.ListN as ListN
use lib.Dec.{eqb}
use Rattle.memory.specs.Bytes.{AllBytes}
use Rattle.memory.specs.Access.{select_of, control_of, level_in}
use Rattle.memory.proofs.AllBytes.{replicate_bytes, set_bytes, page_bytes, cycled_bytes_lem, loaded_bytes, read_byte}
use Rattle.readings.proofs.AllBytes.{sampled_bytes, taken_most, fast_bytes}
use Rattle.letters.specs.Letters.{pin_byte}
use Rattle.letters.specs.declared.Pins.{Pins}
use Rattle.letters.specs.declared.Event.{Event}
use Rattle.letters.specs.declared.Event.TheVariants.{Start, Stop, Byte, Read, WriteDone, PowerCycle, PinsSet, Sample, FastSample}
use Rattle.letters.proofs.Named.{Fits, known_fits}
use Rattle.device.specs.State.{no_page}
use Rattle.device.specs.Answers.{value_of}
use Rattle.device.specs.Bus.{address_in, held_of, low_of, reading_at, started_of, listened_of, gathered_of, byte_in, read_in, stopped_at}
use Rattle.device.specs.Step.{step_at, step_of}
use Rattle.device.specs.Calls.{started_by, Accepted}
use Rattle.device.specs.Run.{answers_of}
use Rattle.device.specs.declared.Answer.TheVariants.{Acknowledged, NotAcknowledged}
use Rattle.device.specs.declared.Phase.{Phase}
use Rattle.device.specs.declared.Phase.TheVariants.{Idle, Listening, Addressed, Writing, Reading, ReadingLow}
use Rattle.device.specs.declared.Device.{Device}
use Rattle.device.proofs.Low.{by_high}
use Rattle.device.proofs.Runs.{InRange}
use Rattle.device.proofs.Runs as R
use Rattle.device.proofs.Steps.{heard_phase}
use Rattle.device.proofs.SingleEvent.{accepted_loads}

-- the low byte that a phase holds, or 0
abbrev pub low_in : Phase → ℕ
low_in p = get_or (low_of p) 0

pub record HoldsBytes (d : Device) : Type 0 where
  pub memory : AllBytes d.memory.bytes
  pub page : AllBytes d.internal.page
  pub low : low_in d.internal.phase < 256

no_page_lem : AllBytes no_page
no_page_lem = replicate_bytes 8 0 (omega arith)

byte_bytes : (p : Phase) (d : Device) (x : ℕ) → x < 256 → HoldsBytes d → HoldsBytes (byte_in p d x).device
unfolding listened_of gathered_of
byte_bytes Idle d x h b = b
byte_bytes Listening d x h b = record { memory = b.memory; page = b.page; low = rw (heard_phase low_in 0 refl refl refl _ _) (omega arith) }
byte_bytes Addressed d x h b = record { memory = b.memory; page = b.page; low = omega arith }
byte_bytes (Writing mask) d x h b =
    record { memory = b.memory; page = set_bytes d.internal.page (d.internal.pointer % 8) x b.page h; low = omega arith }
byte_bytes Reading d x h b = b
byte_bytes (ReadingLow low) d x h b = record { memory = b.memory; page = b.page; low = omega arith }

-- the phase after an R in reading
next_low : (last : Bool) (bytes : List ℕ) (p : ℕ) → AllBytes bytes → low_in (cond last Idle (reading_at bytes p)) < 256
next_low true bytes p h = omega arith
next_low false bytes p h = by_high (λ (q : Phase). low_in q < 256) bytes p (omega arith) (λ g. h (p + 1))

clock_bytes : (p : Phase) (l : ℕ) (d : Device) (last : Bool) → HoldsBytes d → HoldsBytes (read_in p l d last).device
clock_bytes Idle l d last b = b
clock_bytes Listening l d last b = b
clock_bytes Addressed l d last b = b
clock_bytes (Writing mask) l d last b = b
clock_bytes Reading l d last b = record { memory = b.memory; page = b.page; low = next_low last d.memory.bytes d.internal.pointer b.memory }
clock_bytes (ReadingLow low) l d last b =
    record { memory = b.memory; page = b.page; low = next_low last d.memory.bytes d.internal.pointer b.memory }

pins_byte : (p : Pins) → pin_byte p < 256
pins_byte p = go p.d p.rs p.f p.l
  where
    most : (b : Bool) (n : ℕ) → cond b n 0 ≤ n
    most true n = omega arith
    most false n = omega arith

    go : (d rs f l : Bool) → cond d 128 0 + cond rs 16 0 + cond f 4 0 + cond l 2 0 < 256
    go d rs f l = omega (arith, most d 128, most rs 16, most f 4, most l 2)

-- other bytes of the memory
with_bytes_lem : (d : Device) (n : Device) → AllBytes n.memory.bytes → n.internal.page ≡ d.internal.page → n.internal.phase ≡ d.internal.phase → HoldsBytes d → HoldsBytes n
with_bytes_lem d n h p q b = record { memory = h; page = rw p b.page; low = rw q b.low }

step_bytes : (l : ℕ) (d : Device) (e : Event) → Fits e → HoldsBytes d → HoldsBytes (step_at l d e).device
unfolding started_of stopped_at
step_bytes l d Start h b = record { memory = b.memory; page = no_page_lem; low = omega arith }
step_bytes l d Stop h b =
    let m = d.memory.bytes in
    let i = d.internal in
    record { memory = page_bytes l (control_of m) (select_of m) i.pointer (held_of i.phase) i.page m b.page b.memory; page = no_page_lem; low = omega arith }
step_bytes l d (Byte x) h b = byte_bytes d.internal.phase d x (omega arith) b
step_bytes l d (Read last) h b = clock_bytes d.internal.phase l d last b
step_bytes l d WriteDone h b = with_bytes_lem d _ b.memory refl refl b
step_bytes l d PowerCycle h b = record { memory = cycled_bytes_lem d.memory.bytes b.memory; page = no_page_lem; low = omega arith }
step_bytes l d (PinsSet p) h b = with_bytes_lem d _ (set_bytes d.memory.bytes 0x6E (pin_byte p) b.memory (pins_byte p)) refl refl b
step_bytes l d (Sample c raw) h b = with_bytes_lem d _ (sampled_bytes d.memory.bytes c raw h b.memory) refl refl b
step_bytes l d (FastSample c v) h b = with_bytes_lem d _ (fast_bytes d.memory.bytes c v b.memory) refl refl b

pub start_bytes : (image : List ℕ) → Accepted image → AllBytes image → HoldsBytes (started_by image)
start_bytes image e h = record { memory = loaded_bytes image _ (accepted_loads image e) h; page = no_page_lem; low = omega arith }

-- ---- an answer

heard_value : (ours : Bool) → value_of (cond ours Acknowledged NotAcknowledged) ≡ 0
heard_value true = refl
heard_value false = refl

byte_value : (p : Phase) (d : Device) (x : ℕ) → value_of (byte_in p d x).answer ≡ 0
unfolding listened_of
byte_value Idle d x = refl
byte_value Listening d x = heard_value (not d.internal.busy && eqb (x / 2 * 2) (address_in d.memory))
byte_value Addressed d x = refl
byte_value (Writing mask) d x = refl
byte_value Reading d x = refl
byte_value (ReadingLow low) d x = refl

clock_value : (p : Phase) (l : ℕ) (d : Device) (last : Bool) → low_in p < 256 → HoldsBytes d → value_of (read_in p l d last).answer < 256
clock_value Idle l d last h b = omega arith
clock_value Listening l d last h b = omega arith
clock_value Addressed l d last h b = omega arith
clock_value (Writing mask) l d last h b = omega arith
clock_value Reading l d last h b = read_byte l d.memory.bytes d.internal.pointer b.memory
clock_value (ReadingLow low) l d last h b = h

step_value : (l : ℕ) (d : Device) (e : Event) → HoldsBytes d → value_of (step_at l d e).answer < 256
step_value l d Start b = omega arith
step_value l d Stop b = omega arith
step_value l d (Byte x) b = omega (arith, byte_value d.internal.phase d x)
step_value l d (Read last) b = clock_value d.internal.phase l d last b.low b
step_value l d WriteDone b = omega arith
step_value l d PowerCycle b = omega arith
step_value l d (PinsSet p) b = omega arith
step_value l d (Sample c raw) b = omega (arith, taken_most d.memory.bytes c raw)
step_value l d (FastSample c v) b = omega arith

pub answer_bytes : {es : List Event} (d : Device) → HoldsBytes d → InRange es → AllBytes (map value_of (answers_of d es))
unfolding answers_of
answer_bytes d b R.none = replicate_bytes 0 0 (omega arith)
answer_bytes d b (R.more e es q h) =
    let l = level_in d.memory in
    let rest = answer_bytes (step_of d e).device (step_bytes l d e (known_fits e q) b) h in
    λ i. elim i as (λ k. ListN.get_or (map value_of (answers_of d (e ∷ es))) k 0 < 256) [ zero ↦ step_value l d e b | suc i ↦ rest i ]
