-- Document 01, "The bus": when the device is busy, and what it does then. The statements.
use Rattle.std.specs.Prelude.{ℕ, ◌<◌, ◌≤◌, ◌≡◌, ◌≢◌, ◌⊎◌, ◌↔◌, Bool, true, false, not, ◌&&◌, List, [], ◌∷◌, Ok}
use Rattle.letters.specs.Letters.{Decoded, Known, OutOfRange, UnknownLetter, decode_of}
use Rattle.letters.specs.declared.Event.{Event}
use Rattle.letters.specs.declared.Event.TheVariants.{Start, Stop, Byte, Read, WriteDone, PowerCycle, PinsSet, Sample, FastSample}
use Rattle.letters.specs.declared.Raw.{Raw}
use Rattle.device.specs.Bus.{held_of}
use Rattle.device.specs.Step.{step_of}
use Rattle.device.specs.Calls.{start_of}
use Rattle.device.specs.Run.{after_of}
use Rattle.device.specs.Secrecy.{Reached}
use Rattle.device.specs.declared.Device.{Device}
use Rattle.device.specs.declared.Answer.TheVariants.{NotAcknowledged}

-- "the write cycle is over; busy ends"; C: "not busy"
abbrev pub ends_busy : Event → Bool
ends_busy Start = false
ends_busy Stop = false
ends_busy (Byte v) = false
ends_busy (Read last) = false
ends_busy WriteDone = true
ends_busy PowerCycle = true
ends_busy (PinsSet p) = false
ends_busy (Sample c raw) = false
ends_busy (FastSample c v) = false

-- a raw event; one that is refused does not
abbrev pub ends_busy_by : Decoded → Bool
ends_busy_by (Known e) = ends_busy e
ends_busy_by OutOfRange = false
ends_busy_by UnknownLetter = false

unfoldable pub none_ends_busy : List Raw → Bool
none_ends_busy [] = true
none_ends_busy (r ∷ rs) = not (ends_busy_by (decode_of r)) && none_ends_busy rs

-- when the device is busy after an event, in the state that it meets: after a stop exactly if it was, or one or more bytes were held and the
-- block isn't in 60h to 7Fh; W and C end it; any other event leaves it
abbrev pub BusyAfter : Device → Event → Type 0
BusyAfter d Start = d.internal.busy ≡ true
BusyAfter d Stop =
    let p = d.internal.pointer in
    (d.internal.busy ≡ true) ⊎ ((held_of d.internal.phase ≢ 0) × ((p < 0x60) ⊎ (0x80 ≤ p)))
BusyAfter d (Byte v) = d.internal.busy ≡ true
BusyAfter d (Read last) = d.internal.busy ≡ true
BusyAfter d WriteDone = ⊥
BusyAfter d PowerCycle = ⊥
BusyAfter d (PinsSet p) = d.internal.busy ≡ true
BusyAfter d (Sample c raw) = d.internal.busy ≡ true
BusyAfter d (FastSample c v) = d.internal.busy ≡ true

abbrev pub BusyBegins : Type 0
BusyBegins = (d : Device) (e : Event) → ((step_of d e).device.internal.busy ≡ true) ↔ BusyAfter d e

-- a device that has just started is not busy
abbrev pub FreeAtStart : Type 0
FreeAtStart = (image : List ℕ) (d : Device) → start_of image ≡ Ok d → d.internal.busy ≡ false

-- a busy device stays busy, and acknowledges no byte, until W or C: after every list of events, refused ones among them, without those two
pub record Silent (d : Device) : Type 0 where
  pub busy : d.internal.busy ≡ true
  pub answer : (v : ℕ) → (step_of d (Byte v)).answer ≡ NotAcknowledged

abbrev pub BusySilent : Type 0
BusySilent = (d : Device) (rs : List Raw) → Reached d → d.internal.busy ≡ true → none_ends_busy rs ≡ true → Silent (after_of d rs)
