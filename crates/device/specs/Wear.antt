-- Document 02, 2.8: wear of the EEPROM. The number of write cycles, and its bound.
use Rattle.std.specs.Prelude.{ℕ, zero, suc, ◌+◌, ◌-◌, ◌*◌, ◌≤◌, ◌≡◌, Bool, cond, not, ◌&&◌, List, [], ◌∷◌, ◌++◌, map, eqb, length}
use Rattle.memory.specs.Bytes.{one_if, AllBytes}
use Rattle.letters.specs.Letters.{raw_of}
use Rattle.letters.specs.declared.Event.{Event}
use Rattle.letters.specs.declared.Event.TheVariants.{Stop}
use Rattle.letters.specs.declared.Raw.{Raw}
use Rattle.device.specs.Bus.{address_in}
use Rattle.device.specs.Calls.{started_by, Accepted, apply_of}
use Rattle.device.specs.Run.{after_of}
use Rattle.device.specs.Transfers.{data_write, page_write}
use Rattle.device.specs.Measured.{Cycled}
use Rattle.device.specs.declared.Phase.{Phase}
use Rattle.device.specs.declared.Phase.TheVariants.{Idle, Listening, Addressed, Writing, Reading, ReadingLow}
use Rattle.device.specs.declared.Device.{Device}

-- one for an event that found the device not busy and left it busy
abbrev pub cycles_begun : (was is : Bool) → ℕ
cycles_begun was is = one_if (not was && is)

-- "the number of times the device became busy", over single events, refused ones among them
unfoldable pub write_cycles : Device → List Raw → ℕ
write_cycles d [] = 0
write_cycles d (r ∷ rs) =
    let next = (apply_of d r).device in
    cycles_begun d.internal.busy next.internal.busy + write_cycles next rs

-- ---- the bound

-- how many events a device is at least past its last write cycle, by its phase: 4 while writing without data, 5 with data; and one less while
-- it is busy
abbrev pub progress_in : Phase → ℕ
progress_in Idle = 1
progress_in Listening = 2
progress_in Addressed = 3
progress_in (Writing mask) = cond (eqb mask 0) 4 5
progress_in Reading = 1
progress_in (ReadingLow low) = 1

abbrev pub progress_of : Device → ℕ
progress_of d = progress_in d.internal.phase - one_if d.internal.busy

-- the invariant, from any device: an event adds at most one to the left, and one to the right
abbrev pub WearInvariant : Type 0
WearInvariant = (d : Device) (rs : List Raw) → 6 * write_cycles d rs + progress_of (after_of d rs) ≤ length rs + progress_of d

-- "From a device just started, six times that number is at most the events run plus one, for every list of events"; and from one that a C has
-- just left
abbrev pub WearBound : Type 0
WearBound = (d : Device) (rs : List Raw) → Cycled d → 6 * write_cycles d rs ≤ length rs + 1

-- ---- the bound is met

-- n pages of one byte each, at 00h, with the W after each; then one more, without W
unfoldable pub short_pages : (address n : ℕ) → List Event
short_pages address zero = data_write address 0x00 (0 ∷ []) ++ (Stop ∷ [])
short_pages address (suc n) = page_write address 0x00 (0 ∷ []) ++ short_pages address n

-- from a device just started, for every image of bytes that is accepted and for every n: 6 n + 5 events with n + 1 write cycles
abbrev pub WearMet : Type 0
WearMet =
    (image : List ℕ) (n : ℕ) → Accepted image → AllBytes image
    → let d = started_by image in
    let rs = map raw_of (short_pages (address_in d.memory) n) in
    (length rs ≡ 6 * n + 5) × (write_cycles d rs ≡ n + 1)
