-- Document 02, 2.1: what `flags_up` tells of a device that was started from an image is the number of 1 bits of 70h to 77h.
-- Assumes nothing.
use Rattle.std.specs.Prelude.{Err}
use Prim.Native.Nat.{ℕ, ◌≤◌}
use mathlib.Core.Path.{◌≡◌, refl, ap}
use mathlib.Core.List.{List, [], ◌∷◌, ◌++◌, map}
use native.Mathlib.Omega.{arith}
use lib.ListN.{take}
use Rattle.memory.specs.Refusals.{refused}
use Rattle.memory.specs.Bytes.{with_bit, mask_of}
use Rattle.memory.specs.Access.{place_of, level_of, class_of, writable_at}
use Rattle.memory.specs.Page.{put_of}
use Rattle.memory.specs.Power.{cycled_bytes}
use Rattle.memory.specs.Image.{image_bytes, image_memory, load_of}
use Rattle.memory.specs.declared.Refusal.{Refusal}
use Rattle.readings.specs.Readings.{flagged_of, sampled_of, fast_of}
use Rattle.readings.specs.Raised.{ones_of, raised_from, raised_in, raised_after}
use Rattle.readings.proofs.Raised.{raised_le}
use Rattle.letters.specs.Letters.{kind_of, decode_of}
use Rattle.letters.specs.declared.Raw.{Raw}
use Rattle.device.specs.Bus.{address_of, rest_of, started_of, listened_of, gathered_of, stopped_at}
use Rattle.device.specs.Calls.{started_by, Accepted, start_of, apply_of}
use Rattle.device.specs.Run.{after_of}
use Rattle.device.specs.Told.{flags_up}
use Rattle.device.specs.Secrecy.{Alike, Stranger, Reached, fresh}
use Rattle.device.specs.declared.Device.{Device}
use Rattle.device.proofs.SingleEvent.{refused_left}
use Rattle.device.proofs.Runs.{reached_after}
use Rattle.device.proofs.Secrecy.{secrecy}
use Rattle.device.proofs.Sound.{reached_sound}
use Rattle.device.proofs.Traffic.{E, C, A, F, write, write_control, master_image, start_from}

-- of every reached device
pub flags_true : (d : Device) → Reached d → flags_up d ≡ raised_in d.memory.bytes
flags_true d h = (reached_sound d h).raised

-- so from any image that is accepted, after every list of raw events, refused ones among them
pub flags_after : (image : List ℕ) (rs : List Raw) → Accepted image
    → let d = after_of (started_by image) rs in flags_up d ≡ raised_in d.memory.bytes
flags_after image rs e = flags_true _ (reached_after rs (started_by image) (fresh image e))

pub flags_most : (d : Device) → Reached d → flags_up d ≤ 64
flags_most d h = omega (arith, flags_true d h, raised_le d.memory.bytes)

-- a refused event leaves it, of any device
pub flags_refused : (d : Device) (r : Raw) (why : Refusal) (line : ℕ) → (apply_of d r).reply ≡ Err (refused why line)
    → flags_up (apply_of d r).device ≡ flags_up d
flags_refused d r why line e = ap flags_up (refused_left d r why line e)

-- it is open: devices that are alike tell the same, and so do two devices as in demand 3, at the beginning and after each event
pub flags_alike : (a b : Device) → Alike a b → flags_up a ≡ flags_up b
flags_alike a b q = ap flags_up q.equal

pub flags_secret : (a b : Device) (rs : List Raw) → Reached a → Reached b → Alike a b
    → ((n : ℕ) → Stranger (after_of a (take n rs)) × Stranger (after_of b (take n rs)))
    → (n : ℕ) → flags_up (after_of a (take n rs)) ≡ flags_up (after_of b (take n rs))
flags_secret a b rs ra rb q s n = flags_alike _ _ ((secrecy a b rs ra rb q s).alike n)

-- ---- worked: the number goes up and down

-- level 2 after the start, all limits and trips 0
abbrev device : Device
device = start_from (master_image 0xA2)

-- E8h bit 5 set beside bit 2, and eight 1 bits written to 76h and 77h
abbrev page : List Raw
page = write_control 0x24 ++ write 0x76 (0x81 ∷ 0x3F ∷ []) ++ (E ∷ [])

-- V's low alarm alone; beside it T above and below its limits, and at them; B's fast flag raised and cleared; the page beside T's
-- flags; then C
abbrev told : List (List Raw)
told =
    []
    ∷ (A 0 0x1900 ∷ [])
    ∷ (A 0 0x8000 ∷ [])
    ∷ (A 0 0x1900 ∷ A 0 0 ∷ [])
    ∷ (A 0 0x1900 ∷ F 2 1 ∷ [])
    ∷ (A 0 0x1900 ∷ F 2 1 ∷ F 2 0 ∷ [])
    ∷ (A 0 0x1900 ∷ page)
    ∷ (A 0 0x1900 ∷ page ++ (C ∷ []))
    ∷ []

pub flags_worked : map (λ (rs : List Raw). flags_up (after_of device rs)) told ≡ 1 ∷ 3 ∷ 3 ∷ 1 ∷ 4 ∷ 3 ∷ 11 ∷ 1 ∷ []
unfolding ones_of raised_from raised_after flagged_of sampled_of fast_of place_of level_of class_of writable_at with_bit mask_of put_of cycled_bytes image_bytes image_memory load_of address_of rest_of started_of listened_of gathered_of stopped_at kind_of decode_of start_of apply_of after_of
flags_worked = refl
