-- Document 02, 2.2: both kinds of event that measure the supply can clear bit 4 of 70h, and a V sample can leave it up; before each of
-- them stands a list of events that do not measure.
-- Assumes nothing.
use Prim.Native.Nat.{ℕ}
use mathlib.Core.Path.{◌≡◌, refl}
use mathlib.Core.Bool.{Bool, true, false}
use mathlib.Core.List.{List, [], ◌∷◌, ◌++◌}
use lib.ListN.{length}
use lib.Seq.{sets}
use Rattle.memory.specs.Bytes.{with_bit, mask_of}
use Rattle.memory.specs.Access.{place_of, level_of, class_of, writable_at}
use Rattle.memory.specs.Page.{put_of}
use Rattle.memory.specs.Power.{cycled_bytes}
use Rattle.memory.specs.Image.{image_bytes, image_memory, load_of}
use Rattle.readings.specs.Readings.{flagged_of, sampled_of, fast_of}
use Rattle.readings.specs.Measured.{supply_alarm}
use Rattle.letters.specs.Letters.{kind_of, decode_of}
use Rattle.letters.specs.declared.Raw.{Raw}
use Rattle.device.specs.Bus.{address_of, rest_of, started_of, listened_of, gathered_of, stopped_at}
use Rattle.device.specs.Calls.{started_by, start_of, apply_of}
use Rattle.device.specs.Run.{after_of}
use Rattle.device.specs.Measured.{measures, before_measured, Cycled, by_start}
use Rattle.device.specs.declared.Device.{Device}
use Rattle.device.proofs.Traffic.{event, E, C, I, A, F, write, write_control, master_image, in_table3}

-- level 2 after the start. V has the scale 4800h of example 1, so that it reads as it is; its high alarm is FFFFh, its low alarm 7000h, 28,672
abbrev image : List ℕ
image = sets (sets (master_image 0xA2) (in_table3 0xC8) (0x48 ∷ 0x00 ∷ [])) (in_table3 0x88) (0xFF ∷ 0xFF ∷ 0x70 ∷ 0x00 ∷ [])

abbrev pub device : Device
device = started_by image

pub device_cycled : Cycled device
unfolding load_of start_of
device_cycled = by_start image refl

-- events that do not measure: samples of the other channels, fast samples, pins, what is refused; a stop that holds 70h while E8h bit 5
-- is clear; V samples with E8h bit 2 clear, and with bit 5 set (bit 1 too, for 72h and 73h); a stop that stores 71h to 77h; C
abbrev pub unmeasured : List Raw
unmeasured =
    (A 0 0x1900 ∷ A 2 500 ∷ A 3 500 ∷ A 4 500 ∷ F 2 200 ∷ F 3 200 ∷ F 4 200 ∷ I 18 ∷ I 1 ∷ A 5 0 ∷ event 88 0 0 ∷ [])
    ++ write 0x70 (0 ∷ []) ++ (E ∷ [])
    ++ write_control 0x20 ++ (A 1 40000 ∷ [])
    ++ write_control 0x26 ++ (A 1 40000 ∷ [])
    ++ write 0x71 (0 ∷ 0 ∷ 0 ∷ 0 ∷ 0 ∷ 0 ∷ 0 ∷ []) ++ (E ∷ C ∷ [])

-- after rs, none of which measures, so that the alarm is up after each (`up_until_measured`), r does, and the alarm is then up or not
pub record Measuring (rs : List Raw) (r : Raw) (up : Bool) : Type 0 where
  pub first : before_measured device (rs ++ (r ∷ [])) ≡ length rs
  pub alarm : supply_alarm (after_of device (rs ++ (r ∷ []))).memory.bytes ≡ up

computed : Measuring unmeasured (A 1 40000) false × (Measuring unmeasured (A 1 20000) true × Measuring (write_control 0x24 ++ write 0x70 (0 ∷ [])) E false)
unfolding measures before_measured flagged_of sampled_of fast_of place_of level_of class_of writable_at with_bit mask_of put_of cycled_bytes image_bytes image_memory address_of rest_of started_of listened_of gathered_of stopped_at kind_of decode_of apply_of after_of
computed = (record { first = refl; alarm = refl }, (record { first = refl; alarm = refl }, record { first = refl; alarm = refl }))

-- 40,000 is not below the low alarm
pub sample_clears : Measuring unmeasured (A 1 40000) false
sample_clears = computed.0

-- 20,000 is: the supply was measured, and is low
pub sample_keeps : Measuring unmeasured (A 1 20000) true
sample_keeps = computed.1.0

-- level 2 with E8h bit 5 stores 00h at 70h
pub stop_clears : Measuring (write_control 0x24 ++ write 0x70 (0 ∷ [])) E false
stop_clears = computed.1.1
