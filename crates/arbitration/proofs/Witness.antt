-- The hypotheses of demand 3 for a settled transfer are met, by two devices that differ in every closed byte and by a transfer that enters the
-- password of one of them; and the condition on the entry is needed.
-- Assumes nothing.
use Rattle.std.proofs.Common.{Ok}
use mathlib.Core.Path.{◌≡◌, refl, sym, ap, ◌∙◌}
use mathlib.Core.List.{List, [], ◌∷◌}
use Prim.Native.Nat.{ℕ}
use native.Mathlib.Omega.{arith}
use lib.ListN.{get_or}
use Rattle.memory.specs.Bytes.{with_bit, mask_of}
use Rattle.memory.specs.Access.{place_of, level_of, level_in, class_of, writable_at}
use Rattle.memory.specs.Page.{put_of}
use Rattle.memory.specs.Power.{cycled_bytes}
use Rattle.memory.specs.Image.{image_bytes, image_memory, load_of}
use Rattle.memory.specs.Closed.{Stored, is_ram, without}
use Rattle.letters.specs.Letters.{kind_of, decode_of, raw_of}
use Rattle.device.specs.Bus.{address_of, rest_of, started_of, listened_of, gathered_of, stopped_at}
use Rattle.device.specs.Calls.{started_by, start_of, apply_of}
use Rattle.device.specs.Run.{after_of}
use Rattle.device.specs.Secrecy.{Alike, stored_of, Reached, fresh}
use Rattle.device.specs.declared.Device.{Device}
use Rattle.device.proofs.Traffic.{master_image}
use Rattle.device.proofs.Witness.{stranger, one, two, reached_one, reached_two, alike_two}
use Rattle.arbitration.specs.Line.{bits_from, bits_of, hosts_after, winner_of}
use Rattle.arbitration.specs.Arbitration.{begins, outcome_of, events_of, arbitrate_of}
use Rattle.arbitration.specs.Noninterference.{IndistinguishableTransfer}
use Rattle.arbitration.specs.declared.Winner.TheVariants.{First}
use Rattle.arbitration.proofs.Noninterference.{transfer_noninterference}

-- ---- they are met

-- the first host enters password 1 of the first device at 7Bh; the second would select table 01h at 7Fh
abbrev entering : List ℕ
entering = 0xA2 ∷ 0x7B ∷ 1 ∷ 2 ∷ 3 ∷ 4 ∷ []

abbrev selecting : List ℕ
selecting = 0xA2 ∷ 0x7F ∷ 1 ∷ []

pub hypotheses_hold : IndistinguishableTransfer one two entering selecting
unfolding level_of cycled_bytes image_bytes image_memory
hypotheses_hold = transfer_noninterference one two entering selecting reached_one reached_two alike_two (stranger one refl) (stranger two refl)

-- the first survives, and its bytes reach the device: then one device is at level 1 and the other at level 0
pub record Entered : Type 0 where
  pub outcome : outcome_of entering selecting ≡ Ok First
  pub level_one : level_in (arbitrate_of one entering selecting).device.memory ≡ 1
  pub level_two : level_in (arbitrate_of two entering selecting).device.memory ≡ 0

pub entered : Entered
unfolding arbitrate_of events_of outcome_of begins winner_of hosts_after bits_of bits_from after_of apply_of place_of level_of class_of writable_at with_bit mask_of put_of cycled_bytes image_bytes image_memory address_of rest_of started_of listened_of gathered_of stopped_at kind_of decode_of raw_of
entered = record { outcome = refl; level_one = refl; level_two = refl }

-- ---- the condition on the entry is needed

-- a device at level 2 after its start, and two hosts that write 55h to 00h
abbrev master : Device
master = started_by (master_image 0xA2)

reached_master : Reached master
unfolding start_of load_of
reached_master = fresh (master_image 0xA2) refl

abbrev writing : List ℕ
writing = 0xA2 ∷ 0x00 ∷ 0x55 ∷ []

byte0 : Stored → ℕ
byte0 s = get_or s.bytes 0 0

changed : (byte0 (stored_of (arbitrate_of master writing writing).device) ≡ 0x55) × (byte0 (stored_of master) ≡ 0x00)
unfolding byte0 without is_ram arbitrate_of events_of outcome_of begins winner_of hosts_after bits_of bits_from after_of apply_of place_of level_of class_of writable_at with_bit mask_of put_of cycled_bytes image_bytes image_memory address_of rest_of started_of listened_of gathered_of stopped_at kind_of decode_of raw_of
changed = (refl, refl)

pub entry_needed : ((a b : Device) (m n : List ℕ) → Reached a → Reached b → Alike a b → IndistinguishableTransfer a b m n) → ⊥
entry_needed claim =
    let kept = (claim master master writing writing reached_master reached_master (record { equal = refl })).kept_a in
    omega (arith, sym changed.0 ∙ ap byte0 kept ∙ changed.1)
