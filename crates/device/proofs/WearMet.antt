-- Document 02, 2.8: the bound on the write cycles is met, by pages of one byte; and that the device has just started is needed.
-- Assumes nothing.
use Prim.Native.Nat.{ℕ, zero, suc, ◌+◌, ◌*◌, ◌/◌, ◌≤◌}
use mathlib.Core.Path.{◌≡◌, refl, sym, ap, ◌∙◌}
use mathlib.Core.Bool.{Bool, true, false, cond}
use mathlib.Core.List.{List, [], ◌∷◌, ◌++◌, map}
use native.Mathlib.Omega.{arith}
use lib.ListN.{length, length-map}
use Rattle.memory.specs.Bytes.{AllBytes, with_bit, mask_of}
use Rattle.memory.specs.Access.{address_byte, select_of, control_of, place_of, level_of, level_in, class_of, writable_at}
use Rattle.memory.specs.Page.{put_of}
use Rattle.memory.specs.Power.{cycled_bytes}
use Rattle.memory.specs.Image.{image_bytes, image_memory}
use Rattle.memory.specs.declared.Memory.{Memory}
use Rattle.memory.proofs.Bools.{true_false}
use Rattle.memory.proofs.Places.{lower_place}
use Rattle.memory.proofs.Stored.{page_other}
use Rattle.letters.specs.Letters.{kind_of, decode_of, raw_of}
use Rattle.letters.specs.declared.Event.{Event}
use Rattle.letters.specs.declared.Event.TheVariants.{Start, Stop, Byte, WriteDone}
use Rattle.letters.specs.declared.Raw.{Raw}
use Rattle.letters.proofs.Named.{row_known}
use Rattle.device.specs.State.{no_page, on_bus}
use Rattle.device.specs.Bus.{address_of, address_in, rest_of, started_of, listened_of, gathered_of, stopped_at}
use Rattle.device.specs.Step.{step_of}
use Rattle.device.specs.Calls.{started_by, apply_of}
use Rattle.device.specs.Run.{after_of, ran_of}
use Rattle.device.specs.Transfers.{data_write}
use Rattle.device.specs.Secrecy.{Reached}
use Rattle.device.specs.Wear.{write_cycles, short_pages, WearMet}
use Rattle.device.specs.declared.Phase.TheVariants.{Writing}
use Rattle.device.specs.declared.Device.{Device}
use Rattle.device.proofs.Runs.{reached_after, InRange, none, more}
use Rattle.device.proofs.AnswerBytes.{start_bytes}
use Rattle.device.proofs.Busy.{busy_begins, free_at_start}
use Rattle.device.proofs.Back.{mask_after, page_after, addressed, written, written_memory, written_busy}
use Rattle.device.proofs.Wear.{none_begun, cycles_in, cycles_in_append, cycles_raw}
use Rattle.device.proofs.Traffic.{E, write}
use Rattle.device.proofs.Witness.{one, reached_one}

-- ---- one page

-- a start and bytes begin no write cycle
bytes_none : (vs : List ℕ) (d : Device) → cycles_in d (map Byte vs) ≡ 0
unfolding cycles_in
bytes_none [] d = refl
bytes_none (v ∷ vs) d =
    let next = (step_of d (Byte v)).device in
    let none = none_begun d.internal.busy next.internal.busy (busy_begins d (Byte v)).0 in
    let rest = bytes_none vs next in
    omega arith

data_none : (vs : List ℕ) (d : Device) → cycles_in d (Start ∷ map Byte vs) ≡ 0
unfolding cycles_in started_of
data_none vs d =
    let none = none_begun d.internal.busy (started_of d).internal.busy (busy_begins d Start).0 in
    let rest = bytes_none vs (started_of d) in
    omega arith

-- a byte is held then, and the stop begins one
abbrev held : Device → Device
held d = (step_of (on_bus d (Writing 0) 0x00 no_page) (Byte 0)).device

held_is : (d : Device) → d.internal.busy ≡ false → ran_of d (data_write (address_in d.memory) 0x00 (0 ∷ [])) ≡ held d
unfolding ran_of
held_is d b = ap (λ (x : Device). (step_of x (Byte 0)).device) (addressed d 0x00 b)

stop_one : (d : Device) (rest : List Event) → d.internal.busy ≡ false → cycles_in (held d) (Stop ∷ rest) ≡ 1 + cycles_in (step_of (held d) Stop).device rest
unfolding cycles_in gathered_of stopped_at with_bit
stop_one d rest b = rw b

-- one page, and the events behind its stop
page_one : (d : Device) (rest : List Event) → d.internal.busy ≡ false
    → cycles_in d (data_write (address_in d.memory) 0x00 (0 ∷ []) ++ (Stop ∷ rest)) ≡ 1 + cycles_in (step_of (held d) Stop).device rest
page_one d rest b =
    let xs = data_write (address_in d.memory) 0x00 (0 ∷ []) in
    let none = data_none (address_in d.memory ∷ 0x00 ∷ 0 ∷ []) d in
    let all = cycles_in_append xs (Stop ∷ rest) d in
    let stop : cycles_in (ran_of d xs) (Stop ∷ rest) ≡ 1 + cycles_in (step_of (held d) Stop).device rest = rw (held_is d b) (stop_one d rest b) in
    omega arith

-- it leaves the device address: D0h of table 03h stands elsewhere
page_address : (d : Device) → d.internal.busy ≡ false → address_in (written d 0x00 (0 ∷ [])).memory ≡ address_in d.memory
unfolding address_of
page_address d b =
    let c = d.memory.bytes in
    let l = level_in d.memory in
    let s = select_of c in
    let other = page_other l (control_of c) s 0x00 (mask_after 0x00 0 (0 ∷ [])) (page_after 0x00 no_page (0 ∷ [])) c 0x1D0
    (λ k h e q. let low = lower_place s (0x00 / 8 * 8 + k) (omega arith) in omega arith) in
    rw (written_memory d 0x00 (0 ∷ []) b, other)

page_written : (d : Device) → d.internal.busy ≡ false → (step_of (step_of (held d) Stop).device WriteDone).device ≡ written d 0x00 (0 ∷ [])
unfolding ran_of
page_written d b = ap (λ (x : Device). (step_of (step_of x Stop).device WriteDone).device) (sym (held_is d b))

-- ---- n of them, and one more

pages_cycles : (n : ℕ) (d : Device) → d.internal.busy ≡ false → cycles_in d (short_pages (address_in d.memory) n) ≡ n + 1
unfolding short_pages cycles_in
pages_cycles zero d b = page_one d [] b
pages_cycles (suc n) d b =
    let next = written d 0x00 (0 ∷ []) in
    let stopped = (step_of (held d) Stop).device in
    let first = page_one d (WriteDone ∷ short_pages (address_in d.memory) n) b in
    let free = none_begun stopped.internal.busy false (λ b. true_false (sym b)) in
    let same : (step_of stopped WriteDone).device ≡ next = page_written d b in
    let rest : cycles_in next (short_pages (address_in d.memory) n) ≡ n + 1 =
    rw (page_address d b) at (pages_cycles n next (written_busy d 0x00 (0 ∷ []) b)) in
    let after : cycles_in (step_of stopped WriteDone).device (short_pages (address_in d.memory) n) ≡ n + 1 = rw same rest in
    omega arith

pages_known : (a n : ℕ) → a ≤ 255 → InRange (short_pages a n)
unfolding short_pages
pages_known a n h = by n
  where
    known : (es : List Event) → InRange es → InRange (data_write a 0x00 (0 ∷ []) ++ (Stop ∷ es))
    known es k =
        more Start _ (row_known Start tt)
        (more (Byte a) _ (row_known (Byte a) h)
        (more (Byte 0x00) _ (row_known (Byte 0x00) (omega arith))
        (more (Byte 0) _ (row_known (Byte 0) (omega arith))
        (more Stop es (row_known Stop tt) k))))

    by : (n : ℕ) → InRange (short_pages a n)
    by zero = known [] none
    by (suc n) = known (WriteDone ∷ short_pages a n) (more WriteDone (short_pages a n) (row_known WriteDone tt) (by n))

pages_length : (a n : ℕ) → length (short_pages a n) ≡ 6 * n + 5
unfolding short_pages
pages_length a zero = refl
pages_length a (suc n) = let h = pages_length a n in omega arith

address_byte_lem : (m : Memory) → AllBytes m.bytes → address_in m ≤ 255
unfolding address_of
address_byte_lem m h = go m.asel
  where
    go : (b : Bool) → cond b (address_byte m.bytes / 2 * 2) 0xA0 ≤ 255
    go true = omega (arith, h 0x1D0)
    go false = omega arith

pub wear_met : WearMet
wear_met image n v h =
    let d = started_by image in
    let a = address_in d.memory in
    (length-map (short_pages a n) raw_of ∙ pages_length a n, cycles_raw d (pages_known a n (address_byte_lem d.memory (start_bytes image v h).memory)) ∙ pages_cycles n d (free_at_start image d v))

-- ---- the condition

-- a device that holds a byte of data is busy after one event, and may be a reached one: that the device has just started is needed
abbrev held_one : Device
held_one = after_of one (write 0x00 (1 ∷ []))

held_cycles : write_cycles held_one (E ∷ []) ≡ 1
unfolding write_cycles after_of apply_of place_of level_of class_of writable_at with_bit mask_of put_of cycled_bytes image_bytes image_memory address_of rest_of started_of listened_of gathered_of stopped_at kind_of decode_of
held_cycles = refl

pub start_needed : ((d : Device) (rs : List Raw) → Reached d → 6 * write_cycles d rs ≤ length rs + 1) → ⊥
start_needed claim =
    let h = claim held_one (E ∷ []) (reached_after (write 0x00 (1 ∷ [])) one reached_one) in
    let one = held_cycles in
    omega arith
