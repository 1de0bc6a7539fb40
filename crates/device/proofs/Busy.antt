-- Document 01: when the device is busy, and that it acknowledges nothing then.
-- Assumes nothing.
use Prim.Native.Nat.{ℕ, ◌<◌, ◌≤◌}
use mathlib.Core.Path.{◌≡◌, refl, sym, ap, ◌∙◌}
use mathlib.Core.Logic.Iff
use mathlib.Core.Logic.{◌≢◌, ◌⊎◌, inl, inr, ◌↔◌, ⊎_elim}
use mathlib.Core.Bool.{Bool, true, false, not, ◌&&◌, ◌||◌}
use mathlib.Core.List.{List, [], ◌∷◌, ◌++◌}
use native.Mathlib.Omega.{arith}
use lib.Dec.{leb, eqb}
use borrow.Author.Tests.{ne_eqb, eqb-false, lt-leb, leb-false}
use Rattle.memory.specs.Bytes.{within, with_bit, mask_of}
use Rattle.memory.specs.Access.{place_of, level_of, level_in, class_of, writable_at}
use Rattle.memory.specs.Page.{put_of}
use Rattle.memory.specs.Power.{cycled_bytes}
use Rattle.memory.specs.Image.{image_bytes, image_memory}
use Rattle.memory.proofs.Bools.{and_true, true_false, above_range}
use Rattle.letters.specs.Letters.{kind_of, Decoded, Known, OutOfRange, UnknownLetter, decode_of}
use Rattle.letters.specs.declared.Event.{Event}
use Rattle.letters.specs.declared.Event.TheVariants.{Start, Stop, Byte, Read, WriteDone, PowerCycle, PinsSet, Sample, FastSample}
use Rattle.letters.specs.declared.Raw.{Raw}
use Rattle.device.specs.State.{no_page, on_bus, with_busy}
use Rattle.device.specs.Bus.{address_of, held_of, rest_of, cycle_begins, started_of, listened_of, gathered_of, byte_in, stopped_at}
use Rattle.device.specs.Step.{step_of}
use Rattle.device.specs.Calls.{started_by, applied_to, apply_of}
use Rattle.device.specs.Run.{after_of}
use Rattle.device.specs.Secrecy.{Reached}
use Rattle.device.specs.Busy.{ends_busy, ends_busy_by, none_ends_busy, BusyBegins, FreeAtStart, Silent, BusySilent}
use Rattle.device.specs.declared.Phase.{Phase}
use Rattle.device.specs.declared.Phase.TheVariants.{Idle, Listening, Addressed, Writing, Reading, ReadingLow}
use Rattle.device.specs.declared.Answer.TheVariants.{Acknowledged, NotAcknowledged}
use Rattle.device.specs.declared.Device.{Device}
use Rattle.device.proofs.SingleEvent.{started_is}
use Rattle.device.proofs.Steps.{byte_kept, clock_kept}
use Rattle.device.proofs.Runs.{reached_after}
use Rattle.device.proofs.Sound.{Sound, not_busy, reached_sound}
use Rattle.device.proofs.Traffic.{E, write}
use Rattle.device.proofs.Witness.{one, reached_one}

-- ---- which events begin it, leave it and end it

-- whether a block lies outside 60h to 7Fh
outside : (p : ℕ) → (not (within 0x60 0x7F p) ≡ true) ↔ ((p < 0x60) ⊎ (0x80 ≤ p))
outside p = (there (leb 0x60 p) (leb p 0x7F) refl refl, ⊎_elim (λ h. rw (lt-leb 0x60 p h)) (λ h. rw (above_range 0x60 0x7F p (omega arith))))
  where
    there : (a b : Bool) → leb 0x60 p ≡ a → leb p 0x7F ≡ b → not (a && b) ≡ true → (p < 0x60) ⊎ (0x80 ≤ p)
    there true true e f h = true_false (sym h)
    there true false e f h = let g = leb-false p 0x7F f in inr (omega arith)
    there false b e f h = inl (leb-false 0x60 p e)

-- whether any byte is held
held : (mask : ℕ) → (not (eqb mask 0) ≡ true) ↔ (mask ≢ 0)
held mask = (there (eqb mask 0) refl, λ h. rw (ne_eqb mask 0 h))
  where
    there : (b : Bool) → eqb mask 0 ≡ b → not b ≡ true → mask ≢ 0
    there true e h = true_false (sym h)
    there false e h = eqb-false mask 0 e

stop_busy : (was : Bool) (mask p : ℕ) → ((was || cycle_begins mask p) ≡ true) ↔ ((was ≡ true) ⊎ ((mask ≢ 0) × ((p < 0x60) ⊎ (0x80 ≤ p))))
stop_busy true mask p = (λ h. inl refl, λ h. refl)
stop_busy false mask p =
    let o = outside p in
    let k = held mask in (
      λ h. let c = and_true (not (eqb mask 0)) (not (within 0x60 0x7F p)) h in inr (k.0 c.0, o.0 c.1),
      ⊎_elim (λ h. true_false (sym h)) (λ c. rw (k.1 c.0, o.1 c.1)),
    )

stays : (was is : Bool) → is ≡ was → (is ≡ true) ↔ (was ≡ true)
stays was is e = (λ h. sym e ∙ h, λ h. e ∙ h)

pub busy_begins : BusyBegins
unfolding started_of stopped_at
busy_begins d Start = Iff.rfl
busy_begins d Stop = stop_busy d.internal.busy (held_of d.internal.phase) d.internal.pointer
busy_begins d (Byte v) = stays d.internal.busy _ (byte_kept d.internal.phase d v).busy
busy_begins d (Read last) = stays d.internal.busy _ (clock_kept d.internal.phase (level_in d.memory) d last).busy
busy_begins d WriteDone = (λ h. true_false (sym h), λ h. absurd h)
busy_begins d PowerCycle = (λ h. true_false (sym h), λ h. absurd h)
busy_begins d (PinsSet p) = Iff.rfl
busy_begins d (Sample c raw) = Iff.rfl
busy_begins d (FastSample c v) = Iff.rfl

pub free_at_start : FreeAtStart
free_at_start image d e = ap (λ (x : Device). x.internal.busy) (started_is image d e)

-- ---- while it lasts

still : (d : Device) (e : Event) → ends_busy e ≡ false → d.internal.busy ≡ true → (step_of d e).device.internal.busy ≡ true
still d Start h b = (busy_begins d Start).1 b
still d Stop h b = (busy_begins d Stop).1 (inl b)
still d (Byte v) h b = (busy_begins d (Byte v)).1 b
still d (Read last) h b = (busy_begins d (Read last)).1 b
still d WriteDone h b = true_false h
still d PowerCycle h b = true_false h
still d (PinsSet p) h b = (busy_begins d (PinsSet p)).1 b
still d (Sample c raw) h b = (busy_begins d (Sample c raw)).1 b
still d (FastSample c v) h b = (busy_begins d (FastSample c v)).1 b

pub still_by : (d : Device) (x : Decoded) → not (ends_busy_by x) ≡ true → d.internal.busy ≡ true → (applied_to d x).device.internal.busy ≡ true
still_by d (Known e) h b = still d e (not_true (ends_busy e) h) b
  where
    not_true : (t : Bool) → not t ≡ true → t ≡ false
    not_true true h = sym h
    not_true false h = refl
still_by d OutOfRange h b = b
still_by d UnknownLetter h b = b

pub stays_busy : (rs : List Raw) (d : Device) → none_ends_busy rs ≡ true → d.internal.busy ≡ true → (after_of d rs).internal.busy ≡ true
unfolding after_of apply_of none_ends_busy
stays_busy [] d h b = b
stays_busy (r ∷ rs) d h b =
    let x = decode_of r in
    let c = and_true (not (ends_busy_by x)) (none_ends_busy rs) h in
    stays_busy rs (applied_to d x).device c.1 (still_by d x c.0 b)

-- a busy device is idle or listening, and then a byte is not acknowledged
unheard : (p : Phase) (d : Device) (v : ℕ) → d.internal.phase ≡ p → Sound d → d.internal.busy ≡ true → (byte_in p d v).answer ≡ NotAcknowledged
unfolding listened_of
unheard Idle d v e s b = refl
unheard Listening d v e s b = rw b
unheard Addressed d v e s b = not_busy Addressed d e refl s b
unheard (Writing mask) d v e s b = not_busy (Writing mask) d e refl s b
unheard Reading d v e s b = refl
unheard (ReadingLow low) d v e s b = refl

pub busy_silent : BusySilent
busy_silent d rs r b h =
    let after = after_of d rs in
    let busy = stays_busy rs d h b in
    let s = reached_sound after (reached_after rs d r) in
    record { busy = busy; answer = λ v. unheard after.internal.phase after v refl s busy }

-- ---- its hypotheses

-- a stop after a byte to 00h, which a stranger may not write, leads to such a device
abbrev busy_one : Device
busy_one = after_of one (write 0x00 (1 ∷ []) ++ (E ∷ []))

pub met_busy : Reached busy_one × (busy_one.internal.busy ≡ true)
unfolding after_of apply_of place_of level_of class_of writable_at with_bit mask_of put_of cycled_bytes image_bytes image_memory address_of rest_of started_of listened_of gathered_of stopped_at kind_of decode_of
met_busy = (reached_after (write 0x00 (1 ∷ []) ++ (E ∷ [])) one reached_one, refl)

-- a made-up device that is busy and addressed acknowledges a byte: that it is a reached one is needed
pub silent_needs_reached : ((d : Device) → d.internal.busy ≡ true → Silent d) → ⊥
silent_needs_reached claim =
    let d = with_busy (on_bus (started_by []) Addressed 0x00 no_page) true in
    let e : Acknowledged ≡ NotAcknowledged = (claim d refl).answer 0x00 in
    let z : ◌≡◌ {A = ℕ} 0 1 = cc in
    omega arith
