-- Document 01: the pointer that a page of any length and a read of any length leave.
-- Assumes nothing.
use Prim.Native.Nat.{ℕ, zero, suc, ◌+◌, ◌*◌, ◌/◌, ◌%◌, ◌^◌, ◌<◌}
use mathlib.Core.Path.{◌≡◌, refl, sym, ap, ◌∙◌}
use mathlib.Core.Bool.{Bool, true, false, cond, or-true}
use mathlib.Core.List.{List, [], ◌∷◌, map}
use native.Mathlib.Nat.{pos_of_ne-zero, zero-div}
use native.Mathlib.Omega.{arith}
use lib.Dec.{eqb}
use lib.ListN.{length}
use borrow.Author.Tests.{eq-eqb, ne_eqb, eqb-true, eqb-false}
use Rattle.memory.specs.Bytes.{bit_of, with_bit}
use Rattle.memory.proofs.Bools.{true_false}
use Rattle.memory.proofs.Masks.{with_bit_lem}
use Rattle.letters.specs.declared.Event.TheVariants.{Start, Stop, Byte, Read}
use Rattle.device.specs.State.{no_page, on_bus}
use Rattle.device.specs.Bus.{address_in, is_reading, after_page, rest_of, started_of, stopped_at}
use Rattle.device.specs.Step.{step_of}
use Rattle.device.specs.Run.{ran_of}
use Rattle.device.specs.Transfers.{data_write, PointerLeft, PointerAfter, PointerAfterReads, ReadElsewhere}
use Rattle.device.specs.declared.Phase.{Phase}
use Rattle.device.specs.declared.Phase.TheVariants.{Writing}
use Rattle.device.specs.declared.Device.{Device}
use Rattle.device.proofs.Low.{by_high}
use Rattle.device.proofs.Runs.{ran_append}
use Rattle.device.proofs.Back.{next, mask_after, pointer_after, page_after, gathered, addressed, mask_keeps}

-- ---- a page

-- a page that is gathered is held, so its mask is not 0
mask_held : (vs : List ℕ) (p v : ℕ) → mask_after p 0 (v ∷ vs) ≡ 0 → ⊥
unfolding mask_after
mask_held vs p v e =
    let j = p % 8 in
    let set : bit_of j (with_bit j 0) ≡ true = with_bit_lem j j 0 (omega arith) (omega arith) ∙ rw (eq-eqb j j refl) (or-true (bit_of j 0)) in
    let bit = mask_keeps vs (next p) (with_bit j 0) j (omega arith) set in
    let none : bit_of j 0 ≡ false = rw (zero-div (2 ^ j)) in
    true_false (sym bit ∙ ap (bit_of j) e ∙ none)

-- the pointer while it is gathered: where the next byte would go
pointer_next : (vs : List ℕ) (p : ℕ) → pointer_after p vs ≡ p / 8 * 8 + (p + length vs) % 8
unfolding pointer_after
pointer_next [] p = omega arith
pointer_next (v ∷ vs) p = pointer_next vs (next p) ∙ omega arith

-- in block a, after a byte at place m of it
after_page_lem : (a m : ℕ) → a < 32 → after_page (a * 8 + suc m % 8) ≡ (a * 8 + m % 8 + 1) % 256
after_page_lem a m h = go (eqb ((a * 8 + suc m % 8) % 8) 0) refl
  where
    go : (b : Bool) → eqb ((a * 8 + suc m % 8) % 8) 0 ≡ b → cond b ((a * 8 + suc m % 8 + 8) % 256) (a * 8 + suc m % 8) ≡ (a * 8 + m % 8 + 1) % 256
    go true e =
        let z : (a * 8 + suc m % 8) % 8 ≡ 0 = eqb-true _ _ e in
        let first : suc m % 8 ≡ 0 = omega arith in
        let same : a * 8 + suc m % 8 + 8 ≡ a * 8 + m % 8 + 1 = omega arith in
        ap (λ (x : ℕ). x % 256) same
    go false e =
        let z : 0 < (a * 8 + suc m % 8) % 8 = pos_of_ne-zero (eqb-false _ _ e) in
        let more : 0 < suc m % 8 = omega arith in
        omega arith

written : (d : Device) (p : ℕ) (vs : List ℕ) → d.internal.busy ≡ false
    → ran_of d (data_write (address_in d.memory) p vs) ≡ on_bus d (Writing (mask_after p 0 vs)) (pointer_after p vs) (page_after p no_page vs)
written d p vs b =
    ran_append (Start ∷ Byte (address_in d.memory) ∷ Byte p ∷ []) (map Byte vs) d ∙ rw (addressed d p b) (gathered vs d 0 p no_page)

left_by : (d : Device) (mask p : ℕ) (page : List ℕ) (q : ℕ) → rest_of (Writing mask) p ≡ q
    → ((step_of (on_bus d (Writing mask) p page) Start).device.internal.pointer ≡ q) × ((step_of (on_bus d (Writing mask) p page) Stop).device.internal.pointer ≡ q)
unfolding started_of stopped_at
left_by d mask p page q e = (e, e)

left : (d : Device) (p : ℕ) (vs : List ℕ) (q : ℕ) → d.internal.busy ≡ false → rest_of (Writing (mask_after p 0 vs)) (pointer_after p vs) ≡ q → PointerLeft d p vs q
left d p vs q b e =
    let w = written d p vs b in
    let l = left_by d (mask_after p 0 vs) (pointer_after p vs) (page_after p no_page vs) q e in
    record { by_start = rw w l.0; by_stop = rw w l.1 }

pub pointer_after_lem : PointerAfter
unfolding rest_of mask_after pointer_after
pointer_after_lem d p v vs b h =
    let e : p + suc (length vs) ≡ suc (p + length vs) = omega arith in (
      left d p (v ∷ vs) _ b (rw (ne_eqb (mask_after p 0 (v ∷ vs)) 0 (mask_held vs p v), pointer_next (v ∷ vs) p, e) (after_page_lem (p / 8) (p + length vs) (omega arith))),
      left d p [] p b refl,
    )

-- ---- a read

read_pointer : (d : Device) (last : Bool) → is_reading d.internal.phase ≡ true → (step_of d (Read last)).device.internal.pointer ≡ (d.internal.pointer + 1) % 256
read_pointer d last h = rw h

pub read_elsewhere : ReadElsewhere
read_elsewhere d last h = rw h

-- an R that is acknowledged leaves reading
read_reading : (d : Device) → is_reading d.internal.phase ≡ true → is_reading (step_of d (Read false)).device.internal.phase ≡ true
read_reading d h = rw h (by_high (λ (p : Phase). is_reading p ≡ true) d.memory.bytes d.internal.pointer refl (λ g. refl))

pub pointer_after_reads : PointerAfterReads
unfolding ran_of
pointer_after_reads d zero h g =
    let e : (d.internal.pointer + 0) % 256 ≡ d.internal.pointer = omega arith in
    let f : d.internal.pointer + 0 ≡ d.internal.pointer = omega arith in
    record { reading = h; pointer = sym e; last = rw f (read_pointer d true h) }
pointer_after_reads d (suc n) h g =
    let r = read_pointer d false h in
    let rest = pointer_after_reads (step_of d (Read false)).device n (read_reading d h) (omega arith) in
    record { reading = rest.reading; pointer = rest.pointer ∙ omega arith; last = rest.last ∙ omega arith }
