-- Demand 1 for a start and for a single event. One that is in range is answered, any other is refused, and a refusal leaves the device.
-- Assumes nothing.
use Rattle.std.specs.Prelude.{◌≢◌, Result, Ok, Err, IsOk}
use Prim.Native.Nat.{ℕ}
use mathlib.Core.Path.{◌≡◌, refl, sym, ap, ◌∙◌}
use native.Mathlib.Omega.{arith}
use mathlib.Core.Logic.{◌⊎◌, inl, inr}
use mathlib.Core.Bool.{Bool, true, false, cond}
use mathlib.Core.List.{List}
use lib.Dec.{leb, eqb}
use lib.ListN.{length, get_or}
use borrow.Author.Tests.{eq-eqb, ne_eqb, lt-leb, eqb-true, eqb-false, leb-false}
use Rattle.memory.specs.Refusals.{refused, Refuses}
use Rattle.memory.specs.Image.{image_memory, load_of}
use Rattle.memory.specs.declared.Memory.{Memory}
use Rattle.memory.specs.declared.Refused.{Refused}
use Rattle.memory.specs.declared.Refusal.{Refusal}
use Rattle.memory.specs.declared.Refusal.TheVariants.{OutsideRange, ImageSize, AselByte}
use Rattle.memory.proofs.Returns.{error_of, ok_none, returns_by}
use Rattle.memory.proofs.Whole.{loaded_as}
use Rattle.letters.specs.Letters.{kind_of, Decoded, Known, OutOfRange, UnknownLetter, decode_of, is_letter, in_range, event_of}
use Rattle.letters.specs.declared.Raw.{Raw}
use Rattle.letters.proofs.Decoding.{decoded_inside, decoded_outside}
use Rattle.device.specs.State.{at_rest}
use Rattle.device.specs.Calls.{device_with, started_by, Accepted, start_of, refused_of, applied_to, apply_of, StartRefused, image_size, asel_byte, StartReturns, EventRefused, outside_range, EventReturns}
use Rattle.device.specs.declared.Device.{Device}

pub inside_answered : (d : Device) (r : Raw) → in_range r ≡ true → apply_of d r ≡ applied_to d (Known (event_of r))
unfolding apply_of
inside_answered d r h = ap (applied_to d) (decoded_inside r h)

pub outside_refused : (d : Device) (r : Raw) → in_range r ≡ false → apply_of d r ≡ refused_of d
unfolding apply_of
outside_refused d r h = ap (applied_to d) (decoded_outside r h) ∙ go (is_letter (kind_of r))
  where
    go : (b : Bool) → applied_to d (cond b OutOfRange UnknownLetter) ≡ refused_of d
    go true = refl
    go false = refl

-- a refused event leaves the device
left_by : (d : Device) (x : Decoded) (e : Refused) → (applied_to d x).reply ≡ Err e → (applied_to d x).device ≡ d
left_by d (Known f) e q = absurd (grind arith)
left_by d OutOfRange e q = refl
left_by d UnknownLetter e q = refl

pub refused_left : (d : Device) (r : Raw) (why : Refusal) (line : ℕ) → (apply_of d r).reply ≡ Err (refused why line) → (apply_of d r).device ≡ d
unfolding apply_of
refused_left d r why line e = left_by d (decode_of r) (refused why line) e

-- ---- a start

-- the device of an accepted image, and no other
pub started_is : (image : List ℕ) (d : Device) → start_of image ≡ Ok d → d ≡ started_by image
unfolding start_of
started_is image d e = go (load_of image) (λ m q. (loaded_as image m q).1) e
  where
    go : (r : Result Memory Refused) → ((m : Memory) → r ≡ Ok m → image_memory image ≡ m) → device_with r ≡ Ok d → d ≡ started_by image
    go (Ok m) h q = sym (grind arith) ∙ ap at_rest (sym (h m refl))
    go (Err x) h q = absurd (grind arith)

-- an accepted image is loaded
pub accepted_loads : (image : List ℕ) → Accepted image → load_of image ≡ Ok (image_memory image)
unfolding start_of
accepted_loads image e = go (load_of image) (λ m q. (loaded_as image m q).1) e
  where
    go : (r : Result Memory Refused) → ((m : Memory) → r ≡ Ok m → image_memory image ≡ m) → device_with r ≡ Ok (started_by image) → r ≡ Ok (image_memory image)
    go (Ok m) h q = ap Ok (sym (h m refl))
    go (Err x) h q = absurd (grind arith)

-- ---- demand 1

start_row : (image : List ℕ) (why : Refusal) (line : ℕ) → StartRefused image why line → start_of image ≡ Err (refused why line)
unfolding start_of load_of
start_row image why line (image_size h) = rw (ne_eqb (length image) 741 h)
start_row image why line (asel_byte h g) = rw (eq-eqb (length image) 741 h, lt-leb (get_or image 484 0) 1 g)

start_either : (image : List ℕ) → (start_of image ≡ Ok (started_by image)) ⊎ Refuses (StartRefused image)
unfolding start_of load_of
start_either image = go (eqb (length image) 741) (leb (get_or image 484 0) 1) refl refl
  where
    go : (sized asel : Bool) → eqb (length image) 741 ≡ sized → leb (get_or image 484 0) 1 ≡ asel
        → (device_with (cond sized (cond asel (Ok (image_memory image)) (Err (refused AselByte 0))) (Err (refused ImageSize 0))) ≡ Ok (started_by image))
        ⊎ Refuses (StartRefused image)
    go true true e f = inl refl
    go true false e f = inr (record { why = AselByte; line = 0; circumstance = asel_byte (eqb-true _ _ e) (leb-false _ _ f) })
    go false asel e f = inr (record { why = ImageSize; line = 0; circumstance = image_size (eqb-false _ _ e) })

no_device : (image : List ℕ) (e : Refused) → start_of image ≡ Err e → (d : Device) → start_of image ≢ Ok d
no_device image e q d f = absurd (grind arith)

pub start_returns : StartReturns
start_returns image =
    returns_by error_of (λ a. ap error_of a) (λ why line s. ap error_of s) (start_either image) (start_row image)
    (λ r. no_device image (refused r.why r.line) (start_row image r.why r.line r.circumstance))

reply_row : (d : Device) (r : Raw) (why : Refusal) (line : ℕ) → EventRefused r why line → (apply_of d r).reply ≡ Err (refused why line)
reply_row d r why line (outside_range h) = rw (outside_refused d r h)

pub event_returns : EventReturns
event_returns d r =
    returns_by error_of (ok_none (apply_of d r).reply) (λ why line s. ap error_of s) (go (in_range r) refl) (reply_row d r)
    (λ x. refused_left d r x.why x.line (reply_row d r x.why x.line x.circumstance))
  where
    go : (b : Bool) → in_range r ≡ b → IsOk (apply_of d r).reply ⊎ Refuses (EventRefused r)
    go true h = inl (rw (inside_answered d r h))
    go false h = inr (record { why = OutsideRange; line = 0; circumstance = outside_range h })
