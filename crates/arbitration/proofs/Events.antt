-- The events of a settled transfer: before its E they leave the memory, and none of them ends busy.
-- Assumes nothing.
use Rattle.std.proofs.Common.{Result, Ok, Err}
use Prim.Native.Nat.{ℕ, zero, suc, ◌+◌, ◌%◌, ◌<◌, ◌≤◌}
use mathlib.Core.Path.{◌≡◌, refl, ◌∙◌}
use mathlib.Core.Bool.{Bool, true, false, cond, not}
use mathlib.Core.List.{List, [], ◌∷◌, ◌++◌, map}
use native.Mathlib.Omega.{arith}
use lib.Dec.{leb}
use lib.ListN.{length, take, length-map, length-append}
use Rattle.memory.specs.declared.Refused.{Refused}
use Rattle.letters.specs.Letters.{kind_of, Decoded, Known, OutOfRange, decode_of, raw_of}
use Rattle.letters.specs.declared.Event.TheVariants.{Stop, Byte}
use Rattle.letters.specs.declared.Raw.{Raw}
use Rattle.device.specs.Bus.{started_of}
use Rattle.device.specs.Calls.{applied_to, apply_of}
use Rattle.device.specs.Run.{after_of}
use Rattle.device.specs.Busy.{ends_busy_by, none_ends_busy}
use Rattle.device.specs.declared.Device.{Device}
use Rattle.device.proofs.Steps.{byte_kept}
use Rattle.arbitration.specs.Arbitration.{outcome_of, message_of, transfer_of, events_by, events_of}
use Rattle.arbitration.specs.declared.Winner.{Winner}

-- a byte, in its range or not, leaves the memory and does not end busy
module _ (v : ℕ) where
  abbrev decoded : Bool → Decoded
  decoded inside = cond inside (Known (Byte (v % 256))) OutOfRange

  byte_leaves : (d : Device) → (apply_of d (raw_of (Byte v))).device.memory ≡ d.memory
  unfolding apply_of decode_of kind_of raw_of
  byte_leaves d = go (leb v 255)
    where
      go : (inside : Bool) → (applied_to d (decoded inside)).device.memory ≡ d.memory
      go true = (byte_kept d.internal.phase d (v % 256)).memory
      go false = refl

  byte_stays : not (ends_busy_by (decode_of (raw_of (Byte v)))) ≡ true
  unfolding decode_of kind_of raw_of
  byte_stays = go (leb v 255)
    where
      go : (inside : Bool) → not (ends_busy_by (decoded inside)) ≡ true
      go true = refl
      go false = refl

-- the bytes of a message and E
abbrev after_start : List ℕ → List Raw
after_start m = map raw_of (map Byte m ++ (Stop ∷ []))

bytes_leave : (m : List ℕ) (k : ℕ) (d : Device) → k ≤ length m → (after_of d (take k (after_start m))).memory ≡ d.memory
unfolding after_of
bytes_leave m zero d h = refl
bytes_leave [] (suc k) d h = absurd (omega arith)
bytes_leave (x ∷ m) (suc k) d h = bytes_leave m k (apply_of d (raw_of (Byte x))).device (omega arith) ∙ byte_leaves x d

-- a transfer, before its E
transfer_leaves : (m : List ℕ) (k : ℕ) (d : Device) → k < length (map raw_of (transfer_of m)) → (after_of d (take k (map raw_of (transfer_of m)))).memory ≡ d.memory
unfolding after_of apply_of decode_of kind_of raw_of started_of
transfer_leaves m zero d h = refl
transfer_leaves m (suc k) d h =
    let size : length (after_start m) ≡ length m + 1 =
    length-map (map Byte m ++ (Stop ∷ [])) raw_of ∙ length-append (map Byte m) (Stop ∷ []) ∙ rw (length-map m Byte) in
    bytes_leave m k (started_of d) (omega (arith, size))

pub events_leave : (m n : List ℕ) (k : ℕ) (d : Device) → k < length (events_of m n) → (after_of d (take k (events_of m n))).memory ≡ d.memory
unfolding events_of
events_leave m n k d = go (outcome_of m n)
  where
    go : (x : Result Winner Refused) → k < length (events_by x m n) → (after_of d (take k (events_by x m n))).memory ≡ d.memory
    go (Ok w) h = transfer_leaves (message_of w m n) k d h
    go (Err e) h = absurd (omega arith)

-- none of them ends busy
bytes_stay : (m : List ℕ) → none_ends_busy (after_start m) ≡ true
unfolding none_ends_busy decode_of kind_of raw_of
bytes_stay [] = refl
bytes_stay (x ∷ m) = rw (byte_stays x) (bytes_stay m)

pub events_stay : (m n : List ℕ) → none_ends_busy (events_of m n) ≡ true
unfolding events_of none_ends_busy decode_of kind_of raw_of
events_stay m n = go (outcome_of m n)
  where
    go : (x : Result Winner Refused) → none_ends_busy (events_by x m n) ≡ true
    go (Ok w) = bytes_stay (message_of w m n)
    go (Err e) = refl
