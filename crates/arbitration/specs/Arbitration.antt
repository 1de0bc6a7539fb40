-- Document 02, 2.9: what two messages come to, with the refusals, and the device after it; then demand 1 for the call.
use Rattle.memory.specs.declared.Refused.{Refused}
use Rattle.std.specs.Prelude.{IsOk, ℕ, ◌%◌, ◌<◌, ◌≤◌, ◌≡◌, ◌⊎◌, Bool, true, false, cond, ◌&&◌, ◌||◌, List, [], ◌∷◌, ◌++◌, map, eqb, length, get_or, Result, Ok, Err}
use Rattle.memory.specs.Bytes.{within}
use Rattle.memory.specs.Refusals.{refused, Returns}
use Rattle.memory.specs.declared.Refusal.{Refusal}
use Rattle.memory.specs.declared.Refusal.TheVariants.{MessageLength, FirstByteOdd, MessagePrefix}
use Rattle.letters.specs.Letters.{raw_of}
use Rattle.letters.specs.declared.Event.{Event}
use Rattle.letters.specs.declared.Event.TheVariants.{Start, Stop, Byte}
use Rattle.letters.specs.declared.Raw.{Raw}
use Rattle.device.specs.Run.{after_of}
use Rattle.device.specs.declared.Device.{Device}
use Rattle.arbitration.specs.Line.{winner_of}
use Rattle.arbitration.specs.declared.Winner.{Winner}
use Rattle.arbitration.specs.declared.Winner.TheVariants.{First, Second, Both}
use Rattle.arbitration.specs.declared.ArbitrationResult.{ArbitrationResult}

-- ---- the refusals, each tested over both messages before the next

-- 20 when a message is empty or over 16 bytes
abbrev pub length_passes : List ℕ → Bool
length_passes m = within 1 16 (length m)

-- 21 when a first byte is odd
abbrev pub first_passes : List ℕ → Bool
first_passes m = eqb (get_or m 0 0 % 2) 0

-- 22 when one message is the beginning of the other and shorter: whether m is that of n
unfoldable pub begins : (m n : List ℕ) → Bool
begins [] [] = false
begins [] (y ∷ n) = true
begins (x ∷ m) [] = false
begins (x ∷ m) (y ∷ n) = eqb x y && begins m n

-- who survives, or the refusal
abbrev pub Arbitration : Type 0
Arbitration = Result Winner Refused

-- of two messages, with line 0. The device has no part in it
unfoldable pub outcome_of : (m n : List ℕ) → Arbitration
outcome_of m n =
    cond (length_passes m && length_passes n)
    (cond (first_passes m && first_passes n)
    (cond (begins m n || begins n m) (Err (refused MessagePrefix 0)) (Ok (winner_of m n)))
    (Err (refused FirstByteOdd 0)))
    (Err (refused MessageLength 0))

-- ---- the device

-- the survivor's bytes; "equal messages count as one"
abbrev pub message_of : Winner → (m n : List ℕ) → List ℕ
message_of First m n = m
message_of Second m n = n
message_of Both m n = m

-- "The device receives S, the survivor's bytes and E"
abbrev pub transfer_of : List ℕ → List Event
transfer_of m = Start ∷ (map Byte m ++ (Stop ∷ []))

-- the events of a call: none where it is refused
abbrev pub events_by : Arbitration → (m n : List ℕ) → List Raw
events_by (Ok w) m n = map raw_of (transfer_of (message_of w m n))
events_by (Err e) m n = []

unfoldable pub events_of : (m n : List ℕ) → List Raw
events_of m n = events_by (outcome_of m n) m n

-- who survives with the device after those events; a refusal leaves the device
unfoldable pub arbitrate_of : Device → (m n : List ℕ) → ArbitrationResult
arbitrate_of d m n = record { outcome = outcome_of m n; device = after_of d (events_of m n) }

-- over a device whose line is lent: the outcome, with the device that the call leaves
abbrev pub result_with : Arbitration → Device → ArbitrationResult
result_with x d = record { outcome = x; device = d }

-- ---- demand 1

-- a message that 20 is for, and one that it is not for
abbrev pub SizeRefused : List ℕ → Type 0
SizeRefused m = (length m ≡ 0) ⊎ (16 < length m)

abbrev pub SizeAllowed : List ℕ → Type 0
SizeAllowed m = (1 ≤ length m) × (length m ≤ 16)

-- the same of 21
abbrev pub FirstOdd : List ℕ → Type 0
FirstOdd m = get_or m 0 0 % 2 ≡ 1

abbrev pub FirstEven : List ℕ → Type 0
FirstEven m = get_or m 0 0 % 2 ≡ 0

-- m is the beginning of n and shorter
pub record Beginning (m n : List ℕ) : Type 0 where
  pub rest : List ℕ
  pub some : 0 < length rest
  pub text : n ≡ m ++ rest

-- when a call is refused, with line 0: with 20 if a message is empty or over 16 bytes; else with 21 if a first byte is odd; else with 22 if one
-- message is the beginning of the other and shorter
pub data ArbitrateRefused (m n : List ℕ) : Refusal → ℕ → Type 0 where
  message_length : SizeRefused m ⊎ SizeRefused n → ArbitrateRefused m n MessageLength 0
  first_byte_odd : SizeAllowed m × SizeAllowed n → FirstOdd m ⊎ FirstOdd n → ArbitrateRefused m n FirstByteOdd 0
  message_prefix : SizeAllowed m × SizeAllowed n → FirstEven m × FirstEven n → Beginning m n ⊎ Beginning n m → ArbitrateRefused m n MessagePrefix 0

-- a refused call leaves the device; the messages are lent to be read
abbrev pub ArbitrateReturns : Type 0
ArbitrateReturns =
    (d : Device) (m n : List ℕ)
    → Returns IsOk (λ why line x. x ≡ Err (refused why line)) (ArbitrateRefused m n) ((arbitrate_of d m n).device ≡ d) (arbitrate_of d m n).outcome
