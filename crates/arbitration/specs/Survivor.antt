-- Document 02, 2.9: what holds of two hosts on one line. The statements.
use Rattle.std.specs.Prelude.{ℕ, zero, suc, ◌+◌, ◌*◌, ◌^◌, ◌<◌, ◌≡◌, ◌≢◌, ◌↔◌, Bool, List, [], ◌∷◌, ◌++◌, map, length, get_or, take, drop, Result, Ok, Err}
use Prim.{Unit}
use Rattle.memory.specs.Bytes.{one_if, AllBytes}
use Rattle.memory.specs.Refusals.{Refuses}
use Rattle.memory.specs.declared.Refused.{Refused}
use Rattle.letters.specs.Letters.{raw_of}
use Rattle.letters.specs.declared.Event.TheVariants.{Start, Stop, Byte}
use Rattle.device.specs.Run.{after_of}
use Rattle.device.specs.declared.Device.{Device}
use Rattle.arbitration.specs.Line.{Host, Sending, Out, hosts_after, carried_in, together}
use Rattle.arbitration.specs.Arbitration.{outcome_of, message_of, transfer_of, arbitrate_of, SizeAllowed, FirstEven, ArbitrateRefused}
use Rattle.arbitration.specs.declared.Winner.{Winner}
use Rattle.arbitration.specs.declared.Winner.TheVariants.{First, Second, Both}

-- ---- who survives

-- behind a common beginning m has x and n has y
pub record SameUpTo {A : Type 0} (m n : List A) (x y : A) : Type 0 where
  pub common : List A
  pub after_x : List A
  pub after_y : List A
  pub left : m ≡ common ++ (x ∷ after_x)
  pub right : n ≡ common ++ (y ∷ after_y)

-- the first byte in which m and n differ is smaller in m
pub record SmallerFirst (m n : List ℕ) : Type 0 where
  pub x : ℕ
  pub y : ℕ
  pub place : SameUpTo m n x y
  pub smaller : x < y

abbrev pub Survives : Winner → (m n : List ℕ) → Type 0
Survives First m n = SmallerFirst m n
Survives Second m n = SmallerFirst n m
Survives Both m n = m ≡ n

-- by the bits, the survivor is the host whose first differing byte is smaller, and both are exactly if the messages are equal: of messages of
-- bytes that are not refused
abbrev pub SmallerSurvives : Type 0
SmallerSurvives =
    (m n : List ℕ) (w : Winner)
    → AllBytes m → AllBytes n
    → (outcome_of m n ≡ Ok w) ↔ ((Refuses (ArbitrateRefused m n) → ⊥) × Survives w m n)

-- "equal messages count as one": the device receives the message once
abbrev pub EqualCountAsOne : Type 0
EqualCountAsOne =
    (d : Device) (m : List ℕ)
    → SizeAllowed m → FirstEven m
    → (outcome_of m m ≡ Ok Both) × ((arbitrate_of d m m).device ≡ after_of d (map raw_of (transfer_of m)))

-- ---- what the line carries

-- the number that bits make, top bit first
unfoldable pub value_of : List Bool → ℕ
value_of [] = 0
value_of (b ∷ bs) = one_if b * 2 ^ length bs + value_of bs

-- n bytes of eight bits each
unfoldable pub bytes_in : ℕ → List Bool → List ℕ
bytes_in zero bs = []
bytes_in (suc n) bs = value_of (take 8 bs) ∷ bytes_in n (drop 8 bs)

-- the first k bytes that the line carries, when hosts with messages m and n start together
abbrev pub bytes_on_line : (m n : List ℕ) → ℕ → List ℕ
bytes_on_line m n k = bytes_in k (carried_in (8 * k) (together m n))

-- a host has no bit left to send
abbrev pub sends_no_more : Host → Type 0
sends_no_more (Sending []) = Unit
sends_no_more (Sending (b ∷ bs)) = ⊥
sends_no_more Out = Unit

-- what the line carries, byte by byte, is the survivor's message; then neither host has a bit left; and what the line carried is what the
-- device receives between S and E
pub record LineCarries (d : Device) (m n : List ℕ) (w : Winner) : Type 0 where
  pub bytes : bytes_on_line m n (length (message_of w m n)) ≡ message_of w m n
  pub first_ended : sends_no_more (hosts_after (8 * length (message_of w m n)) (together m n)).first
  pub second_ended : sends_no_more (hosts_after (8 * length (message_of w m n)) (together m n)).second
  pub received : (arbitrate_of d m n).device ≡ after_of d (map raw_of (Start ∷ (map Byte (bytes_on_line m n (length (message_of w m n))) ++ (Stop ∷ []))))

abbrev pub SurvivorCarried : Type 0
SurvivorCarried = (d : Device) (m n : List ℕ) (w : Winner) → AllBytes m → AllBytes n → outcome_of m n ≡ Ok w → LineCarries d m n w

-- ---- the order of the two hosts

abbrev pub exchanged : Result Winner Refused → Result Winner Refused
exchanged (Ok First) = Ok Second
exchanged (Ok Second) = Ok First
exchanged (Ok Both) = Ok Both
exchanged (Err e) = Err e

-- exchanged messages give the exchanged answer and the same device
abbrev pub OrderFree : Type 0
OrderFree =
    (d : Device) (m n : List ℕ)
    → AllBytes m → AllBytes n
    → (outcome_of n m ≡ exchanged (outcome_of m n)) × ((arbitrate_of d n m).device ≡ (arbitrate_of d m n).device)

-- ---- who can be forced off

-- there is a message of bytes of which P holds
pub record SomeMessage (P : List ℕ → Type 0) : Type 0 where
  pub message : List ℕ
  pub bytes : AllBytes message
  pub holds : P message

-- a byte of m is not 00h
pub record HasNonzero (m : List ℕ) : Type 0 where
  pub place : ℕ
  pub inside : place < length m
  pub other : get_or m place 0 ≢ 0

-- "A host whose own message passes 20 and 21 can be forced off by some allowed message exactly when its own has a byte other than 00h": the
-- pair is not refused, and the other host alone survives; where it is the first host, and where it is the second
abbrev pub ForcedOff : Type 0
ForcedOff =
    (m : List ℕ)
    → AllBytes m → SizeAllowed m → FirstEven m
    → (SomeMessage (λ n. outcome_of m n ≡ Ok Second) ↔ HasNonzero m) × (SomeMessage (λ n. outcome_of n m ≡ Ok First) ↔ HasNonzero m)
