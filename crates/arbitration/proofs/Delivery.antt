-- A message as the device receives it: S, its bytes one by one, E; and the same as raw events, each in its range.
-- Assumes nothing.
use Rattle.std.proofs.Common.{Result, Ok, Err}
use Prim.Native.Nat.{ℕ, suc}
use mathlib.Core.Path.{◌≡◌, sym, ◌∙◌}
use mathlib.Core.List.{List, [], ◌∷◌, ◌++◌, map}
use native.Mathlib.Omega.{arith}
use Rattle.memory.specs.Bytes.{AllBytes}
use Rattle.memory.specs.declared.Refused.{Refused}
use Rattle.letters.specs.Letters.{raw_of}
use Rattle.letters.specs.declared.Event.{Event}
use Rattle.letters.specs.declared.Event.TheVariants.{Start, Stop, Byte}
use Rattle.letters.proofs.Named.{row_known}
use Rattle.device.specs.Step.{step_of}
use Rattle.device.specs.Run.{after_of, ran_of}
use Rattle.device.specs.declared.Device.{Device}
use Rattle.device.specs.declared.Stepped.{Stepped}
use Rattle.device.proofs.Runs.{ran_append, InRange, none, more, as_raw}
use Rattle.arbitration.specs.Arbitration.{outcome_of, message_of, transfer_of, events_of, arbitrate_of, result_with}
use Rattle.arbitration.specs.declared.Winner.{Winner}

-- a turn of the loop: one event more
pub one_event : (d before : Device) (after : Stepped) (es : List Event) (e : Event) → before ≡ ran_of d es → after ≡ step_of before e
    → after.device ≡ ran_of d (es ++ (e ∷ []))
unfolding ran_of
one_event d before after es e p q = rw (q, p) (sym (ran_append es (e ∷ []) d))

-- each event is in its range
bytes_range : (m : List ℕ) (es : List Event) → AllBytes m → InRange es → InRange (map Byte m ++ es)
bytes_range [] es h g = g
bytes_range (x ∷ m) es h g = more (Byte x) (map Byte m ++ es) (row_known (Byte x) (omega (arith, h 0))) (bytes_range m es (λ i. h (suc i)) g)

transfer_range : (m : List ℕ) → AllBytes m → InRange (transfer_of m)
transfer_range m h =
    more Start (map Byte m ++ (Stop ∷ [])) (row_known Start tt) (bytes_range m (Stop ∷ []) h (more Stop [] (row_known Stop tt) none))

-- the whole transfer
pub delivered : (d sent : Device) (m : List ℕ) → AllBytes m → sent ≡ ran_of d (transfer_of m) → sent ≡ after_of d (map raw_of (transfer_of m))
delivered d sent m h p = p ∙ sym (as_raw d (transfer_range m h)).device

-- ---- the whole call, by what `outcome` gives

pub won_is : (d next : Device) (m n : List ℕ) (x : Result Winner Refused) (w : Winner) → x ≡ outcome_of m n → x ≡ Ok w
    → next ≡ after_of d (map raw_of (transfer_of (message_of w m n))) → result_with (Ok w) next ≡ arbitrate_of d m n
unfolding events_of arbitrate_of
won_is d next m n x w p q r = rw (sym p ∙ q, r)

pub refused_is : (d : Device) (m n : List ℕ) (x y : Result Winner Refused) (e : Refused) → x ≡ outcome_of m n → x ≡ Err e → y ≡ Err e
    → result_with y d ≡ arbitrate_of d m n
unfolding after_of events_of arbitrate_of
refused_is d m n x y e p q r = rw (sym p ∙ q, r)
