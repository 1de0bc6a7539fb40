-- What C lends is bytes, so that an answer buffer of 60,071 bytes is enough for every log, whatever the state.
-- Assumes nothing.
use Prim.Native.Nat.{ℕ, ◌/◌, ◌%◌, ◌^◌, ◌<◌, ◌≤◌}
use mathlib.Core.Path.{refl}
use mathlib.Core.Logic.{◌≢◌}
use mathlib.Core.Bool.{Bool, true, false, cond}
use mathlib.Core.List.{List}
use native.Mathlib.Omega.{arith}
use lib.Dec.{eqb}
use lib.ListN.{length, get_or}
use Rattle.memory.specs.Bytes.{AllBytes}
use Rattle.memory.specs.declared.Refusal.TheVariants.{NoRoom}
use Rattle.memory.proofs.AllBytes.{drop_bytes}
use Rattle.device.specs.declared.Phase.TheVariants.{Idle, Listening, Addressed, Writing, Reading, ReadingLow}
use Rattle.device.proofs.AnswerBytes.{low_in, HoldsBytes}
use Rattle.event_log.proofs.Lengths.{room_enough}
use Rattle.event_log.proofs.Refused.{run_returns}
use Rattle.host.specs.State.{Lent, phase_at, device_of}
use Rattle.host.specs.Calls.{run_call}
use Rattle.host.proofs.Returned.{host_run_returns}

-- a held low byte is the second byte of the internal state
low_byte : (n held : ℕ) → held < 256 → low_in (phase_at n held) < 256
unfolding phase_at
low_byte n held h = go (eqb n 1) (eqb n 2) (eqb n 3) (eqb n 4) (eqb n 5)
  where
    go : (a b c d e : Bool) → low_in (cond a Listening (cond b Addressed (cond c (Writing held) (cond d Reading (cond e (ReadingLow held) Idle))))) < 256
    go true b c d e = omega arith
    go false true c d e = omega arith
    go false false true d e = omega arith
    go false false false true e = omega arith
    go false false false false true = h
    go false false false false false = omega arith

pub lent_bytes : (l : Lent) → AllBytes l.bytes → AllBytes l.internal → HoldsBytes (device_of l)
unfolding device_of
lent_bytes l h g =
    record { memory = h; page = drop_bytes 6 l.internal g; low = low_byte (get_or l.internal 0 0) (get_or l.internal 1 0) (g 1) }

-- ds1852_run never is refused with 14 then
pub host_room : (l : Lent) (log b : List ℕ) → AllBytes l.bytes → AllBytes l.internal → 60071 ≤ length b → (run_call l log (length b)).number / 2 ^ 32 ≢ 14
host_room l log b h g k q =
    let n = (run_call l log (length b)).number % 2 ^ 32 in
    let row = ((host_run_returns l log b).exactly NoRoom n).0 (q, refl) in
    room_enough (device_of l) log b n (lent_bytes l h g) k (((run_returns (device_of l) log b).exactly NoRoom n).1 row)
