-- Document 02, 2.8, for a C host: the write cycles of its calls, single events, logs and two hosts on one line, in any mix and number. The
-- statements.
use Rattle.std.specs.Prelude.{ℕ, ◌+◌, ◌*◌, ◌≤◌, ◌≡◌, ◌&&◌, List, [], ◌∷◌, eqb, length}
use Rattle.std.proofs.Math.Option.{get_or}
use Rattle.memory.specs.Bytes.{one_if}
use Rattle.device.specs.Measured.{Cycled}
use Rattle.event_log.specs.Secrecy.{Call, Single, Log, Arbitrate}
use Rattle.event_log.specs.Wear.{calls_cycles, all_events_run}
use Rattle.host.specs.State.{Lent, device_of}
use Rattle.host.specs.Calls.{apply_call, cycles_call, arbitrate_call, busy_at}
use Rattle.host.specs.Secrecy.{lent_by}

-- one, where `ds1852_lent_busy` is 0 before a call and 1 after it
abbrev pub busy_edge : (before after : Lent) → ℕ
busy_edge l k = one_if (eqb (busy_at l.internal) 0 && eqb (busy_at k.internal) 1)

-- what the host counts of a call: of a single event, and of two hosts on one line, by busy before and after it; of a log the lent number, which
-- the host set to 0 before the run
unfoldable pub host_call_cycles : Lent → Call → ℕ
host_call_cycles l (Single r) = one_if (eqb (busy_at l.internal) 0 && eqb (busy_at (apply_call l r).left.internal) 1)
host_call_cycles l (Log log b) = get_or (cycles_call l log (length b)) 0
host_call_cycles l (Arbitrate m n) = busy_edge l (arbitrate_call l m n).left

unfoldable pub host_cycles : Lent → List Call → ℕ
host_cycles l [] = 0
host_cycles l (c ∷ cs) = host_call_cycles l c + host_cycles (lent_by l c) cs

-- it is the number of write cycles of the calls, for any lists
abbrev pub HostWear : Type 0
HostWear = (l : Lent) (cs : List Call) → host_cycles l cs ≡ calls_cycles (device_of l) cs

-- and the bound holds of it, from lists that stand for a device that a start or a C has just left
abbrev pub HostWearBound : Type 0
HostWearBound = (l : Lent) (cs : List Call) → Cycled (device_of l) → 6 * host_cycles l cs ≤ length (all_events_run (device_of l) cs) + 1
