-- Document 02, 2.8, for a C host: what it counts is the number of write cycles of its calls.
-- Assumes nothing.
use Prim.Native.Nat.{ℕ, ◌+◌}
use mathlib.Core.Path.{◌≡◌, refl, ap, ap₂, ◌∙◌}
use mathlib.Core.Bool.{Bool, true, false, ◌&&◌}
use mathlib.Core.Option.{get_or}
use mathlib.Core.List.{List, [], ◌∷◌}
use lib.Dec.{eqb, leb}
use lib.ListN.{length}
use Rattle.memory.specs.Bytes.{one_if}
use Rattle.letters.specs.declared.Event.{Event}
use Rattle.device.specs.Calls.{started_by, apply_of}
use Rattle.device.specs.Run.{answers_of}
use Rattle.device.specs.Measured.{Cycled, by_start}
use Rattle.device.specs.Wear.{cycles_begun}
use Rattle.device.specs.declared.Device.{Device}
use Rattle.arbitration.specs.Arbitration.{arbitrate_of}
use Rattle.event_log.specs.Log.{Read, Events, Stopped, read_of}
use Rattle.event_log.specs.Run.{text_of, ran_by, run_of}
use Rattle.event_log.specs.Secrecy.{Call, Single, Log, Arbitrate}
use Rattle.event_log.specs.Wear.{call_cycles, calls_cycles}
use Rattle.event_log.proofs.Results.{ended}
use Rattle.event_log.proofs.Wear.{calls_wear_bound}
use Rattle.host.specs.State.{Lent, device_of}
use Rattle.host.specs.Calls.{cycles_given, start_call, apply_call, cycles_call, arbitrate_call, busy_at}
use Rattle.host.specs.Secrecy.{lent_by}
use Rattle.host.specs.Wear.{busy_edge, host_call_cycles, host_cycles, HostWear, HostWearBound}
use Rattle.host.proofs.Back.{back}
use Rattle.host.proofs.After.{kept_start, kept_apply, arbitrate_agrees}
use Rattle.host.proofs.Reach.{accepted_start}
use Rattle.host.proofs.Secrecy.{device_by}

-- 0 before and 1 after is not busy before and busy after
edge : (was is : Bool) → one_if (eqb (one_if was) 0 && eqb (one_if is) 1) ≡ cycles_begun was is
edge true is = refl
edge false true = refl
edge false false = refl

lent_busy : (l : Lent) → busy_at l.internal ≡ one_if (device_of l).internal.busy
unfolding device_of
lent_busy l = refl

-- lists l before a call, and lists k that stand for device d after it
edge_counts : (l k : Lent) (d : Device) → device_of k ≡ d → busy_edge l k ≡ cycles_begun (device_of l).internal.busy d.internal.busy
edge_counts l k d e = rw (lent_busy l, lent_busy k, e) (edge (device_of l).internal.busy d.internal.busy)

-- what a run writes to a number that was 0 is what it returns
ended_given : (d : Device) (es : List Event) (fits : Bool) → let a = ended d es fits in get_or (cycles_given a.outcome a.cycles) 0 ≡ a.cycles
ended_given d es true = refl
ended_given d es false = refl

ran_given : (d : Device) (room : ℕ) (o : Read) → let a = ran_by d room o in get_or (cycles_given a.outcome a.cycles) 0 ≡ a.cycles
unfolding ran_by
ran_given d room (Events es) = ended_given d es (leb (length (text_of (answers_of d es))) room)
ran_given d room (Stopped why n) = refl

call_counts : (l : Lent) (c : Call) → host_call_cycles l c ≡ call_cycles (device_of l) c
unfolding host_call_cycles call_cycles cycles_call run_of
call_counts l (Single r) = edge_counts l (apply_call l r).left (apply_of (device_of l) r).device (kept_apply l r)
call_counts l (Log log b) = ran_given (device_of l) (length b) (read_of log)
call_counts l (Arbitrate m n) = edge_counts l (arbitrate_call l m n).left (arbitrate_of (device_of l) m n).device (arbitrate_agrees l m n)

pub host_wear : HostWear
unfolding host_cycles calls_cycles
host_wear l [] = refl
host_wear l (c ∷ cs) =
    ap₂ (λ (m n : ℕ). m + n) (call_counts l c) (host_wear (lent_by l c) cs ∙ ap (λ (d : Device). calls_cycles d cs) (device_by l c))

pub host_wear_bound : HostWearBound
host_wear_bound l cs h = rw (host_wear l cs) (calls_wear_bound (device_of l) cs h)

-- lists that a start that is not refused has just left are such
pub cycled_start : (l : Lent) (image : List ℕ) → (start_call l image).number ≡ 0 → Cycled (device_of (start_call l image).left)
cycled_start l image h =
    let e = accepted_start l image h in
    rw (kept_start l image e, back (started_by image)) (by_start image e)
