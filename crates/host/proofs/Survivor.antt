-- Document 02, 2.9, at C's numbers: each of 1, 2, 3 is of one outcome.
-- Assumes nothing.
use Prim.Native.Nat.{ℕ}
use mathlib.Core.Path.{◌≡◌, refl, sym, ap, ◌∙◌}
use mathlib.Core.Logic.Iff
use mathlib.Core.Logic.{◌↔◌}
use mathlib.Core.Bool.{cond}
use native.Mathlib.Omega.{arith}
use lib.Dec.{eqb}
use Rattle.std.specs.Prelude.{Ok, Err}
use Rattle.arbitration.specs.Arbitration.{Arbitration, arbitrate_of}
use Rattle.arbitration.specs.declared.Winner.{Winner}
use Rattle.arbitration.specs.declared.Winner.TheVariants.{First, Second, Both}
use Rattle.arbitration.proofs.Survivor.{smaller_survives}
use Rattle.host.specs.State.{device_of}
use Rattle.host.specs.Numbers.{winner_number, arbitration_number}
use Rattle.host.specs.Calls.{arbitrate_call}
use Rattle.host.specs.Survivor.{HostSurvivor}
use Rattle.host.proofs.Told.{refusal_low, winner_within}

winner_at : ℕ → Winner
winner_at n = cond (eqb n 1) First (cond (eqb n 2) Second Both)

winner_at_lem : (w : Winner) → winner_at (winner_number w) ≡ w
unfolding winner_at
winner_at_lem First = refl
winner_at_lem Second = refl
winner_at_lem Both = refl

number_won : (w : Winner) (x : Arbitration) → (arbitration_number x ≡ winner_number w) ↔ (x ≡ Ok w)
number_won w (Ok v) = (λ e. ap Ok (sym (winner_at_lem v) ∙ ap winner_at e ∙ winner_at_lem w), ap arbitration_number)
number_won w (Err r) = (λ e. absurd (omega (arith, (refusal_low r.why).0, (winner_within w).1)), ap arbitration_number)

pub host_survivor : HostSurvivor
unfolding arbitrate_call arbitrate_of
host_survivor l m n hm hn =
    let x = (arbitrate_of (device_of l) m n).outcome in
    record {
      first = Iff.trans (number_won First x) (smaller_survives m n First hm hn);
      second = Iff.trans (number_won Second x) (smaller_survives m n Second hm hn);
      both = Iff.trans (number_won Both x) (smaller_survives m n Both hm hn);
    }
