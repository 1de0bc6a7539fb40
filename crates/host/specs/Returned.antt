-- Demand 1 at C's numbers: which number comes back from a call, and when. The tables of refusals stand beside the calls: `StartRefused` and
-- `EventRefused` in specs/Calls of crate device, `RunRefused` and `WriteRefused` in specs/Refused of crate event_log, `CalibrateRefused` in
-- specs/Calibration of crate calibration, `ArbitrateRefused` in specs/Arbitration of crate arbitration. A call that a request adds joins here.
use Rattle.std.specs.Prelude.{ℕ, ◌/◌, ◌%◌, ◌^◌, ◌<◌, ◌≤◌, ◌≡◌, List, length}
use Rattle.std.proofs.Math.Option.{none}
use Rattle.memory.specs.Refusals.{number_of, Returns}
use Rattle.memory.specs.declared.Refusal.{Refusal}
use Rattle.letters.specs.declared.Raw.{Raw}
use Rattle.device.specs.Calls.{StartRefused, EventRefused}
use Rattle.event_log.specs.Write.{written_of, left_of}
use Rattle.event_log.specs.Run.{buffer_of}
use Rattle.event_log.specs.Refused.{RunRefused, WriteRefused}
use Rattle.arbitration.specs.Arbitration.{ArbitrateRefused}
use Rattle.calibration.specs.Calibration.{calibrated_of, CalibrateRefused}
use Rattle.calibration.specs.declared.Raws.{Raws}
use Rattle.host.specs.State.{Lent, device_of}
use Rattle.host.specs.Numbers.{outcome_number}
use Rattle.host.specs.Calls.{start_call, apply_call, run_call, cycles_call, arbitrate_call}
use Rattle.host.specs.Values.{Five, five_after, calibrated_number}

-- a refusal with line 0: its number
abbrev pub says_number : Refusal → ℕ → ℕ → Type 0
says_number why line number = (number ≡ number_of why) × (line ≡ 0)

-- a refusal and its line, in the upper and the lower 32 bits
abbrev pub says_line : Refusal → ℕ → ℕ → Type 0
says_line why line number = (number / 2 ^ 32 ≡ number_of why) × (number % 2 ^ 32 ≡ line)

-- a start: 0, or 15 or 16, which leave all lent bytes
abbrev pub HostStartReturns : Type 0
HostStartReturns =
    (l : Lent) (image : List ℕ)
    → Returns (λ (n : ℕ). n ≡ 0) says_number (StartRefused image) ((start_call l image).left ≡ l) (start_call l image).number

-- a single event: 256 or more, or 13, which leaves the lent bytes
abbrev pub HostEventReturns : Type 0
HostEventReturns =
    (l : Lent) (r : Raw)
    → Returns (λ (n : ℕ). 256 ≤ n) says_number (EventRefused r) ((apply_call l r).left ≡ l) (apply_call l r).number

-- a run: less than 2^32, or 11 to 14 with a line, which leave the lent bytes, the answer buffer and the lent number of write cycles
abbrev pub HostRunReturns : Type 0
HostRunReturns =
    (l : Lent) (log b : List ℕ)
    → Returns (λ (n : ℕ). n < 2 ^ 32) says_line (RunRefused (device_of l) log (length b))
    (((run_call l log (length b)).left ≡ l) × ((buffer_of (device_of l) log b ≡ b) × (cycles_call l log (length b) ≡ none))) (run_call l log (length b)).number

-- the writer: less than 2^32, or 13, 11 or 14 with line 0, which leave its buffer
abbrev pub HostWriteReturns : Type 0
HostWriteReturns =
    (rs : List Raw) (b : List ℕ)
    → Returns (λ (n : ℕ). n < 2 ^ 32) says_line (WriteRefused rs (length b)) (left_of rs b ≡ b) (outcome_number (written_of rs (length b)))

-- a calibration: 0, or 17, 18 or 19, which leave what the host holds of values
abbrev pub HostCalibrateReturns : Type 0
HostCalibrateReturns =
    (held : Five) (l : List ℕ) (raws : Raws)
    → Returns (λ (n : ℕ). n ≡ 0) says_number (CalibrateRefused l) (five_after held (calibrated_of l raws) ≡ held) (calibrated_number (calibrated_of l raws))

-- two hosts on one line: 1, 2 or 3, or 20, 21 or 22, which leave the lent bytes
abbrev pub HostArbitrateReturns : Type 0
HostArbitrateReturns =
    (l : Lent) (m n : List ℕ)
    → Returns (λ (k : ℕ). (1 ≤ k) × (k ≤ 3)) says_number (ArbitrateRefused m n) ((arbitrate_call l m n).left ≡ l) (arbitrate_call l m n).number
