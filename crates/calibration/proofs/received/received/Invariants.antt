-- `received`: as far as the loop has come, every coefficient is finite, and what the higher powers gave.
use Rattle.std.proofs.Common.{◌≡◌, true, ◌∷◌, map, take}
use Rattle.std.specs.List.{list_all}
use Rattle.std.specs.Float.Ieee.Scale.{finite}
use Rattle.calibration.specs.Calibration.{binary32_at, down_from}
use Rattle.calibration.proofs.received.received.Given as goal

abbrev pub invariant-loop-i : goal.invariant-loop-i
invariant-loop-i l =
    (list_all (λ i. finite (binary32_at l.lower i)) (0x38 ∷ take l.i-index l.i-items) ≡ true)
    × (l.y ≡ down_from l.x (binary32_at l.lower 0x38) (map (binary32_at l.lower) (take l.i-index l.i-items)))
